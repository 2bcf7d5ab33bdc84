-- Following the way rule: what is left of the distance falls with each hop. Assumes nothing.
use Rattle.std.proofs.Common.{◌≡◌, ℕ, ◌+◌, ◌<◌, ◌≤◌, List, [], ◌∷◌, ◌++◌, Some, sym, subst, inl, inr, arith}
use Rattle.ways.specs.Places.{On, Apart}
use Rattle.ways.specs.Way.{Hop, Joined, Leads, total}
use Rattle.ways.proofs.Graph.{to_in, some_length}
use Rattle.ways.proofs.Metric.{same}
use Rattle.oracle.specs.Meaning.{Meaning, far, Towards, Sound}
use Rattle.trees.specs.Growth.{walked}
use Rattle.trees.proofs.Places.{not_on}
use Rattle.plan.specs.Walks.{Along}

-- a hop by the rule: a listed duct, at least 1 long, and the rest of the distance from its other end
abbrev pub Onward : Meaning → ℕ → ℕ → ℕ → Hop → Type 0
Onward m u v d k = Joined m.ducts u k.to k.length × (k.to < m.count) × (1 ≤ k.length) × ((e : ℕ) × (far m k.to v ≡ Some e) × (k.length + e ≡ d))

pub along_append : (rule : ℕ → ℕ → Hop) (goal t at to : ℕ) (hs ks : List Hop) → Along rule goal t hs at → Along rule goal at ks to → Along rule goal t (hs ++ ks) to
along_append rule goal t at to [] ks a b = subst (λ (x : ℕ). Along rule goal x ks to) (sym a) b
along_append rule goal t at to (h ∷ hs) ks (ne, q, a) b = (ne, q, along_append rule goal h.to at to hs ks a b)

module _ (m : Meaning) (s : Sound m) where
  pub rule_step : (u v d : ℕ) → u < m.count → v < m.count → (u ≡ v → ⊥) → far m u v ≡ Some d → Onward m u v d (m.rule u v)
  rule_step u v d iu iv ne e =
      let k : Hop = m.rule u v in
      let t : Towards m u v k (Some d) = subst (Towards m u v k) e (s.leads u v iu iv ne) in
      (t.0, to_in m.count m.ducts u k.to k.length s.lawful t.0, some_length m.count m.ducts u k.to k.length s.lawful t.0, t.1)

  -- part of a walk by the rule: a way over listed ducts, and the rest of the distance from where it has come to
  abbrev pub Part : ℕ → ℕ → ℕ → List Hop → ℕ → Type 0
  Part t goal d hs at = Leads m.ducts t hs at × (at < m.count) × ((e : ℕ) × (far m at goal ≡ Some e) × (total hs + e ≡ d))

  pub along_part : (goal t d at : ℕ) (hs : List Hop) → goal < m.count → t < m.count → far m t goal ≡ Some d → Along m.rule goal t hs at → Part t goal d hs at
  along_part goal t d at [] ig it e a = (a, subst (λ (x : ℕ). x < m.count) a it, (d, subst (λ (x : ℕ). far m x goal ≡ Some d) a e, omega arith))
  along_part goal t d at (k ∷ hs) ig it e (ne, q, a) =
      let o : Onward m t goal d k = subst (Onward m t goal d) (sym q) (rule_step t goal d it ig ne e) in
      let r : Part k.to goal o.3.0 hs at = along_part goal k.to o.3.0 at hs ig o.1 o.3.1 a in
      ((o.0, r.0), r.1, (r.2.0, r.2.1, omega (arith, o.3.2, r.2.2)))

  -- the places of the walk are places, and further from the goal than where it has come to
  abbrev Passed : ℕ → ℕ → ℕ → ℕ → Type 0
  Passed goal low high p = (p < m.count) × ((e : ℕ) × (far m p goal ≡ Some e) × (low < e) × (e ≤ high))

  pub walked_far : (goal t d at : ℕ) (hs : List Hop) → goal < m.count → t < m.count → far m t goal ≡ Some d → Along m.rule goal t hs at → (b : ℕ) → far m at goal ≡ Some b → (p : ℕ) → On p (walked t hs) → Passed goal b d p
  walked_far goal t d at [] ig it e a b f p o = absurd o
  walked_far goal t d at (k ∷ hs) ig it e (ne, q, a) b f p o = go (λ d' i e' o'. walked_far goal k.to d' at hs ig i e' a b f p o') o
    where
      step : Onward m t goal d k
      step = subst (Onward m t goal d) (sym q) (rule_step t goal d it ig ne e)

      go : ((d' : ℕ) → k.to < m.count → far m k.to goal ≡ Some d' → On p (walked k.to hs) → Passed goal b d' p) → On p (t ∷ walked k.to hs) → Passed goal b d p
      go rest (inl z) =
          let r : Part k.to goal step.3.0 hs at = along_part goal k.to step.3.0 at hs ig step.1 step.3.1 a in
          let l : r.2.0 ≡ b = same r.2.1 f in
          subst (λ (y : ℕ). Passed goal b d y) (sym z) (it, (d, e, omega (arith, l, r.2.2, step.2, step.3.2), omega arith))
      go rest (inr i) =
          let r : Passed goal b step.3.0 p = rest step.3.0 step.1 step.3.1 i in
          (r.0, (r.1.0, r.1.1, r.1.2, omega (arith, r.1.3, step.3.2)))

  -- so they differ
  pub walked_apart : (goal t d at : ℕ) (hs : List Hop) → goal < m.count → t < m.count → far m t goal ≡ Some d → Along m.rule goal t hs at → Apart (walked t hs)
  walked_apart goal t d at [] ig it e a = tt
  walked_apart goal t d at (k ∷ hs) ig it e (ne, q, a) = (not_on t (walked k.to hs) back, walked_apart goal k.to step.3.0 at hs ig step.1 step.3.1 a)
    where
      step : Onward m t goal d k
      step = subst (Onward m t goal d) (sym q) (rule_step t goal d it ig ne e)

      back : On t (walked k.to hs) → ⊥
      back o =
          let r : Part k.to goal step.3.0 hs at = along_part goal k.to step.3.0 at hs ig step.1 step.3.1 a in
          let w : Passed goal r.2.0 step.3.0 t = walked_far goal k.to step.3.0 at hs ig step.1 step.3.1 a r.2.0 r.2.1 t o in
          let l : w.1.0 ≡ d = same w.1.1 e in
          omega (arith, l, w.1.3, step.2, step.3.2)
