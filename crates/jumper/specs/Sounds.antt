-- With one more duct a sound meaning stays sound: its distances, and its way rule. Assumes nothing.
use Rattle.std.specs.Prelude.{◌≡◌, ℕ, ◌+◌, ◌<◌, ◌≤◌, Bool, true, false, List, ◌∷◌, Some, None, Option, ◌==◌, ◌≢◌, refl}
use Rattle.std.proofs.Common.{sym, subst, ◌∙◌, inl, inr, arith, eqb-true}
use Rattle.std.proofs.lemmas.Bool.{eqb-false}
use Rattle.ways.specs.declared.row.Row.{Row}
use Rattle.ways.specs.Options.{pick, within, lesser, through}
use Rattle.ways.specs.Way.{Hop, Joined, Way, Lawful, LawfulDuct}
use Rattle.ways.specs.Distance.{Reached, IsDistance}
use Rattle.ways.proofs.Graph.{hop, join, more, reached, at_most, unique, pick_both, to_in}
use Rattle.ways.proofs.Reaches.{distance_is}
use Rattle.ways.proofs.Metric.{far_self, way_of}
use Rattle.oracle.specs.Meaning.{Meaning, Sound, Towards, far}
use Rattle.oracle.proofs.Meanings.{far_is, far_short}
use Rattle.jumper.specs.Laws.{ThreeSums, JumpedSound}
use Rattle.jumper.specs.Jumped.{duct, crossing, least, enter, rule_with, with_duct}
use Rattle.jumper.specs.Crossings.{Brief}
use Rattle.jumper.specs.Added.{three_sums as sums}
use Rattle.jumper.specs.Verdicts.{by_jumped}

-- the hop begins a way of the length d
abbrev Onward : List Row → ℕ → ℕ → Hop → Option ℕ → Type 0
Onward ds u v h None = Unit {0}
Onward ds u v h (Some d) = Joined ds u h.to h.length × ((t : ℕ) × Way ds h.to v t × (h.length + t ≡ d))

-- such a hop, where d is the distance, leads on by the rest of it
towards : (m : Meaning) (u v : ℕ) (h : Hop) (o : Option ℕ) → Lawful m.count m.ducts → IsDistance m.ducts u v o → Onward m.ducts u v h o → Towards m u v h o
towards m u v h None l i k = tt
towards m u v h (Some d) l i (j, (t, w, e)) = (j, go (far m h.to v) refl (distance_is m.count m.ducts h.to v l (to_in m.count m.ducts u h.to h.length l j)))
  where
    go : (p : Option ℕ) → far m h.to v ≡ p → IsDistance m.ducts h.to v p → (r : ℕ) × (far m h.to v ≡ Some r) × (h.length + r ≡ d)
    go None q x = absurd (x w.0 w.1)
    go (Some r) q x =
        let le : r ≤ t = at_most m.ducts h.to v t (Some r) x w in
        let ge : d ≤ h.length + r = at_most m.ducts u v (h.length + r) (Some d) i (hop m.ducts u v h r j x.0) in
        (r, q, omega arith)

module _ (m : Meaning) (a b len : ℕ) (s : Sound m) (l : LawfulDuct m.count (duct a b len)) where
  abbrev new : Meaning
  new = with_duct m a b len

  abbrev all : List Row
  all = duct a b len ∷ m.ducts

  new_least : (u v : ℕ) → u < m.count → v < m.count → IsDistance all u v (least m a b len u v)
  new_least u v iu iv =
      sums m.ducts a b len u v (far m u v) (far m u a) (far m b v) (far m u b) (far m a v)
      (far_is m u v s iu) (far_is m u a s iu) (far_is m b v s l.second_in) (far_is m u b s iu) (far_is m a v s l.first_in)

  new_far : (u v : ℕ) → u < m.count → v < m.count → far new u v ≡ least m a b len u v
  new_far u v iu iv = unique all u v (far new u v) (least m a b len u v) (distance_is m.count all u v (l, s.lawful) iu) (new_least u v iu iv)

  -- the way below
  direct : (u v : ℕ) → u < m.count → v < m.count → (u ≢ v) → Onward all u v (m.rule u v) (far m u v)
  direct u v iu iv uv = go (far m u v) (s.leads u v iu iv uv)
    where
      go : (o : Option ℕ) → Towards m u v (m.rule u v) o → Onward all u v (m.rule u v) o
      go None t = tt
      go (Some d) (j, (e, q, p)) =
          let to : ℕ = (m.rule u v).to in
          let w : Way m.ducts to v e = way_of m.count m.ducts s.lawful to v e (to_in m.count m.ducts u to (m.rule u v).length s.lawful j) iv q in
          (inr j, (e, more (duct a b len) m.ducts to v e w, p))

  -- over the new duct from x to y
  entered : (x y : ℕ) → x < m.count → y < m.count → Joined all x y len → (u v : ℕ) → u < m.count → v < m.count → Onward all u v (enter m x y len u) (crossing m x y len u v)
  entered x y ix iy j u v iu iv = go (u == x) refl (far m u x) refl (far m y v) (reached m.ducts y v (far m y v) (far_is m y v s iy))
    where
      last : (t : ℕ) → Way m.ducts y v t → Way all x v (len + t)
      last t w = hop all x v (record { to = y; length = len }) t j (more (duct a b len) m.ducts y v t w)

      go : (c : Bool) → (u == x) ≡ c → (p : Option ℕ) → far m u x ≡ p → (r : Option ℕ) → Reached m.ducts y v r → Onward all u v (pick c (record { to = y; length = len }) (m.rule u x)) (through p len r)
      go c e None q r w = tt
      go c e (Some d) q None w = tt
      go true e (Some d) q (Some r) w =
          let ux : u ≡ x = eqb-true u x e in
          let z : far m u x ≡ Some 0 = subst (λ (y : ℕ). far m u y ≡ Some 0) ux (far_self m.count m.ducts s.lawful u iu) in
          let none : d ≡ 0 = cc in
          (subst (λ (z : ℕ). Joined all z y len) (sym ux) j, (r, more (duct a b len) m.ducts y v r w, omega arith))
      go false e (Some d) q (Some r) w =
          let k : Onward all u x (m.rule u x) (Some d) = subst (λ (o : Option ℕ). Onward all u x (m.rule u x) o) q (direct u x iu ix (eqb-false u x e)) in
          (k.0, (k.1.0 + (len + r), join all (m.rule u x).to x v k.1.0 (len + r) k.1.1 (last r w), omega (arith, k.1.2)))

  new_leads : (u v : ℕ) → u < m.count → v < m.count → (u ≢ v) → Towards new u v (rule_with m a b len u v) (far new u v)
  new_leads u v iu iv uv =
      let there : Option ℕ = crossing m a b len u v in
      let back : Option ℕ = crossing m b a len u v in
      subst (Towards new u v (rule_with m a b len u v)) (sym (new_far u v iu iv))
      (towards new u v (rule_with m a b len u v) (least m a b len u v) (l, s.lawful) (new_least u v iu iv)
      (pick_both (Onward all u v) (within (far m u v) (lesser there back)) (m.rule u v) _ (far m u v) _ (direct u v iu iv uv)
      (pick_both (Onward all u v) (within there back) _ _ there back
      (entered a b l.first_in l.second_in (inl (refl, inl (refl, refl))) u v iu iv)
      (entered b a l.second_in l.first_in (inl (refl, inr (refl, refl))) u v iu iv))))

  pub with_duct_sound : Sound new
  with_duct_sound = record { few = s.few; lawful = (l, s.lawful); leads = new_leads }

pub three_sums : ThreeSums
three_sums m a b len u v s l iu iv = new_far m a b len s l u v iu iv

pub jumped_sound : JumpedSound
jumped_sound m a b len s = by_jumped m a b len Sound (λ l. with_duct_sound m a b len s l) s

-- the least of the three sums is a distance, so it fits 32 bits
pub least_brief : (m : Meaning) (a b len u v : ℕ) (o : Option ℕ) → Sound m → LawfulDuct m.count (duct a b len) → u < m.count → v < m.count → least m a b len u v ≡ o → Brief o
least_brief m a b len u v None s l iu iv e = tt
least_brief m a b len u v (Some d) s l iu iv e =
    far_short (with_duct m a b len) u v d (with_duct_sound m a b len s l) iu (three_sums m a b len u v s l iu iv ∙ e)
