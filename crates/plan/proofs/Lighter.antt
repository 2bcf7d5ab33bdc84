-- One trunk more, and growth from every chosen place. Assumes nothing.
use Rattle.std.proofs.Common.{◌≡◌, ℕ, suc, ◌+◌, ◌-◌, ◌<◌, ◌≤◌, Bool, true, false, ltb, List, [], ◌∷◌, length, get_or, take, drop, Some, sym, refl, ap, ◌∙◌, subst, arith, below_more, ltb-false, ltb-true}
use Rattle.std.proofs.lemmas.List.{take_all}
use Rattle.ways.specs.declared.row.Row.{Row}
use Rattle.ways.specs.Options.{pick}
use Rattle.ways.specs.Places.{On}
use Rattle.ways.proofs.Metric.{far_back, far_sum}
use Rattle.oracle.specs.Meaning.{Meaning, far, Sound}
use Rattle.trees.specs.Connected.{weight}
use Rattle.trees.proofs.Places.{get_or_on}
use Rattle.plan.specs.declared.trunk.Trunk.{Trunk}
use Rattle.plan.specs.Kept.{TellsLightest}
use Rattle.plan.specs.Trunks.{Reached, Grown, Tells, TellsGrown}

tells_own : (t : Trunk) (x : ℕ) (ds : List Row) → Tells t x ds → Tells t t.start ds
tells_own t x ds l = record { start = refl; ducts = l.ducts; weighs = l.weighs }

module _ (m : Meaning) (cs : List ℕ) where
  module _ (i : ℕ) (t u : Trunk) (w : TellsLightest m cs i t) (l : TellsGrown m (get_or cs i 0) cs u) where
    abbrev RowOf : List Row → ℕ → ℕ → Type 0
    RowOf ds at j = (es : List Row) × Grown m (get_or cs j 0) cs es × (weight ds ≤ weight es) × (j < at → weight ds < weight es)

    pub light_more : TellsLightest m cs (i + 1) (pick (ltb u.weight t.weight) u t)
    light_more = go (ltb u.weight t.weight) refl
      where
        go : (b : Bool) → ltb u.weight t.weight ≡ b → TellsLightest m cs (i + 1) (pick b u t)
        go true e =
            let lt : weight l.0 < weight w.0 = omega (arith, ltb-true u.weight t.weight e, l.2.weighs, w.2.weighs) in (
              l.0,
              record {
                at = i;
                before = omega arith;
                starts = l.2.start;
                grown = subst (λ (y : ℕ). Grown m y cs l.0) (sym l.2.start) l.1;
                least = below_more (RowOf l.0 i) i (λ j b. let r = w.1.least j b in (r.0, r.1, omega (arith, r.2, lt), λ _. omega (arith, r.2, lt))) (l.0, l.1, omega arith, λ b. absurd (omega arith));
              },
              tells_own u (get_or cs i 0) l.0 l.2,
            )
        go false e =
            let le : weight w.0 ≤ weight l.0 = omega (arith, ltb-false u.weight t.weight e, l.2.weighs, w.2.weighs) in (
              w.0,
              record {
                at = w.1.at;
                before = omega (arith, w.1.before);
                starts = w.1.starts;
                grown = w.1.grown;
                least = below_more (RowOf w.0 w.1.at) i w.1.least (l.0, l.1, le, λ b. absurd (omega (arith, b, w.1.before)));
              },
              w.2,
            )

-- the places behind the first
pub behind : (cs : List ℕ) (i : ℕ) → i < length (take (length cs - 1) (drop 1 cs)) → (get_or (take (length cs - 1) (drop 1 cs)) i 0 ≡ get_or cs (i + 1) 0) × (i + 1 < length cs)
behind [] i l = absurd (omega arith)
behind (x ∷ xs) i l =
    let all : take (length (x ∷ xs) - 1) xs ≡ xs = take_all (length (x ∷ xs) - 1) xs (omega arith) in
    let next : suc i ≡ i + 1 = omega arith in
    (ap (λ (ys : List ℕ). get_or ys i 0) all ∙ ap (λ (k : ℕ). get_or (x ∷ xs) k 0) next, omega (arith, l, ap length all))

-- what is reached from one chosen place is reached from each
pub reached_from : (m : Meaning) (x c : ℕ) (cs : List ℕ) → Sound m → x < m.count → Reached m x cs → On c cs → Reached m c cs
reached_from m x c cs s ix r o a i =
    let p = r c o in
    let q = r a i in
    let back : far m c x ≡ Some p.1.0 = far_back m.count m.ducts s.lawful x c p.1.0 ix p.0 p.1.1 in
    let t = far_sum m.count m.ducts s.lawful c x a p.1.0 q.1.0 p.0 ix q.0 back q.1.1 in
    (q.0, (t.0, t.1))

-- the same, by the place in the list
module _ (m : Meaning) (cs : List ℕ) (s : Sound m) (some : 0 < length cs) (reached : Reached m (get_or cs 0 0) cs) where
  pub each_within : (i : ℕ) → i < length cs → get_or cs i 0 < m.count
  each_within i l = (reached (get_or cs i 0) (get_or_on cs i l)).0

  pub each_reached : (i : ℕ) → i < length cs → Reached m (get_or cs i 0) cs
  each_reached i l = reached_from m (get_or cs 0 0) (get_or cs i 0) cs s (each_within 0 some) reached (get_or_on cs i l)
