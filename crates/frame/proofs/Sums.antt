-- What the arcs of one place sum up to. Assumes nothing.
use Rattle.std.proofs.Common.{◌≡◌, ℕ, ◌+◌, ◌-◌, ◌<◌, ◌≤◌, Bool, cond, List, [], ◌∷◌, ◌++◌, length, get_or, take, drop, sum_by, sym, refl, ap, ◌∙◌, arith, length-drop, length-take}
use Rattle.std.specs.List.{AllByRecursion}
use Rattle.std.proofs.ByRecursion.{All-from_get_or}
use Rattle.std.proofs.lemmas.List.{get_or-take, get_or-drop, take-append-drop}
use Rattle.std.proofs.lemmas.List.Sums.{sum_by-cons, sum_by-append}
use Rattle.std.proofs.lemmas.Bool.{eq-eqb, ne_eqb}
use Rattle.frame.specs.declared.arc.Arc.{Arc}
use Rattle.frame.specs.Fans.{no_arc, arc_at, weight}

module _ {X : Type 0} where
  sum_same : (f g : X → ℕ) (xs : List X) → AllByRecursion (λ x. f x ≡ g x) xs → sum_by f xs ≡ sum_by g xs
  sum_same f g [] h = refl
  sum_same f g (x ∷ xs) h = omega (arith, h.0, sum_same f g xs h.1, sum_by-cons f x xs, sum_by-cons g x xs)

  pub sum_none : (f : X → ℕ) (xs : List X) → AllByRecursion (λ x. f x ≡ 0) xs → sum_by f xs ≡ 0
  sum_none f [] h = refl
  sum_none f (x ∷ xs) h = omega (arith, h.0, sum_none f xs h.1, sum_by-cons f x xs)

  -- f counts in the middle, and g everywhere, where it is nothing elsewhere
  sum_middle : (f g : X → ℕ) (ps bs cs xs : List X) → xs ≡ ps ++ (bs ++ cs) → AllByRecursion (λ x. g x ≡ 0) ps → AllByRecursion (λ x. f x ≡ g x) bs → AllByRecursion (λ x. g x ≡ 0) cs → sum_by f bs ≡ sum_by g xs
  sum_middle f g ps bs cs xs e a b c =
      omega (arith, ap (sum_by g) e, sum_by-append g ps (bs ++ cs), sum_by-append g bs cs, sum_none g ps a, sum_none g cs c, sum_same f g bs b)

  -- as many as there are
  pub sum_ones : (xs : List X) → sum_by (λ x. 1) xs ≡ length xs
  sum_ones [] = refl
  sum_ones (x ∷ xs) = omega (arith, sum_by-cons (λ (y : X). 1) x xs, sum_ones xs)

-- an arc that begins at v counts
pub weight_at : (f : Arc → ℕ) (v : ℕ) (a : Arc) → a.from ≡ v → f a ≡ weight f v a
weight_at f v a e = ap (λ (b : Bool). cond b (f a) 0) (sym (eq-eqb a.from v e))

-- and no other does
pub weight_off : (f : Arc → ℕ) (v : ℕ) (a : Arc) → (a.from ≡ v → ⊥) → weight f v a ≡ 0
weight_off f v a ne = ap (λ (b : Bool). cond b (f a) 0) (ne_eqb a.from v ne)

-- where the arcs of v stand from lo to hi, f over these is the weight over all
pub sum_range : (f : Arc → ℕ) (v lo hi : ℕ) (arcs : List Arc) → lo ≤ hi → hi ≤ length arcs → ((i : ℕ) → i < lo → (arc_at arcs i).from < v) → ((i : ℕ) → lo ≤ i → i < hi → (arc_at arcs i).from ≡ v) → ((i : ℕ) → hi ≤ i → i < length arcs → v < (arc_at arcs i).from) → sum_by f (take (hi - lo) (drop lo arcs)) ≡ sum_by (weight f v) arcs
sum_range f v lo hi arcs up fits below at above =
    sum_middle f (weight f v) (take lo arcs) (take (hi - lo) (drop lo arcs)) (drop (hi - lo) (drop lo arcs)) arcs
    (sym (take-append-drop lo arcs) ∙ ap (λ (l : List Arc). take lo arcs ++ l) (sym (take-append-drop (hi - lo) (drop lo arcs))))
    (All-from_get_or (λ a. weight f v a ≡ 0) (take lo arcs) no_arc (λ i l.
    let k : i < lo = omega (arith, length-take lo arcs) in
    weight_off f v (get_or (take lo arcs) i no_arc) (λ e. omega (arith, below i k, e, ap (λ (a : Arc). a.from) (get_or-take lo arcs i no_arc k)))))
    (All-from_get_or (λ a. f a ≡ weight f v a) (take (hi - lo) (drop lo arcs)) no_arc (λ i l.
    let k : i < hi - lo = omega (arith, length-take (hi - lo) (drop lo arcs)) in
    weight_at f v (get_or (take (hi - lo) (drop lo arcs)) i no_arc) (ap (λ (a : Arc). a.from) (get_or-take (hi - lo) (drop lo arcs) i no_arc k ∙ get_or-drop lo arcs i no_arc) ∙ at (lo + i) (omega arith) (omega arith))))
    (All-from_get_or (λ a. weight f v a ≡ 0) (drop (hi - lo) (drop lo arcs)) no_arc (λ i l.
    let k : lo + (hi - lo + i) < length arcs = omega (arith, length-drop (hi - lo) (drop lo arcs), length-drop lo arcs) in
    weight_off f v (get_or (drop (hi - lo) (drop lo arcs)) i no_arc) (λ e.
    omega (arith, above (lo + (hi - lo + i)) (omega arith) k, e, ap (λ (a : Arc). a.from) (get_or-drop (hi - lo) (drop lo arcs) i no_arc ∙ get_or-drop lo arcs (hi - lo + i) no_arc)))))
