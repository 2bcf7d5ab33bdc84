-- The distance of a group, and what the distances to groups are bounded by. Assumes nothing.
use Rattle.std.proofs.Common.{◌≡◌, ℕ, ◌+◌, ◌*◌, ◌≤◌, Bool, true, false, ◌⊎◌, List, [], ◌∷◌, length, Some, None, Option, sym, refl, ap, ◌∙◌, subst, inl, inr, arith, leb-true}
use Rattle.ways.specs.Nearest.{Near}
use Rattle.ways.specs.Distance.{distance}
use Rattle.ways.specs.Nearest.{Later, Nearest}
use Rattle.ways.specs.Options.{pick, AtMost, within, lesser, plus}
use Rattle.ways.specs.Places.{On}
use Rattle.ways.proofs.Graph.{lesser_left, lesser_right}
use Rattle.ways.proofs.Reaches.{distance_is}
use Rattle.trees.specs.Connected.{weight}
use Rattle.trees.specs.Groups.{gap, cost, focus_on, distance_of}
use Rattle.trees.specs.Laws.{NearestGap, CostBounded, LeastCostBounded}
use Rattle.trees.proofs.Places.{below_on}
use Rattle.trees.proofs.Sets.{distance_in_weight}
use Rattle.trees.proofs.Focus.{focus_is, focus_all}

plus_at_most : (p q : Option ℕ) (s t : ℕ) → AtMost p s → AtMost q t → AtMost (plus p q) (s + t)
plus_at_most None q s t h k = h
plus_at_most (Some d) None s t h k = k
plus_at_most (Some d) (Some e) s t h k = omega arith

-- what is no greater is bounded too
no_greater : (p q : Option ℕ) (t : ℕ) → within p q ≡ true → AtMost q t → AtMost p t
no_greater p None t e h = absurd h
no_greater None (Some b) t e h = let z : ◌≡◌ {A = Bool} false true = e in absurd (elim_false z)
  where
    elim_false : ◌≡◌ {A = Bool} false true → ⊥
    elim_false z = let y : ◌≡◌ {A = ℕ} 0 1 = cc in omega arith
no_greater (Some a) (Some b) t e h = omega (arith, leb-true a b e)

pub gap_at_most : (far : ℕ → ℕ → Option ℕ) (v p t : ℕ) (g : List ℕ) → On p g → AtMost (far v p) t → AtMost (gap far v g) t
gap_at_most far v p t [] o h = absurd o
gap_at_most far v p t (x ∷ g) (inl e) h = lesser_left (far v x) (gap far v g) t (subst (λ (y : ℕ). AtMost (far v y) t) e h)
gap_at_most far v p t (x ∷ g) (inr o) h = lesser_right (far v x) (gap far v g) t (gap_at_most far v p t g o h)

pub cost_bounded : CostBounded
cost_bounded n ds c v [] l k o m = omega arith
cost_bounded n ds c v (g ∷ gs) l k o m =
    subst (AtMost (cost (distance n ds) v (g ∷ gs))) size
    (plus_at_most (gap (distance n ds) v g) (cost (distance n ds) v gs) (weight c.ducts) (length gs * weight c.ducts) near (cost_bounded n ds c v gs l k o m.1))
  where
    p : ℕ
    p = m.0.0

    near : AtMost (gap (distance n ds) v g) (weight c.ducts)
    near =
        gap_at_most (distance n ds) v p (weight c.ducts) g m.0.1
        (distance_in_weight n ds c v p (distance n ds v p) k o m.0.2 (distance_is n ds v p l (below_on n v c.places k.inside o)))

    size : weight c.ducts + length gs * weight c.ducts ≡ length (g ∷ gs) * weight c.ducts
    size = omega arith

pub least_cost_bounded : LeastCostBounded
least_cost_bounded n ds first others x c l least k m ms =
    no_greater (cost (distance n ds) x others) (cost (distance n ds) m.0 others) (length others * weight c.ducts) (least m.0 m.1)
    (cost_bounded n ds c m.0 others l k m.2 ms)

lesser_is : (p q : Option ℕ) → (lesser p q ≡ p) ⊎ (lesser p q ≡ q)
lesser_is p q = go (within p q)
  where
    go : (b : Bool) → (pick b p q ≡ p) ⊎ (pick b p q ≡ q)
    go true = inl refl
    go false = inr refl

-- the distance of a group is that of some place of the group
pub gap_of : (far : ℕ → ℕ → Option ℕ) (v d : ℕ) (g : List ℕ) → gap far v g ≡ Some d → (p : ℕ) × On p g × (far v p ≡ Some d)
gap_of far v d [] e = absurd (let z : ◌≡◌ {A = ℕ} 0 1 = cc in omega arith)
gap_of far v d (x ∷ g) e = go (lesser_is (far v x) (gap far v g)) (gap_of far v d g)
  where
    go : ((lesser (far v x) (gap far v g) ≡ far v x) ⊎ (lesser (far v x) (gap far v g) ≡ gap far v g)) → (gap far v g ≡ Some d → (p : ℕ) × On p g × (far v p ≡ Some d)) → (p : ℕ) × On p (x ∷ g) × (far v p ≡ Some d)
    go (inl q) r = (x, inl refl, sym q ∙ e)
    go (inr q) r = let s = r (sym q ∙ e) in (s.0, inr s.1, s.2)

pub nearest_gap : NearestGap
nearest_gap n g far v o b k = go o (gap far v g) refl k
  where
    at_place : (p : Near) → Nearest n (focus_on g) (far v) (Some p) → AtMost (gap far v g) p.distance
    at_place p k =
        gap_at_most far v p.place p.distance g (focus_is g p.place k.1)
        (subst (λ (m : Option ℕ). AtMost m p.distance) (sym k.2) (omega arith))

    go : (o : Option Near) (m : Option ℕ) → gap far v g ≡ m → Nearest n (focus_on g) (far v) o → m ≡ distance_of o
    go None None e k = refl
    go None (Some d) e k =
        let s = gap_of far v d g e in
        let none : far v s.0 ≡ None = k s.0 (below_on n s.0 g b s.1) (focus_all g s.0 s.1) in
        let some : far v s.0 ≡ Some d = s.2 in
        let z : ◌≡◌ {A = ℕ} 0 1 = cc in
        absurd (omega arith)
    go (Some p) None e k = absurd (subst (λ (m : Option ℕ). AtMost m p.distance) e (at_place p k))
    go (Some p) (Some d) e k =
        let le : d ≤ p.distance = subst (λ (m : Option ℕ). AtMost m p.distance) e (at_place p k) in
        let s = gap_of far v d g e in
        let later : Later p s.0 (Some d) = subst (Later p s.0) s.2 (k.3 s.0 (below_on n s.0 g b s.1) (focus_all g s.0 s.1)) in
        ap Some (omega (arith, later.0))
