-- The function `distance` tells the distance. Assumes nothing.
use Rattle.std.proofs.Common.{◌≡◌, ℕ, zero, suc, ◌+◌, ◌≤◌, Bool, true, false, eqb, List, [], ◌∷◌, length, Some, None, Option, sym, refl, subst, inl, inr, arith, eq-eqb, eqb-true}
use Rattle.ways.specs.declared.row.Row.{Row}
use Rattle.ways.specs.Options.{pick, AtMost, within, lesser, plus}
use Rattle.ways.specs.Way.{Hop, Joined, Leads, total, tos, Way}
use Rattle.ways.specs.Distance.{Reached, stay, over, begun, reach, distance}
use Rattle.ways.specs.Laws.{DistanceIs}
use Rattle.ways.proofs.Graph.{hop, is_distance, pick_has, lesser_left, lesser_right, weaken}
use Rattle.ways.proofs.Simple.{Simple, simplify, few_hops}

stay_reached : (ds : List Row) (u v : ℕ) → Reached ds u v (stay u v)
stay_reached ds u v = go (eqb u v) refl
  where
    go : (b : Bool) → eqb u v ≡ b → Reached ds u v (pick b (Some 0) None)
    go true e = ([], eqb-true u v e, refl)
    go false e = tt

stay_least : (u v t : ℕ) → u ≡ v → AtMost (stay u v) t
stay_least u v t e = subst (λ (b : Bool). AtMost (pick b (Some 0) None) t) (sym (eq-eqb u v e)) (omega arith)

-- over one duct from a to b
over_reached : (ds : List Row) (a b len u v : ℕ) (f : ℕ → Option ℕ) → Joined ds a b len → ((w : ℕ) → Reached ds w v (f w)) → Reached ds u v (over a b len u f)
over_reached ds a b len u v f j r = go (eqb a u) refl (f b) (r b)
  where
    go : (c : Bool) → eqb a u ≡ c → (o : Option ℕ) → Reached ds b v o → Reached ds u v (pick c (plus (Some len) o) None)
    go true e None w = tt
    go true e (Some t) w =
        subst (λ (x : ℕ). Way ds x v (len + t)) (eqb-true a u e) (hop ds a v (record { to = b; length = len }) t j w)
    go false e o w = tt

over_least : (a b len u t : ℕ) (f : ℕ → Option ℕ) → a ≡ u → AtMost (f b) t → AtMost (over a b len u f) (len + t)
over_least a b len u t f e h =
    subst (λ (c : Bool). AtMost (pick c (plus (Some len) (f b)) None) (len + t)) (sym (eq-eqb a u e)) (go (f b) h)
  where
    go : (o : Option ℕ) → AtMost o t → AtMost (plus (Some len) o) (len + t)
    go None k = k
    go (Some d) k = omega arith

begun_reached : (ds es : List Row) (u v : ℕ) (f : ℕ → Option ℕ) → ((a b len : ℕ) → Joined es a b len → Joined ds a b len) → ((w : ℕ) → Reached ds w v (f w)) → Reached ds u v (begun es u f)
begun_reached ds [] u v f m r = tt
begun_reached ds (e ∷ es) u v f m r =
    pick_has (Reached ds u v) (within both (begun es u f)) both (begun es u f)
    (pick_has (Reached ds u v) (within there back) there back
    (over_reached ds e.first e.second e.length u v f (m e.first e.second e.length (inl (refl, inl (refl, refl)))) r)
    (over_reached ds e.second e.first e.length u v f (m e.second e.first e.length (inl (refl, inr (refl, refl)))) r))
    (begun_reached ds es u v f (λ a b len j. m a b len (inr j)) r)
  where
    there : Option ℕ
    there = over e.first e.second e.length u f

    back : Option ℕ
    back = over e.second e.first e.length u f

    both : Option ℕ
    both = lesser there back

begun_least : (ds : List Row) (u w len t : ℕ) (f : ℕ → Option ℕ) → Joined ds u w len → AtMost (f w) t → AtMost (begun ds u f) (len + t)
begun_least [] u w len t f j h = absurd j
begun_least (d ∷ ds) u w len t f (inl (e, inl p)) h =
    lesser_left (lesser there back) (begun ds u f) (len + t)
    (lesser_left there back (len + t)
    (subst (λ (x : ℕ). AtMost there (x + t)) e (over_least d.first d.second d.length u t f p.0 (subst (λ (x : ℕ). AtMost (f x) t) (sym p.1) h))))
  where
    there : Option ℕ
    there = over d.first d.second d.length u f

    back : Option ℕ
    back = over d.second d.first d.length u f
begun_least (d ∷ ds) u w len t f (inl (e, inr p)) h =
    lesser_left (lesser there back) (begun ds u f) (len + t)
    (lesser_right there back (len + t)
    (subst (λ (x : ℕ). AtMost back (x + t)) e (over_least d.second d.first d.length u t f p.1 (subst (λ (x : ℕ). AtMost (f x) t) (sym p.0) h))))
  where
    there : Option ℕ
    there = over d.first d.second d.length u f

    back : Option ℕ
    back = over d.second d.first d.length u f
begun_least (d ∷ ds) u w len t f (inr j) h = lesser_right (lesser (over d.first d.second d.length u f) (over d.second d.first d.length u f)) (begun ds u f) (len + t) (begun_least ds u w len t f j h)

reach_reached : (ds : List Row) (k u v : ℕ) → Reached ds u v (reach ds k u v)
unfolding reach
reach_reached ds zero u v = stay_reached ds u v
reach_reached ds (suc k) u v =
    pick_has (Reached ds u v) (within (stay u v) (begun ds u (λ w. reach ds k w v))) (stay u v) (begun ds u (λ w. reach ds k w v))
    (stay_reached ds u v)
    (begun_reached ds ds u v (λ w. reach ds k w v) (λ a b len j. j) (λ w. reach_reached ds k w v))

reach_least : (ds : List Row) (k u v : ℕ) (hs : List Hop) → Leads ds u hs v → length (tos hs) ≤ k → AtMost (reach ds k u v) (total hs)
unfolding reach
reach_least ds zero u v [] l le = stay_least u v 0 l
reach_least ds zero u v (h ∷ hs) l le = absurd (omega arith)
reach_least ds (suc k) u v [] l le = lesser_left (stay u v) (begun ds u (λ w. reach ds k w v)) 0 (stay_least u v 0 l)
reach_least ds (suc k) u v (h ∷ hs) l le =
    lesser_right (stay u v) (begun ds u (λ w. reach ds k w v)) (h.length + total hs)
    (begun_least ds u h.to h.length (total hs) (λ w. reach ds k w v) l.0 (reach_least ds k h.to v hs l.1 (omega arith)))

pub distance_is : DistanceIs
unfolding distance
distance_is n ds u v lawful h =
    is_distance ds u v (reach ds n u v) (reach_reached ds n u v)
    (λ hs l.
    let s : Simple ds u v (total hs) = simplify ds u v hs l in
    weaken (reach ds n u v) (total s.0) (total hs) (reach_least ds n u v s.0 s.1 (omega (arith, few_hops n ds u v (total hs) lawful h s))) s.2)
