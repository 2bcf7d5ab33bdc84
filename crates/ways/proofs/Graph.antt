-- Ways put together, and what a distance says of them. Assumes nothing.
use Rattle.std.proofs.Common.{◌≡◌, ℕ, ◌+◌, ◌<◌, ◌≤◌, Bool, true, false, ◌⊎◌, List, [], ◌∷◌, ◌++◌, Some, None, Option, sym, refl, ap, subst, inl, inr, arith}
use Rattle.ways.specs.declared.row.Row.{Row}
use Rattle.ways.specs.Way.{Hop, Joined, Leads, total, Way, Lawful}
use Rattle.ways.specs.Options.{pick, AtMost, lesser, through}
use Rattle.ways.specs.Distance.{Reached, IsDistance}
use Rattle.ways.specs.Laws.{DistanceUnique}

pub here : (ds : List Row) (u : ℕ) → Way ds u u 0
here ds u = ([], refl, refl)

pub hop : (ds : List Row) (u v : ℕ) (h : Hop) (t : ℕ) → Joined ds u h.to h.length → Way ds h.to v t → Way ds u v (h.length + t)
hop ds u v h t j w = (h ∷ w.0, (j, w.1), ap (λ n. h.length + n) w.2)

pub leads_append : (ds : List Row) (u v w : ℕ) (p q : List Hop) → Leads ds u p v → Leads ds v q w → Leads ds u (p ++ q) w
leads_append ds u v w [] q e l = subst (λ (x : ℕ). Leads ds x q w) (sym e) l
leads_append ds u v w (h ∷ hs) q k l = (k.0, leads_append ds h.to v w hs q k.1 l)

pub total_append : (p q : List Hop) → total (p ++ q) ≡ total p + total q
total_append [] q = omega arith
total_append (h ∷ hs) q = omega (arith, total_append hs q)

pub join : (ds : List Row) (u v w s t : ℕ) → Way ds u v s → Way ds v w t → Way ds u w (s + t)
join ds u v w s t p q = (p.0 ++ q.0, leads_append ds u v w p.0 q.0 p.1 q.1, omega (arith, total_append p.0 q.0, p.2, q.2))

pub leads_more : (d : Row) (ds : List Row) (u v : ℕ) (hs : List Hop) → Leads ds u hs v → Leads (d ∷ ds) u hs v
leads_more d ds u v [] l = l
leads_more d ds u v (h ∷ hs) l = (inr l.0, leads_more d ds h.to v hs l.1)

pub more : (d : Row) (ds : List Row) (u v t : ℕ) → Way ds u v t → Way (d ∷ ds) u v t
more d ds u v t w = (w.0, leads_more d ds u v w.0 w.1, w.2)

pub reached : (ds : List Row) (u v : ℕ) (o : Option ℕ) → IsDistance ds u v o → Reached ds u v o
reached ds u v None i = tt
reached ds u v (Some d) i = i.0

pub at_most : (ds : List Row) (u v t : ℕ) (o : Option ℕ) → IsDistance ds u v o → Way ds u v t → AtMost o t
at_most ds u v t None i w = i w.0 w.1
at_most ds u v t (Some d) i w = subst (λ (n : ℕ). d ≤ n) w.2 (i.1 w.0 w.1)

pub is_distance : (ds : List Row) (u v : ℕ) (o : Option ℕ) → Reached ds u v o → ((hs : List Hop) → Leads ds u hs v → AtMost o (total hs)) → IsDistance ds u v o
is_distance ds u v None r b = b
is_distance ds u v (Some d) r b = (r, b)

-- at most one distance
pub unique : DistanceUnique
unique ds u v None None i j = refl
unique ds u v None (Some e) i j = absurd (i j.0.0 j.0.1)
unique ds u v (Some d) None i j = absurd (j i.0.0 i.0.1)
unique ds u v (Some d) (Some e) i j =
    let le : d ≤ e = at_most ds u v e (Some d) i j.0 in
    let ge : e ≤ d = at_most ds u v d (Some e) j i.0 in
    ap Some (omega arith)

-- the other end of a listed duct is a place
pub to_in : (n : ℕ) (ds : List Row) (u w len : ℕ) → Lawful n ds → Joined ds u w len → w < n
to_in n [] u w len l j = absurd j
to_in n (d ∷ ds) u w len l (inl j) = go j.1
  where
    go : (((d.first ≡ u) × (d.second ≡ w)) ⊎ ((d.first ≡ w) × (d.second ≡ u))) → w < n
    go (inl e) = subst (λ (x : ℕ). x < n) e.1 l.0.second_in
    go (inr e) = subst (λ (x : ℕ). x < n) e.0 l.0.first_in
to_in n (d ∷ ds) u w len l (inr j) = to_in n ds u w len l.1 j

-- what a pick of two has, each of the two has
pub pick_has : {A : Type 0} (P : A → Type 0) (b : Bool) (x y : A) → P x → P y → P (pick b x y)
pick_has P true x y p q = p
pick_has P false x y p q = q

pub pick_both : {A B : Type 0} (P : A → B → Type 0) (b : Bool) (x y : A) (z w : B) → P x z → P y w → P (pick b x y) (pick b z w)
pick_both P true x y z w p q = p
pick_both P false x y z w p q = q

pub lesser_left : (p q : Option ℕ) (t : ℕ) → AtMost p t → AtMost (lesser p q) t
lesser_left None q t h = absurd h
lesser_left (Some d) None t h = h
lesser_left (Some d) (Some e) t h = grind arith

pub lesser_right : (p q : Option ℕ) (t : ℕ) → AtMost q t → AtMost (lesser p q) t
lesser_right p None t h = absurd h
lesser_right None (Some e) t h = h
lesser_right (Some d) (Some e) t h = grind arith

pub at_most_through : (q r : Option ℕ) (len s w t : ℕ) → AtMost q s → AtMost r w → s + len + w ≤ t → AtMost (through q len r) t
at_most_through None r len s w t h k l = h
at_most_through (Some d) None len s w t h k l = k
at_most_through (Some d) (Some e) len s w t h k l = omega arith

pub weaken : (p : Option ℕ) (s t : ℕ) → AtMost p s → s ≤ t → AtMost p t
weaken None s t h k = h
weaken (Some d) s t h k = omega arith

-- a duct is the same from its other end
pub turn : (ds : List Row) (u w len : ℕ) → Joined ds u w len → Joined ds w u len
turn [] u w len j = absurd j
turn (d ∷ ds) u w len (inl (e, inl p)) = inl (e, inr p)
turn (d ∷ ds) u w len (inl (e, inr p)) = inl (e, inl p)
turn (d ∷ ds) u w len (inr j) = inr (turn ds u w len j)

-- a duct is a way
pub one_hop : (ds : List Row) (u w len : ℕ) → Joined ds u w len → Way ds u w len
one_hop ds u w len j = (record { to = w; length = len } ∷ [], (j, refl), omega arith)

-- a way has the same length back
pub back : (ds : List Row) (u v : ℕ) (hs : List Hop) → Leads ds u hs v → Way ds v u (total hs)
back ds u v [] l = ([], sym l, refl)
back ds u v (h ∷ hs) l =
    subst (λ (n : ℕ). Way ds v u n) (omega arith)
    (join ds v h.to u (total hs) h.length (back ds h.to v hs l.1) (one_hop ds h.to u h.length (turn ds u h.to h.length l.0)))

-- both ends of a listed duct are places, and its length is within the limits
pub from_in : (n : ℕ) (ds : List Row) (u w len : ℕ) → Lawful n ds → Joined ds u w len → u < n
from_in n ds u w len l j = to_in n ds w u len l (turn ds u w len j)

pub some_length : (n : ℕ) (ds : List Row) (u w len : ℕ) → Lawful n ds → Joined ds u w len → 1 ≤ len
some_length n [] u w len l j = absurd j
some_length n (d ∷ ds) u w len l (inl j) = subst (λ (x : ℕ). 1 ≤ x) j.0 l.0.some_length
some_length n (d ∷ ds) u w len l (inr j) = some_length n ds u w len l.1 j

pub no_longer : (n : ℕ) (ds : List Row) (u w len : ℕ) → Lawful n ds → Joined ds u w len → len ≤ 1000000
no_longer n [] u w len l j = absurd j
no_longer n (d ∷ ds) u w len l (inl j) = subst (λ (x : ℕ). x ≤ 1000000) j.0 l.0.no_longer
no_longer n (d ∷ ds) u w len l (inr j) = no_longer n ds u w len l.1 j
