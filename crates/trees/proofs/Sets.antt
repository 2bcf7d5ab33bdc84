-- The ways of a connected set, its weight, and the number and weight of a tree's ducts. Assumes nothing.
use Rattle.std.proofs.Common.{◌≡◌, ℕ, ◌*◌, ◌≤◌, ◌⊎◌, List, [], ◌∷◌, length, Some, None, Option, subst, inl, inr, arith}
use Rattle.ways.specs.declared.row.Row.{Row}
use Rattle.ways.specs.Distance.{IsDistance}
use Rattle.ways.specs.Options.{AtMost}
use Rattle.ways.specs.Places.{On}
use Rattle.ways.specs.Way.{Hop, Joins, Joined, Leads, total, Lawful}
use Rattle.ways.proofs.Graph.{turn, no_longer}
use Rattle.ways.proofs.Simple.{simplify, fit}
use Rattle.trees.specs.Connected.{weight, Listed, Between}
use Rattle.trees.specs.Laws.{DistanceInWeight, TreeFew, TreeLight}
use Rattle.trees.proofs.Weight.{way_in_weight}

-- what a duct d of the list joins, the list joins
pub joined_as : (ds : List Row) (d : Row) (u w len : ℕ) → Joined ds d.first d.second d.length → Joins d u w len → Joined ds u w len
joined_as ds d u w len l j = go j.1
  where
    at : (x y : ℕ) → d.first ≡ x → d.second ≡ y → Joined ds x y len
    at x y a b =
        subst (λ (n : ℕ). Joined ds n y len) a
        (subst (λ (n : ℕ). Joined ds d.first n len) b (subst (λ (n : ℕ). Joined ds d.first d.second n) j.0 l))

    go : (((d.first ≡ u) × (d.second ≡ w)) ⊎ ((d.first ≡ w) × (d.second ≡ u))) → Joined ds u w len
    go (inl e) = at u w e.0 e.1
    go (inr e) = turn ds w u len (at w u e.0 e.1)

joined_listed : (ds es : List Row) (u w len : ℕ) → Listed ds es → Joined es u w len → Joined ds u w len
joined_listed ds [] u w len l j = absurd j
joined_listed ds (e ∷ es) u w len l (inl j) = joined_as ds e u w len l.0 j
joined_listed ds (e ∷ es) u w len l (inr j) = joined_listed ds es u w len l.1 j

leads_listed : (ds es : List Row) (u v : ℕ) (hs : List Hop) → Listed ds es → Leads es u hs v → Leads ds u hs v
leads_listed ds es u v [] l k = k
leads_listed ds es u v (h ∷ hs) l k = (joined_listed ds es u h.to h.length l k.0, leads_listed ds es h.to v hs l k.1)

pub distance_in_weight : DistanceInWeight
distance_in_weight n ds c u v o k iu iv i =
    let w = k.joined u v iu iv in
    let s = simplify c.ducts u v w.0 w.1 in
    go o i s.0 (leads_listed ds c.ducts u v s.0 k.listed s.1) (way_in_weight c.ducts u v s.0 s.1 s.3)
  where
    go : (o : Option ℕ) → IsDistance ds u v o → (hs : List Hop) → Leads ds u hs v → total hs ≤ weight c.ducts → AtMost o (weight c.ducts)
    go None i hs l b = i hs l
    go (Some d) i hs l b = omega (arith, i.1 hs l)

-- the ends of a duct of a set are places of it
pub end_on : (ps : List ℕ) (es : List Row) (u w len : ℕ) → Between ps es → Joined es u w len → On u ps
end_on ps [] u w len b j = absurd j
end_on ps (e ∷ es) u w len b (inl j) = go j.1
  where
    go : (((e.first ≡ u) × (e.second ≡ w)) ⊎ ((e.first ≡ w) × (e.second ≡ u))) → On u ps
    go (inl q) = subst (λ (x : ℕ). On x ps) q.0 b.0
    go (inr q) = subst (λ (x : ℕ). On x ps) q.1 b.1
end_on ps (e ∷ es) u w len b (inr j) = end_on ps es u w len b.2 j

pub tree_few : TreeFew
tree_few n ds c t = omega (arith, t.thin, fit n c.places t.connected.apart t.connected.inside)

listed_light : (n : ℕ) (ds es : List Row) → Lawful n ds → Listed ds es → weight es ≤ 1000000 * length es
listed_light n ds [] l k = omega arith
listed_light n ds (e ∷ es) l k = omega (arith, no_longer n ds e.first e.second e.length l k.0, listed_light n ds es l k.1)

pub tree_light : TreeLight
tree_light n ds c l t = listed_light n ds c.ducts l t.connected.listed
