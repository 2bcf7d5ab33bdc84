-- What is proved of connected sets, trees and growth. Assumes nothing.
use Rattle.std.specs.Prelude.{◌≡◌, ℕ, ◌+◌, ◌*◌, ◌<◌, ◌≤◌, true, List, [], ◌∷◌, ◌++◌, length, Option}
use Rattle.ways.specs.Nearest.{Near}
use Rattle.ways.specs.declared.row.Row.{Row}
use Rattle.ways.specs.Distance.{IsDistance, distance}
use Rattle.ways.specs.Nearest.{Nearest}
use Rattle.ways.specs.Options.{AtMost, within}
use Rattle.ways.specs.Places.{On, Apart, AllBelow}
use Rattle.ways.specs.Way.{Hop, Leads, total, tos, Lawful}
use Rattle.trees.specs.Connected.{weight, Net, Connected, Tree, Touches, TouchesAll}
use Rattle.trees.specs.Growth.{laid, held, net, Walk}
use Rattle.trees.specs.Groups.{gap, cost, focus_on, distance_of}

-- a way that comes to no place twice is no longer than all the ducts together
abbrev pub WayInWeight : Type 0
WayInWeight = (es : List Row) (u v : ℕ) (hs : List Hop) → Leads es u hs v → Apart (u ∷ tos hs) → total hs ≤ weight es

-- two places of a connected set are no further apart than its weight
abbrev pub DistanceInWeight : Type 0
DistanceInWeight = (n : ℕ) (ds : List Row) (c : Net) (u v : ℕ) (o : Option ℕ) → Connected n ds c → On u c.places → On v c.places → IsDistance ds u v o → AtMost o (weight c.ducts)

-- a tree has fewer ducts than there are places
abbrev pub TreeFew : Type 0
TreeFew = (n : ℕ) (ds : List Row) (c : Net) → Tree n ds c → length c.ducts + 1 ≤ n

-- a tree weighs at most a million for each of its ducts
abbrev pub TreeLight : Type 0
TreeLight = (n : ℕ) (ds : List Row) (c : Net) → Lawful n ds → Tree n ds c → weight c.ducts ≤ 1000000 * length c.ducts

-- one place alone is a tree
abbrev pub TreeStarts : Type 0
TreeStarts = (n : ℕ) (ds : List Row) (x : ℕ) → x < n → Tree n ds (net x [])

-- a tree grown by a walk is a tree, and heavier by the walk's length
abbrev pub TreeGrows : Type 0
TreeGrows = (n : ℕ) (ds : List Row) (x : ℕ) (es : List Row) (t v : ℕ) (hs : List Hop) → Lawful n ds → Tree n ds (net x es) → Walk ds (held x es) t hs v → Tree n ds (net x (es ++ laid t hs)) × (weight (es ++ laid t hs) ≡ weight es + total hs)

-- what is nearest of a group's places is at the group's distance
abbrev pub NearestGap : Type 0
NearestGap = (n : ℕ) (g : List ℕ) (far : ℕ → ℕ → Option ℕ) (v : ℕ) (p : Option Near) → AllBelow n g → Nearest n (focus_on g) (far v) p → gap far v g ≡ distance_of p

-- from a place of a connected set, the groups that the set touches are together no further than that many times its weight
abbrev pub CostBounded : Type 0
CostBounded = (n : ℕ) (ds : List Row) (c : Net) (v : ℕ) (gs : List (List ℕ)) → Lawful n ds → Connected n ds c → On v c.places → TouchesAll c gs → AtMost (cost (distance n ds) v gs) (length gs * weight c.ducts)

-- so the least such sum from a place of the first of g groups is at most g − 1 times the weight of any connected set that touches all groups
abbrev pub LeastCostBounded : Type 0
LeastCostBounded = (n : ℕ) (ds : List Row) (first : List ℕ) (others : List (List ℕ)) (x : ℕ) (c : Net) → Lawful n ds → ((v : ℕ) → On v first → within (cost (distance n ds) x others) (cost (distance n ds) v others) ≡ true) → Connected n ds c → Touches c first → TouchesAll c others → AtMost (cost (distance n ds) x others) (length others * weight c.ducts)
