-- What is proved of ways and distances. Assumes nothing.
use Rattle.std.specs.Prelude.{◌≡◌, ℕ, ◌+◌, ◌-◌, ◌*◌, ◌<◌, ◌≤◌, List, ◌∷◌, Some, Option}
use Rattle.ways.specs.declared.row.Row.{Row}
use Rattle.ways.specs.Places.{Apart}
use Rattle.ways.specs.Way.{Hop, Leads, total, tos, Lawful}
use Rattle.ways.specs.Distance.{IsDistance, distance}

-- the function tells the distance
abbrev pub DistanceIs : Type 0
DistanceIs = (n : ℕ) (ds : List Row) (u v : ℕ) → Lawful n ds → u < n → IsDistance ds u v (distance n ds u v)

-- two places have one distance
abbrev pub DistanceUnique : Type 0
DistanceUnique = (ds : List Row) (u v : ℕ) (o p : Option ℕ) → IsDistance ds u v o → IsDistance ds u v p → o ≡ p

-- a place is at the distance 0 from itself
abbrev pub DistanceSelf : Type 0
DistanceSelf = (n : ℕ) (ds : List Row) (u : ℕ) → Lawful n ds → u < n → distance n ds u u ≡ Some 0

-- there and back it is the same
abbrev pub DistanceSymmetric : Type 0
DistanceSymmetric = (n : ℕ) (ds : List Row) (u v : ℕ) → Lawful n ds → u < n → v < n → distance n ds u v ≡ distance n ds v u

-- a detour is no shorter
abbrev pub DistanceTriangle : Type 0
DistanceTriangle = (n : ℕ) (ds : List Row) (u w v a b : ℕ) → Lawful n ds → u < n → w < n → v < n → distance n ds u w ≡ Some a → distance n ds w v ≡ Some b → (d : ℕ) × (distance n ds u v ≡ Some d) × (d ≤ a + b)

-- n − 1 ducts of the greatest length are the farthest
abbrev pub DistanceBounded : Type 0
DistanceBounded = (n : ℕ) (ds : List Row) (u v d : ℕ) → Lawful n ds → u < n → distance n ds u v ≡ Some d → d ≤ (n - 1) * 1000000

-- a shortest way comes to no place twice
abbrev pub ShortestApart : Type 0
ShortestApart = (n : ℕ) (ds : List Row) (u v : ℕ) (hs : List Hop) → Lawful n ds → Leads ds u hs v → ((ks : List Hop) → Leads ds u ks v → total hs ≤ total ks) → Apart (u ∷ tos hs)
