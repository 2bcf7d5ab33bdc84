-- Distances to groups, which are lists of places. Assumes nothing.
use Rattle.std.specs.Prelude.{ℕ, Bool, List, [], ◌∷◌, Some, None, Option}
use Rattle.ways.specs.Nearest.{Near}
use Rattle.ways.specs.Nearest.{no_place, with_place}
use Rattle.ways.specs.Options.{lesser, plus}
use Rattle.ways.specs.Places.{AllBelow}

-- the distance from v to the nearest place of a group, absent where there is no way to one
abbrev pub gap : (ℕ → ℕ → Option ℕ) → ℕ → List ℕ → Option ℕ
gap far v [] = None
gap far v (p ∷ ps) = lesser (far v p) (gap far v ps)

-- the sum of the distances from v to the groups, absent if one of them is
abbrev pub cost : (ℕ → ℕ → Option ℕ) → ℕ → List (List ℕ) → Option ℕ
cost far v [] = Some 0
cost far v (g ∷ gs) = plus (gap far v g) (cost far v gs)

-- every place of every group is below n
abbrev pub GroupsBelow : ℕ → List (List ℕ) → Type 0
GroupsBelow n [] = Unit {0}
GroupsBelow n (g ∷ gs) = AllBelow n g × GroupsBelow n gs

-- the places of f, and those of a list
abbrev pub with_places : List ℕ → (ℕ → Bool) → ℕ → Bool
with_places [] f = f
with_places (p ∷ ps) f = with_places ps (with_place p f)

-- the places of a list alone
abbrev pub focus_on : List ℕ → ℕ → Bool
focus_on ps = with_places ps no_place

-- the distance of what is nearest
abbrev pub distance_of : Option Near → Option ℕ
distance_of None = None
distance_of (Some p) = Some p.distance
