-- The distance of two places: the least length of a way between them. Assumes nothing.
use Rattle.std.specs.Prelude.{ℕ, zero, suc, ◌≤◌, List, [], ◌∷◌, Some, None, Option, ◌==◌}
use Rattle.ways.specs.declared.row.Row.{Row}
use Rattle.ways.specs.Way.{Hop, Leads, total, Way}
use Rattle.ways.specs.Options.{pick, lesser, plus}

-- a length that is told is that of some way
abbrev pub Reached : List Row → ℕ → ℕ → Option ℕ → Type 0
Reached ds u v None = Unit {0}
Reached ds u v (Some d) = Way ds u v d

-- absent where there is no way; else the length of some way, and no way is shorter
abbrev pub IsDistance : List Row → ℕ → ℕ → Option ℕ → Type 0
IsDistance ds u v None = (hs : List Hop) → Leads ds u hs v → ⊥
IsDistance ds u v (Some d) = Way ds u v d × ((hs : List Hop) → Leads ds u hs v → d ≤ total hs)

-- the length of the way from u to v that has no duct
abbrev pub stay : ℕ → ℕ → Option ℕ
stay u v = pick (u == v) (Some 0) None

-- from u over a duct whose ends are a and b to b, and on from there
abbrev pub over : ℕ → ℕ → ℕ → ℕ → (ℕ → Option ℕ) → Option ℕ
over a b len u onward = pick (a == u) (plus (Some len) (onward b)) None

-- the least length of a way from u that begins with a listed duct
abbrev pub begun : List Row → ℕ → (ℕ → Option ℕ) → Option ℕ
begun [] u onward = None
begun (d ∷ ds) u onward =
    lesser (lesser (over d.first d.second d.length u onward) (over d.second d.first d.length u onward)) (begun ds u onward)

-- the least length of a way from u to v of at most k ducts
unfoldable pub reach : List Row → ℕ → ℕ → ℕ → Option ℕ
reach ds zero u v = stay u v
reach ds (suc k) u v = lesser (stay u v) (begun ds u (λ w. reach ds k w v))

-- the distance of u and v over the ducts ds of n places: n ducts are enough, since a shortest way comes to no place twice
unfoldable pub distance : ℕ → List Row → ℕ → ℕ → Option ℕ
distance n ds u v = reach ds n u v
