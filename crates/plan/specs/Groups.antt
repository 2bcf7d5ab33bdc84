-- Groups as lists of places. Assumes nothing.
use Rattle.std.specs.Prelude.{ℕ, List, map}
use Rattle.ways.specs.declared.few.Few.{Few}
use Rattle.ways.specs.Few.{members}

-- the places of each group
abbrev pub lists : List (Few ℕ 16) → List (List ℕ)
lists = map members
