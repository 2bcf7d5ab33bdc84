-- The worked example: five places and five ducts. Assumes nothing.
use Rattle.std.specs.Prelude.{ℕ, List, [], ◌∷◌}
use Rattle.ways.specs.declared.row.Row.{Row}

abbrev pub duct : ℕ → ℕ → ℕ → Row
duct a b len = record { first = a; second = b; length = len }

abbrev pub ducts : List Row
ducts = duct 0 1 300 ∷ duct 1 2 200 ∷ duct 2 3 400 ∷ duct 0 3 1000 ∷ duct 3 4 150 ∷ []
