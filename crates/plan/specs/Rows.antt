-- Ducts written into memory. Assumes nothing.
use Rattle.std.specs.Prelude.{ℕ, ◌+◌, List, [], ◌∷◌, slice_set}
use Rattle.ways.specs.declared.row.Row.{Row}

-- the memory with the ducts written from the index i on, as far as it goes
abbrev pub written : ℕ → List Row → List Row → List Row
written i [] rows = rows
written i (d ∷ ds) rows = written (i + 1) ds (slice_set rows i d)
