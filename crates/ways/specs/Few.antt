-- The first of an array. Assumes nothing.
use Rattle.std.specs.Prelude.{ℕ, List, take}
use Rattle.ways.specs.declared.few.Few.{Few}

-- those that there are
abbrev pub members : {X : Type 0} {n : ℕ} → Few X n → List X
members f = take f.count f.items
