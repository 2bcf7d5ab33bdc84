-- A word's marks, and a fitting without a place. Assumes nothing.
use Rattle.std.specs.Prelude.{ℕ, Bool, ◌&&◌, [], ◌==◌, nat_lt}
use Rattle.std.specs.Int.{bit_at}
use Rattle.std.proofs.Common.{arith}
use Rattle.ways.specs.declared.few.Few.{Few}

-- whether a word has the mark k, which is one of 64
abbrev pub marked : ℕ → ℕ → Bool
marked w k = nat_lt k 64 && bit_at w k == 1

-- a fitting without a place
abbrev pub no_fitting : Few ℕ 16
no_fitting = record { count = 0; items = []; few = omega arith }
