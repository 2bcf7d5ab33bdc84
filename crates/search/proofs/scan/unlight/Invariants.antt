use Rattle.std.proofs.Common.{◌≡◌, ℕ, ◌<◌, false}
use Rattle.search.specs.State.{lit}
use Rattle.search.proofs.scan.unlight.Given as goal

abbrev pub invariant-loop-record : goal.invariant-loop-record
invariant-loop-record l = (v : ℕ) → v < l.record-index → lit l.records v ≡ false
