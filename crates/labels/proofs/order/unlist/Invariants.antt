use Rattle.std.proofs.Common.{◌≡◌, ℕ, ◌<◌, false}
use Rattle.labels.specs.State.{listed}
use Rattle.labels.proofs.order.unlist.Given as goal

abbrev pub invariant-loop-record : goal.invariant-loop-record
invariant-loop-record l = (k : ℕ) → k < l.record-index → listed l.records k ≡ false
