use Rattle.std.proofs.Common.{◌≡◌, ◌+◌, length}
use Rattle.hubs.specs.Merge.{merge, sooner}
use Rattle.label_rows.proofs.merge.merge_rows.Given as goal

-- what is left of both rows, behind the best so far, is what the rows had
abbrev pub invariant-loop-left : goal.invariant-loop-left
invariant-loop-left l = sooner l.best (merge l.left l.right) ≡ merge l.xs l.ys

abbrev pub decreases-loop-left : goal.decreases-loop-left
decreases-loop-left l = length l.left + length l.right
