use Rattle.std.proofs.Common.{length}
use Rattle.lines.proofs.Numbers.{Along}
use Rattle.lines.proofs.list.listed.Given as goal

abbrev pub invariant-loop-rest : goal.invariant-loop-rest
invariant-loop-rest l = Along l.text l.rest l.list

abbrev pub decreases-loop-rest : goal.decreases-loop-rest
decreases-loop-rest l = length l.rest
