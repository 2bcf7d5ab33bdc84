use Rattle.std.proofs.Common.{◌≡◌, ◌≤◌, map, length}
use Rattle.ways.specs.Few.{members}
use Rattle.job.specs.Day.{below}
use Rattle.job.specs.Held.{held}
use Rattle.job.proofs.job.Job.listed.Given as goal

abbrev pub invariant-loop-f : goal.invariant-loop-f
invariant-loop-f l = (map members (members l.listed) ≡ below l.f (held l.self)) × (length (members l.listed) ≤ l.f)
