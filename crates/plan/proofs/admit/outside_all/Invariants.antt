use Rattle.std.proofs.Common.{◌≡◌, drop}
use Rattle.plan.specs.Groups.{lists}
use Rattle.plan.specs.Plans.{outside_groups}
use Rattle.plan.proofs.admit.outside_all.Given as goal

abbrev pub invariant-loop-group : goal.invariant-loop-group
invariant-loop-group l = outside_groups l.n (lists (drop l.group-index l.groups)) ≡ outside_groups l.n (lists l.groups)
