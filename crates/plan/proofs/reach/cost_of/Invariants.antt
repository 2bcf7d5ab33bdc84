use Rattle.std.proofs.Common.{◌≡◌, ◌*◌, ◌≤◌, drop, Some}
use Rattle.ways.specs.Options.{plus}
use Rattle.oracle.specs.Meaning.{far}
use Rattle.trees.specs.Groups.{cost, GroupsBelow}
use Rattle.plan.specs.Groups.{lists}
use Rattle.plan.proofs.reach.cost_of.Given as goal

abbrev pub invariant-loop-group : goal.invariant-loop-group
invariant-loop-group g l =
    (plus (Some l.sum) (cost (far (g.O.DistanceOracle.meaning l.o)) l.v (lists (drop l.group-index l.groups))) ≡ cost (far (g.O.DistanceOracle.meaning l.o)) l.v (lists l.groups))
    × GroupsBelow (g.O.DistanceOracle.meaning l.o).count (lists (drop l.group-index l.groups))
    × (g.O.DistanceOracle.meaning l.o ≡ g.O.DistanceOracle.meaning l.initial.o)
    × (l.sum ≤ 4294967295 * l.group-index)
