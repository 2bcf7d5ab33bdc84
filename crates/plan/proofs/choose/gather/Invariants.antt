use Rattle.std.proofs.Common.{◌≡◌, ℕ, ◌+◌, length, take, drop, Some}
use Rattle.ways.specs.Few.{members}
use Rattle.oracle.specs.Meaning.{far}
use Rattle.trees.specs.Groups.{cost, GroupsBelow}
use Rattle.plan.specs.Groups.{lists}
use Rattle.plan.specs.Choices.{Around}
use Rattle.plan.proofs.choose.gather.Given as goal

abbrev pub invariant-loop-group : goal.invariant-loop-group
invariant-loop-group g l =
    Around (g.O.DistanceOracle.meaning l.o) l.x (lists (take l.group-index l.others)) (members l.chosen)
    × GroupsBelow (g.O.DistanceOracle.meaning l.o).count (lists (drop l.group-index l.others))
    × ((w : ℕ) × (cost (far (g.O.DistanceOracle.meaning l.o)) l.x (lists (drop l.group-index l.others)) ≡ Some w))
    × (g.O.DistanceOracle.meaning l.o ≡ g.O.DistanceOracle.meaning l.initial.o)
    × (length (members l.chosen) ≡ l.group-index + 1)
