use Rattle.std.proofs.Common.{◌≡◌, drop, take}
use Rattle.ways.specs.Places.{AllBelow}
use Rattle.plan.specs.Groups.{lists}
use Rattle.plan.specs.Choices.{Begins}
use Rattle.plan.proofs.choose.least_start.Given as goal

abbrev pub invariant-loop-place : goal.invariant-loop-place
invariant-loop-place g l =
    Begins (g.O.DistanceOracle.meaning l.initial.o) (take l.place-index l.first) (lists l.others) l.best
    × (g.O.DistanceOracle.meaning l.o ≡ g.O.DistanceOracle.meaning l.initial.o)
    × AllBelow (g.O.DistanceOracle.meaning l.o).count (drop l.place-index l.first)
