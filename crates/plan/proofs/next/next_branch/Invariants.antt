use Rattle.std.proofs.Common.{◌≡◌, take}
use Rattle.plan.specs.Trunks.{NextOf}
use Rattle.plan.proofs.next.next_branch.Given as goal

abbrev pub invariant-loop-place : goal.invariant-loop-place
invariant-loop-place g l =
    NextOf (g.O.DistanceOracle.meaning l.initial.o) (g.O.GroupOracle.focused l.initial.o) (take l.place-index l.chosen) l.best
    × (g.O.DistanceOracle.meaning l.o ≡ g.O.DistanceOracle.meaning l.initial.o)
    × (g.O.GroupOracle.focused l.o ≡ g.O.GroupOracle.focused l.initial.o)
