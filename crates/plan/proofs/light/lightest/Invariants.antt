use Rattle.std.proofs.Common.{◌≡◌, ◌+◌}
use Rattle.plan.specs.Kept.{TellsLightest}
use Rattle.plan.proofs.light.lightest.Given as goal

abbrev pub invariant-loop-start : goal.invariant-loop-start
invariant-loop-start g l =
    TellsLightest (g.O.DistanceOracle.meaning l.fn.o) l.chosen (l.start-index + 1) l.best
    × (g.O.DistanceOracle.meaning l.o ≡ g.O.DistanceOracle.meaning l.fn.o)
