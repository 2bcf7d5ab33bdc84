use Rattle.std.proofs.Common.{◌≡◌, drop}
use Rattle.ways.specs.Places.{AllBelow}
use Rattle.trees.specs.Groups.{with_places, focus_on}
use Rattle.plan.proofs.reach.load.Given as goal

abbrev pub invariant-loop-p : goal.invariant-loop-p
invariant-loop-p g l =
    (with_places (drop l.p-index l.places) (g.O.GroupOracle.focused l.o) ≡ focus_on l.places)
    × AllBelow (g.O.DistanceOracle.meaning l.o).count (drop l.p-index l.places)
    × (g.O.DistanceOracle.meaning l.o ≡ g.O.DistanceOracle.meaning l.fn.o)
