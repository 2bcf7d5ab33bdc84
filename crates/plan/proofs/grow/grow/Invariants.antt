use Rattle.std.proofs.Common.{◌≡◌, ◌-◌, false, unwrap_or}
use Rattle.oracle.specs.Meaning.{far}
use Rattle.plan.proofs.Walking.{Passing}
use Rattle.plan.proofs.Growing.{Growing}
use Rattle.plan.proofs.grow.grow.Given as goal

abbrev pub invariant-loop-place : goal.invariant-loop-place
invariant-loop-place g l =
    Passing (g.O.DistanceOracle.meaning l.initial.o) (g.O.GroupOracle.focused l.initial.o) l.branch l.initial.rows l.initial.ducts (g.O.DistanceOracle.meaning l.o) (g.O.GroupOracle.focused l.o) l.rows l.ducts l.at
    × (g.O.GroupOracle.focused l.initial.o l.at ≡ false)

abbrev pub decreases-loop-place : goal.decreases-loop-place
decreases-loop-place g l = unwrap_or (far (g.O.DistanceOracle.meaning l.o) l.at l.branch.to) 0

abbrev pub invariant-loop-branch : goal.invariant-loop-branch
invariant-loop-branch g l =
    Growing (g.O.DistanceOracle.meaning l.fn.o) l.start l.chosen l.initial.rows (g.O.DistanceOracle.meaning l.o) (g.O.GroupOracle.focused l.o) l.rows l.ducts l.weight

abbrev pub decreases-loop-branch : goal.decreases-loop-branch
decreases-loop-branch g l = (g.O.DistanceOracle.meaning l.o).count - l.ducts
