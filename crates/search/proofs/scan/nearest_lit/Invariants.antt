use Rattle.ways.specs.Nearest.{Nearest}
use Rattle.search.specs.State.{known, lit}
use Rattle.search.proofs.scan.nearest_lit.Given as goal

abbrev pub invariant-loop-i : goal.invariant-loop-i
invariant-loop-i l = Nearest l.i (lit l.records) (known l.records) l.best
