use Rattle.std.proofs.Common.{◌≡◌, ◌<◌, map, vec_items, unwrap_or}
use Rattle.oracle.specs.Meaning.{far}
use Rattle.oracle.specs.Walked.{hop_of}
use Rattle.oracle.proofs.Walks.{Walking}
use Rattle.oracle.proofs.walk.walk.Given as goal

-- the walk so far; the oracle means what it meant, and is kept since before the walk
abbrev pub invariant-loop-leg : goal.invariant-loop-leg
invariant-loop-leg g l =
    Walking (g.O.DistanceOracle.meaning l.o) l.u l.v (map hop_of (vec_items l.legs)) l.at
    × (l.v < (g.O.DistanceOracle.meaning l.o).count)
    × (g.O.DistanceOracle.meaning l.o ≡ g.O.DistanceOracle.meaning l.initial.o)
    × ((x : g.row.O.Denot) → g.O.DistanceOracle.kept x l.initial.o → g.O.DistanceOracle.kept x l.o)

abbrev pub decreases-loop-leg : goal.decreases-loop-leg
decreases-loop-leg g l = unwrap_or (far (g.O.DistanceOracle.meaning l.o) l.at l.v) 0
