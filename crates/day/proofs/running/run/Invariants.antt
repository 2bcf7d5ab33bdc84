use Rattle.std.proofs.Common.{◌≡◌, map, length, take, vec_items, vec_len}
use Rattle.job.specs.Held.{Agrees}
use Rattle.job.specs.Said.{said}
use Rattle.day.proofs.Days.{SoFar}
use Rattle.day.proofs.running.run.Given as goal

abbrev pub invariant-loop-call : goal.invariant-loop-call
invariant-loop-call g l =
    let m = g.O.DistanceOracle.meaning l.initial.oracle in
    Agrees m.count (take l.call-index (map said l.calls)) l.job
    × (vec_len l.answers ≡ l.call-index)
    × (g.O.DistanceOracle.meaning l.oracle ≡ m)
    × (length l.trunk ≡ length l.initial.trunk)
    × SoFar m (length l.initial.trunk) l.calls (vec_items l.answers) l.call-index
