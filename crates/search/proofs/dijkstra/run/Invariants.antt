use Rattle.std.proofs.Common.{ℕ, ◌+◌, ◌≤◌, length}
use Rattle.heap.specs.Of.{entries, capacity}
use Rattle.ways.specs.Way.{Joined}
use Rattle.frame.specs.Of.{places_of, rows_of}
use Rattle.frame.specs.Neighbours.{degree}
use Rattle.search.specs.Memory.{SameMemory}
use Rattle.search.specs.State.{Kept, known, done, left}
use Rattle.search.proofs.dijkstra.run.Given as goal

abbrev pub invariant-loop-entry : goal.invariant-loop-entry
invariant-loop-entry l =
    let ds = rows_of l.frame in
    record {
      same : SameMemory l.initial.search l.search;
      fits : length (entries l.search.queue.now) + left (degree ds) (done l.search.records.now) (places_of l.frame) ≤ capacity l.search.queue.now;
      kept : (floor : ℕ) × Kept ds (Joined ds) l.source floor (known l.search.records.now) (done l.search.records.now) (entries l.search.queue.now);
    }

abbrev pub decreases-loop-entry : goal.decreases-loop-entry
decreases-loop-entry l = length (entries l.search.queue.now) + left (degree (rows_of l.frame)) (done l.search.records.now) (places_of l.frame)
