use Rattle.std.proofs.Common.{◌≡◌, ℕ, ◌+◌, ◌≤◌, length, Some}
use Rattle.heap.specs.Of.{entries}
use Rattle.frame.specs.Of.{rows_of}
use Rattle.search.specs.Memory.{SameMemory}
use Rattle.search.specs.State.{Kept, But, known, done}
use Rattle.search.proofs.Follow.{Following}
use Rattle.search.proofs.dijkstra.Search.follow.Given as goal

abbrev pub invariant-loop-arc : goal.invariant-loop-arc
invariant-loop-arc l =
    let ds = rows_of l.frame in
    let was = l.initial.self in
    record {
      same : SameMemory was l.self;
      longer : length (entries l.self.queue.now) ≤ length (entries was.queue.now) + l.arc-index;
      steady : (v : ℕ) → done l.self.records.now v ≡ done was.records.now v;
      kept : (s : ℕ) → known was.records.now l.place ≡ Some l.distance → Kept ds (But ds l.place) s l.distance (known was.records.now) (done was.records.now) (entries was.queue.now)
          → Following ds l.arc-items l.place l.distance l.arc-index s l.self.records.now (entries l.self.queue.now);
    }
