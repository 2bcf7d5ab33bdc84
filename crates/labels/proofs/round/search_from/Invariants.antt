use Rattle.std.proofs.Common.{◌≡◌, ◌+◌, length}
use Rattle.heap.specs.Of.{entries, capacity}
use Rattle.search.specs.State.{left}
use Rattle.frame.specs.Of.{places_of, rows_of}
use Rattle.frame.specs.Neighbours.{degree}
use Rattle.labels.specs.Table.{row_in}
use Rattle.labels.specs.Memory.{SameMemory, SameRoom}
use Rattle.labels.specs.State.{done}
use Rattle.labels.proofs.Sweeps.{Sweep}
use Rattle.labels.proofs.round.search_from.Given as goal

abbrev pub invariant-loop-popped : goal.invariant-loop-popped
invariant-loop-popped l = record {
  round : l.search.round ≡ l.rank + 1;
  room : SameRoom l.initial.search l.search;
  size : length l.search.records.now ≡ places_of l.frame;
  same : SameMemory l.initial.rows l.rows;
  sweep : Sweep (places_of l.frame) (rows_of l.frame) l.order l.initial.rows.width l.rank (row_in l.initial.rows.width l.initial.rows.counts.now l.initial.rows.entries.now) (capacity l.initial.search.queue.now) l.rows.counts.now l.rows.entries.now l.search.records.now (entries l.search.queue.now);
}

abbrev pub decreases-loop-popped : goal.decreases-loop-popped
decreases-loop-popped l = length (entries l.search.queue.now) + left (degree (rows_of l.frame)) (done (l.rank + 1) l.search.records.now) (places_of l.frame)
