use Rattle.frame.specs.Of.{places_of, rows_of}
use Rattle.labels.specs.Memory.{SameMemory, SameRoom}
use Rattle.labels.proofs.Fills.{Filling}
use Rattle.labels.proofs.filling.fill.Given as goal

abbrev pub invariant-loop-rank : goal.invariant-loop-rank
invariant-loop-rank l = record {
  room : SameRoom l.initial.search l.search;
  same : SameMemory l.initial.rows l.rows;
  filling : Filling (places_of l.frame) (rows_of l.frame) l.order l.rows.width l.rank l.rows.counts.now l.rows.entries.now l.search.records.now;
}
