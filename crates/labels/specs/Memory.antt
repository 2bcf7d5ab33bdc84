-- What stays of the memory in which rows are, and of that of a search. Assumes nothing.
use Rattle.std.specs.Prelude.{◌≡◌, length}
use Rattle.heap.specs.Of.{capacity}
use Rattle.labels.specs.declared.searching.Search.{Search}
use Rattle.labels.specs.declared.table.Rows.{Rows}

-- the same memory, cut into rows of the same width
pub record SameMemory (old new : Rows) : Type 0 where
  pub width : new.width ≡ old.width
  pub entries : new.entries.ghost_name ≡ old.entries.ghost_name
  pub counts : new.counts.ghost_name ≡ old.counts.ghost_name

-- as many marks, and as much room for places that wait
pub record SameRoom (old new : Search) : Type 0 where
  pub records : length new.records.now ≡ length old.records.now
  pub queue : capacity new.queue.now ≡ capacity old.queue.now

-- the same round, and the same room
pub record SameRound (old new : Search) : Type 0 where
  pub round : new.round ≡ old.round
  pub room : SameRoom old new
