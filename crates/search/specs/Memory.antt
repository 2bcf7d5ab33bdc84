-- What stays of the memory that is lent to a search. Assumes nothing.
use Rattle.std.specs.Prelude.{◌≡◌, ℕ, length}
use Rattle.heap.specs.Of.{capacity}
use Rattle.search.specs.declared.dijkstra.Search.{Search}
use Rattle.search.specs.State.{lit}

-- the same loans, as many records and as much room for places that wait, and the same places in focus
pub record SameMemory (old new : Search) : Type 0 where
  pub records : new.records.ghost_name ≡ old.records.ghost_name
  pub queue : new.queue.ghost_name ≡ old.queue.ghost_name
  pub size : length new.records.now ≡ length old.records.now
  pub room : capacity new.queue.now ≡ capacity old.queue.now
  pub focus : (v : ℕ) → lit new.records.now v ≡ lit old.records.now v
