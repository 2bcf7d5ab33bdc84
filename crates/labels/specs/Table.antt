-- The memory of a table of labels: n rows of w entries, a count for each row, and the order. Assumes nothing.
use Rattle.std.specs.Prelude.{◌≡◌, ℕ, ◌+◌, ◌*◌, ◌<◌, ◌≤◌, List, length, take, drop, Ok, Err, Result, slice_index, slice_index_or, slice_set}
use Rattle.hubs.specs.declared.entry.Entry.{Entry}
use Rattle.hubs.specs.Labels.{Table}
use Rattle.labels.specs.declared.fault.LabelsFault.{LabelsFault}
use Rattle.labels.specs.declared.fault.LabelsFault.TheVariants.{TooLong}

-- what an unused entry is when built
abbrev pub no_entry : Entry
no_entry = record { rank = 0; distance = 0; neighbour = 0 }

-- how many entries v's row has
abbrev pub count_of : List ℕ → ℕ → ℕ
count_of counts v = slice_index counts v

-- v's row: so many of the entries from v · w on
unfoldable pub row_in : ℕ → List ℕ → List Entry → ℕ → List Entry
row_in w counts entries v = take (count_of counts v) (drop (v * w) entries)

-- the table that the memory holds
abbrev pub table_in : ℕ → List ℕ → List ℕ → List Entry → Table
table_in w order counts entries = record { order = order; row = row_in w counts entries }

-- the memory of n rows of w entries, in which no row is longer than w
pub record Fits (n w : ℕ) (counts : List ℕ) (entries : List Entry) : Type 0 where
  pub rows : length entries ≡ n * w
  pub counted : length counts ≡ n
  pub narrow : (v : ℕ) → v < n → count_of counts v ≤ w

-- every entry behind its row's count is zero
abbrev pub Behind : ℕ → ℕ → List ℕ → List Entry → Type 0
Behind n w counts entries = (v i : ℕ) → v < n → count_of counts v ≤ i → i < w → slice_index_or entries (v * w + i) no_entry ≡ no_entry

-- the memory with one entry more at place v, in the first unused place of its row
pub record Longer (w v : ℕ) (e : Entry) (counts : List ℕ) (entries : List Entry) (counts' : List ℕ) (entries' : List Entry) : Type 0 where
  pub room : count_of counts v < w
  pub counts_are : counts' ≡ slice_set counts v (count_of counts v + 1)
  pub entries_are : entries' ≡ slice_set entries (v * w + count_of counts v) e

-- one entry more, or a full row and nothing changed
abbrev pub Pushed : ℕ → ℕ → Entry → List ℕ → List Entry → List ℕ → List Entry → Result (Unit {0}) LabelsFault → Type 0
Pushed w v e counts entries counts' entries' (Ok _) = Longer w v e counts entries counts' entries'
Pushed w v e counts entries counts' entries' (Err f) = (f ≡ TooLong w) × (count_of counts v ≡ w) × (counts' ≡ counts) × (entries' ≡ entries)
