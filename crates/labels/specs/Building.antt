-- What building answers. Assumes nothing.
use Rattle.std.specs.Prelude.{◌≡◌, ℕ, ◌+◌, ◌*◌, ◌<◌, Bool, ◌⊎◌, List, length, Ok, Err, Result, ◌==◌, nat_lt, slice_index, slice_index_or}
use Rattle.ways.specs.declared.row.Row.{Row}
use Rattle.ways.specs.Options.{pick}
use Rattle.ways.specs.Places.{Order}
use Rattle.hubs.specs.declared.entry.Entry.{Entry}
use Rattle.hubs.specs.Labels.{Table, Exact}
use Rattle.labels.specs.declared.fault.LabelsFault.{LabelsFault}
use Rattle.labels.specs.declared.fault.LabelsFault.TheVariants.{Width, Rows, Counts, Places, Records, Entries, TooLong, Order as OrderFault}
use Rattle.labels.specs.declared.memory.Sizes.{Sizes}
use Rattle.labels.specs.Orders.{FirstBad}
use Rattle.labels.specs.Table.{no_entry, table_in, Fits, Behind}

-- accepted, or refused with a fault
abbrev pub Verdict : Type 0
Verdict = Result (Unit {0}) LabelsFault

-- refused with the fault where the test holds, else what follows
abbrev pub refuse : Bool → LabelsFault → Verdict → Verdict
refuse test fault onward = pick test (Err fault) onward

-- refused with the fault unless the two are equal
abbrev pub unless_equal : ℕ → ℕ → LabelsFault → Verdict → Verdict
unless_equal a b fault onward = pick (a == b) onward (Err fault)

-- the width, then the memory for n places and m ducts: rows, counts and order exactly, records and heap entries at least
abbrev pub memory_verdict : ℕ → ℕ → ℕ → Sizes → Verdict
memory_verdict n m w s =
    refuse (nat_lt w 1) Width
    (refuse (nat_lt 4096 w) Width
    (unless_equal s.rows (n * w) (Rows (n * w))
    (unless_equal s.counts n (Counts n)
    (unless_equal s.order n (Places n)
    (refuse (nat_lt s.records n) (Records n)
    (refuse (nat_lt s.entries (2 * m + 1)) (Entries (2 * m + 1)) (Ok tt)))))))

-- the memory holds exactly the hubs, with true distances and the smallest neighbours, by rising rank, and zeros behind
pub record Built (n : ℕ) (ds : List Row) (order : List ℕ) (w : ℕ) (counts : List ℕ) (entries : List Entry) : Type 0 where
  pub exact : Exact n ds (table_in w order counts entries)
  pub fits : Fits n w counts entries
  pub behind : Behind n w counts entries

-- some label by its definition is longer than w
abbrev pub SomeLonger : ℕ → List Row → List ℕ → ℕ → Type 0
SomeLonger n ds order w = (t : Table) → Exact n ds t → t.order ≡ order → (v : ℕ) × (v < n) × (w < length (t.row v))

-- the rows and counts are all zero
abbrev pub Zeroed : List ℕ → List Entry → Type 0
Zeroed counts entries = ((i : ℕ) → slice_index counts i ≡ 0) × ((i : ℕ) → slice_index_or entries i no_entry ≡ no_entry)

-- the rows are filled, or some label is longer
abbrev pub Filled : ℕ → List Row → List ℕ → ℕ → List ℕ → List Entry → Verdict → Type 0
Filled n ds order w counts entries (Ok _) = Built n ds order w counts entries
Filled n ds order w counts entries (Err f) = (f ≡ TooLong w) × SomeLonger n ds order w

-- what building answers with given memory, and what it leaves there
abbrev pub Answered : ℕ → List Row → List ℕ → ℕ → Verdict → List ℕ → List Entry → List ℕ → List Entry → Verdict → Type 0
Answered n ds order w memory counts entries counts' entries' (Ok _) = (memory ≡ Ok tt) × Order n order × Built n ds order w counts' entries'
Answered n ds order w memory counts entries counts' entries' (Err f) =
    ((memory ≡ Err f) × (counts' ≡ counts) × (entries' ≡ entries))
    ⊎ ((memory ≡ Ok tt) × ((i : ℕ) × (f ≡ OrderFault i) × FirstBad n order i) × (counts' ≡ counts) × (entries' ≡ entries))
    ⊎ ((memory ≡ Ok tt) × Order n order × (f ≡ TooLong w) × SomeLonger n ds order w × Zeroed counts' entries')

-- the rows are filled from nothing, or some label is longer and all is zero
abbrev pub Rebuilt : ℕ → List Row → List ℕ → ℕ → List ℕ → List Entry → Verdict → Type 0
Rebuilt n ds order w counts entries (Ok _) = Built n ds order w counts entries
Rebuilt n ds order w counts entries (Err f) = (f ≡ TooLong w) × SomeLonger n ds order w × Zeroed counts entries
