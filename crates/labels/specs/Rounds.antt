-- What a round of building keeps of the memory. Assumes nothing.
use Rattle.std.specs.Prelude.{◌≡◌, ℕ, ◌+◌, ◌<◌, ◌≤◌, true, false, ◌⊎◌, List, ◌∷◌, length, Some, Ok, Err, Result, ◌≢◌}
use Rattle.std.specs.List.{AllByRecursion}
use Rattle.std.specs.List.Sorted.{IsPermutation}
use Rattle.heap.specs.declared.search.SearchEntry.{SearchEntry}
use Rattle.frame.specs.declared.arc.Arc.{Arc}
use Rattle.frame.specs.Neighbours.{Neighbours}
use Rattle.ways.specs.declared.row.Row.{Row}
use Rattle.ways.specs.Places.{Order}
use Rattle.ways.specs.Way.{Lawful}
use Rattle.hubs.specs.declared.entry.Entry.{Entry}
use Rattle.hubs.specs.Labels.{place, Hub, ExactBelow}
use Rattle.hubs.specs.Search.{said, Written}
use Rattle.labels.specs.declared.fault.LabelsFault.{LabelsFault}
use Rattle.labels.specs.declared.fault.LabelsFault.TheVariants.{TooLong}
use Rattle.labels.specs.declared.record.Record.{Record}
use Rattle.labels.specs.Table.{row_in, Fits, Behind}
use Rattle.labels.specs.State.{known, done, got, Upto, Laid}
use Rattle.labels.specs.Pruning.{Due, Pruning}

-- the rows hold the hubs of the ranks below r, and r is the next
pub record Ready (n : ℕ) (ds : List Row) (order : List ℕ) (r : ℕ) (row : ℕ → List Entry) : Type 0 where
  pub lawful : Lawful n ds
  pub ordered : Order n order
  pub inside : r < n
  pub exact : ExactBelow n ds order row r

-- what the search of rank r keeps true, where row are the rows that it began with
pub record Searching (n : ℕ) (ds : List Row) (order : List ℕ) (w r : ℕ) (row : ℕ → List Entry) (floor : ℕ) (counts : List ℕ) (entries : List Entry) (rs : List Record) (q : List SearchEntry) : Type 0 where
  pub pruning : Pruning ds (Due ds (got (r + 1) rs)) (said order row r) (place order r) floor (known (r + 1) rs) (done (r + 1) rs) (got (r + 1) rs) q
  pub laid : Laid (r + 1) rs (row (place order r)) (length (row (place order r)))
  pub written : (v : ℕ) → v < n → Written ds order r (got (r + 1) rs) v (got (r + 1) rs v) (row v) (row_in w counts entries v)
  pub fits : Fits n w counts entries
  pub behind : Behind n w counts entries
  pub upto : Upto (r + 1) rs

-- the label of v is longer than its row, which is full
abbrev pub Overfull : ℕ → List Row → List ℕ → ℕ → ℕ → (ℕ → List Entry) → LabelsFault → Type 0
Overfull n ds order w r row f = (f ≡ TooLong w) × ((v : ℕ) × (v < n) × (length (row v) ≡ w) × ((c : ℕ) × Hub n ds order v r c))

-- v is settled, and no other place
abbrev pub Settles : ℕ → ℕ → List Record → List Record → Type 0
Settles k v rs rs' = (done k rs' v ≡ true) × ((x : ℕ) → (x ≢ v) → done k rs' x ≡ done k rs x)

-- no place but v, at the distance d, has the hub that had it not
abbrev pub Adds : ℕ → ℕ → ℕ → List Record → List Record → Type 0
Adds k v d rs rs' = (x c : ℕ) → got k rs' x ≡ Some c → (got k rs x ≡ Some c) ⊎ ((x ≡ v) × (c ≡ d))

-- the place of the least entry was visited
abbrev pub Visited : ℕ → List Row → List ℕ → ℕ → ℕ → (ℕ → List Entry) → SearchEntry → List Record → List ℕ → List Entry → List Record → List SearchEntry → Result (Unit {0}) LabelsFault → Type 0
Visited n ds order w r row e rs counts' entries' rs' q' (Ok _) = Searching n ds order w r row e.distance counts' entries' rs' q' × Settles (r + 1) e.place rs rs' × Adds (r + 1) e.place e.distance rs rs'
Visited n ds order w r row e rs counts' entries' rs' q' (Err f) = Overfull n ds order w r row f

-- what is known where the entry e, whose place is not settled, was taken out of q, which leaves q'
pub record Visiting (n : ℕ) (ds : List Row) (order : List ℕ) (w r : ℕ) (row : ℕ → List Entry) (e : SearchEntry) (arcs : List Arc) (counts : List ℕ) (entries : List Entry) (rs : List Record) (q q' : List SearchEntry) : Type 0 where
  pub ready : Ready n ds order r row
  pub arcs_are : Neighbours ds e.place arcs
  pub bag : IsPermutation q (e ∷ q')
  pub first : AllByRecursion (λ y. e.distance ≤ y.distance) q
  pub floor : ℕ
  pub searching : Searching n ds order w r row floor counts entries rs q
  pub waiting : done (r + 1) rs e.place ≡ false

-- the rows hold the hubs of one rank more
pub record Advanced (n : ℕ) (ds : List Row) (order : List ℕ) (w r : ℕ) (counts : List ℕ) (entries : List Entry) (rs : List Record) : Type 0 where
  pub exact : ExactBelow n ds order (row_in w counts entries) (1 + r)
  pub fits : Fits n w counts entries
  pub behind : Behind n w counts entries
  pub upto : Upto (r + 1) rs

-- the search of rank r, from the first memory to the second
abbrev pub Round : ℕ → List Row → List ℕ → ℕ → ℕ → List ℕ → List Entry → List ℕ → List Entry → List Record → Result (Unit {0}) LabelsFault → Type 0
Round n ds order w r counts entries counts' entries' rs' (Ok _) = Advanced n ds order w r counts' entries' rs'
Round n ds order w r counts entries counts' entries' rs' (Err f) = Overfull n ds order w r (row_in w counts entries) f
