-- What the steps of a pruned search change. Assumes nothing.
use Rattle.std.specs.Prelude.{◌≡◌, ℕ, ◌+◌, ◌≤◌, Bool, false, ◌⊎◌, List, ◌∷◌, get_or, Some, Option, ◌≢◌, ◌==◌, slice_index_or, slice_set}
use Rattle.std.specs.List.Sorted.{IsPermutation}
use Rattle.heap.specs.declared.search.SearchEntry.{SearchEntry}
use Rattle.frame.specs.declared.arc.Arc.{Arc}
use Rattle.frame.specs.Neighbours.{Neighbours}
use Rattle.ways.specs.declared.row.Row.{Row}
use Rattle.ways.specs.Options.{pick, AtMost}
use Rattle.hubs.specs.Search.{Back}
use Rattle.labels.specs.declared.record.Record.{Record}
use Rattle.labels.specs.State.{blank, is_hub, known, done, got, noted, Upto}
use Rattle.labels.specs.Pruning.{Due, DueBut, Pruning}

-- a shorter way to a place was found, which now waits
pub record Better (k : ℕ) (rs : List Record) (q : List SearchEntry) (to d : ℕ) (rs' : List Record) (q' : List SearchEntry) : Type 0 where
  pub fresh : AtMost (known k rs to) d → ⊥
  pub records : rs' ≡ slice_set rs to (noted k (slice_index_or rs to blank) d)
  pub bag : IsPermutation (record { distance = d; place = to } ∷ q) q'

-- a way as short was known
pub record Unchanged (k : ℕ) (rs : List Record) (q : List SearchEntry) (to d : ℕ) (rs' : List Record) (q' : List SearchEntry) : Type 0 where
  pub known_already : AtMost (known k rs to) d
  pub records : rs' ≡ rs
  pub bag : q' ≡ q

-- a way of the length d to a place was looked at
abbrev pub Relaxed : ℕ → List Record → List SearchEntry → ℕ → ℕ → List Record → List SearchEntry → Type 0
Relaxed k rs q to d rs' q' = Unchanged k rs q to d rs' q' ⊎ Better k rs q to d rs' q'

-- the marks of what is laid out are the same, and no mark is of a later round
pub record Steady (k : ℕ) (rs rs' : List Record) : Type 0 where
  pub laid_round : (v : ℕ) → (get_or rs' v blank).laid_round ≡ (get_or rs v blank).laid_round
  pub laid : (v : ℕ) → (get_or rs' v blank).laid ≡ (get_or rs v blank).laid
  pub upto : Upto k rs → Upto k rs'
  pub same_done : (v : ℕ) → done k rs' v ≡ done k rs v

-- the arcs of u, which has the hub at the distance d, were followed
abbrev pub Followed : ℕ → List Arc → ℕ → List Record → List SearchEntry → List Record → List SearchEntry → Type 0
Followed k arcs d rs q rs' q' =
    (ds : List Row) (tells : ℕ → Option ℕ) (s u : ℕ) → Neighbours ds u arcs → got k rs u ≡ Some d → Pruning ds (DueBut ds (got k rs) u) tells s d (known k rs) (done k rs) (got k rs) q
    → Pruning ds (Due ds (got k rs')) tells s d (known k rs') (done k rs') (got k rs') q' × ((v : ℕ) → got k rs' v ≡ got k rs v)

-- whether an arc of this length to the place of the record leads back on a way of the length d
abbrev pub leads_by : ℕ → ℕ → Record → ℕ → Bool
leads_by k d x len = pick (is_hub x.stage) (pick (x.round == k) (len + x.distance == d) false) false

-- the neighbour of v that its entry names: v itself where v is the source, else the smallest on the way back, where there is one
abbrev pub Chosen : ℕ → List Record → List Arc → ℕ → ℕ → ℕ → ℕ → Type 0
Chosen k rs arcs s v d w =
    (v ≡ s → w ≡ v) × ((ds : List Row) (x : ℕ) → (v ≢ s) → Neighbours ds v arcs → Back ds (got k rs) v d x → Back ds (got k rs) v d w × (w ≤ x))
