-- What a search keeps true of its records and its heap. Assumes nothing.
use Rattle.std.specs.Prelude.{◌≡◌, ℕ, zero, suc, ◌+◌, ◌≤◌, Bool, true, false, cond, ◌⊎◌, List, ◌∷◌, Some, None, Option, ◌≢◌, slice_index_or, slice_set}
use Rattle.std.specs.List.{AllByRecursion}
use Rattle.std.specs.List.Sorted.{IsPermutation}
use Rattle.heap.specs.declared.search.SearchEntry.{SearchEntry}
use Rattle.ways.specs.declared.row.Row.{Row}
use Rattle.ways.specs.Way.{Joined}
use Rattle.ways.specs.Options.{AtMost}
use Rattle.ways.specs.Distance.{Reached}
use Rattle.search.specs.declared.record.Record.{Record}

-- the record of a place that the search has not come to and that is not in focus
abbrev pub blank : Record
blank = record { distance = None; settled = false; focused = false }

-- what the records say of a place: its distance so far, whether it is settled, whether it is in focus
abbrev pub known : List Record → ℕ → Option ℕ
known rs v = (slice_index_or rs v blank).distance

abbrev pub done : List Record → ℕ → Bool
done rs v = (slice_index_or rs v blank).settled

abbrev pub lit : List Record → ℕ → Bool
lit rs v = (slice_index_or rs v blank).focused

-- the records with another distance and another mark at v, in focus as before
abbrev pub noted : List Record → ℕ → Option ℕ → Bool → List Record
noted rs v d b = slice_set rs v (record { distance = d; settled = b; focused = lit rs v })

abbrev pub settled_at : List Record → ℕ → List Record
settled_at rs v = noted rs v (known rs v) true

-- the heap has the entry of the distance k and the place v
abbrev pub Waits : List SearchEntry → ℕ → ℕ → Type 0
Waits q k v = AllByRecursion (λ e. e.distance ≡ k → e.place ≢ v) q → ⊥

-- N are the distances so far from s and D the settled places. Due x w len: the duct from x to w is to have been followed, once x is settled
pub record Kept (ds : List Row) (Due : ℕ → ℕ → ℕ → Type 0) (s floor : ℕ) (N : ℕ → Option ℕ) (D : ℕ → Bool) (q : List SearchEntry) : Type 0 where
  pub begins : AtMost (N s) 0
  pub ways : (v : ℕ) → Reached ds s v (N v)
  pub low : (v : ℕ) → D v ≡ true → AtMost (N v) floor
  pub shut : (x w len a : ℕ) → D x ≡ true → Due x w len → AtMost (N x) a → AtMost (N w) (a + len)
  pub waits : (v k : ℕ) → D v ≡ false → N v ≡ Some k → Waits q k v
  pub listed : AllByRecursion (λ e. (floor ≤ e.distance) × AtMost (N e.place) e.distance) q

-- every duct but those of u
abbrev pub But : List Row → ℕ → ℕ → ℕ → ℕ → Type 0
But ds u x w len = Joined ds x w len × (x ≢ u)

-- a shorter way to a place was found, which now waits
pub record Better (rs : List Record) (q : List SearchEntry) (to n : ℕ) (rs' : List Record) (q' : List SearchEntry) : Type 0 where
  pub fresh : AtMost (known rs to) n → ⊥
  pub records : rs' ≡ noted rs to (Some n) (done rs to)
  pub bag : IsPermutation (record { distance = n; place = to } ∷ q) q'

-- a way as short was known
pub record Unchanged (rs : List Record) (q : List SearchEntry) (to n : ℕ) (rs' : List Record) (q' : List SearchEntry) : Type 0 where
  pub known_already : AtMost (known rs to) n
  pub records : rs' ≡ rs
  pub bag : q' ≡ q

abbrev pub Relaxed : List Record → List SearchEntry → ℕ → ℕ → List Record → List SearchEntry → Type 0
Relaxed rs q to n rs' q' = Unchanged rs q to n rs' q' ⊎ Better rs q to n rs' q'

-- the sum of f over the places below n that are not settled
abbrev pub left : (ℕ → ℕ) → (ℕ → Bool) → ℕ → ℕ
left f D zero = 0
left f D (suc n) = left f D n + cond (D n) 0 (f n)
