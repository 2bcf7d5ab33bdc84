-- What the records say in the round of the number k. Assumes nothing.
use Rattle.std.specs.Prelude.{◌≡◌, ℕ, ◌+◌, ◌<◌, ◌≤◌, Bool, true, false, List, get_or, Some, None, Option, ◌==◌, nat_le, slice_index_or}
use Rattle.ways.specs.Options.{pick}
use Rattle.hubs.specs.declared.entry.Entry.{Entry}
use Rattle.labels.specs.Table.{no_entry}
use Rattle.labels.specs.declared.record.Record.{Record}
use Rattle.labels.specs.declared.record.Stage.{Stage}
use Rattle.labels.specs.declared.record.Stage.TheVariants.{Waiting, Cut, Hub}

-- the record that no round has come to
abbrev pub blank : Record
blank = record { listed = false; round = 0; distance = 0; stage = Waiting; laid_round = 0; laid = 0 }

-- the order has the place v
abbrev pub listed : List Record → ℕ → Bool
listed rs v = (get_or rs v blank).listed

-- the stage is past waiting
abbrev pub past : Stage → Bool
past Waiting = false
past Cut = true
past Hub = true

-- it has the hub
abbrev pub is_hub : Stage → Bool
is_hub Waiting = false
is_hub Cut = false
is_hub Hub = true

-- what a record says in round k: the least length of a way that was found, whether it is settled, and its distance where it has the hub
abbrev pub length_in : ℕ → Record → Option ℕ
length_in k x = pick (x.round == k) (Some x.distance) None

abbrev pub settled_in : ℕ → Record → Bool
settled_in k x = pick (x.round == k) (past x.stage) false

abbrev pub hub_in : ℕ → Record → Option ℕ
hub_in k x = pick (is_hub x.stage) (length_in k x) None

-- the same of the place v
abbrev pub known : ℕ → List Record → ℕ → Option ℕ
known k rs v = length_in k (slice_index_or rs v blank)

abbrev pub done : ℕ → List Record → ℕ → Bool
done k rs v = settled_in k (slice_index_or rs v blank)

abbrev pub got : ℕ → List Record → ℕ → Option ℕ
got k rs v = hub_in k (slice_index_or rs v blank)

-- a record when round k finds a way of the length d
abbrev pub noted : ℕ → Record → ℕ → Record
noted k x d = record { listed = x.listed; round = k; distance = d; stage = pick (x.round == k) x.stage Waiting; laid_round = x.laid_round; laid = x.laid }

-- a record at another stage
abbrev pub staged : Record → Stage → Record
staged x t = record { listed = x.listed; round = x.round; distance = x.distance; stage = t; laid_round = x.laid_round; laid = x.laid }

-- the distance of the source of round k to the hub of rank r, where it has that hub
abbrev pub laid_at : ℕ → List Record → ℕ → Option ℕ
laid_at k rs r = pick ((get_or rs r blank).laid_round == k) (Some (get_or rs r blank).laid) None

-- every mark is of round k or of an earlier one
pub record Upto (k : ℕ) (rs : List Record) : Type 0 where
  pub came : (v : ℕ) → (get_or rs v blank).round ≤ k
  pub laid : (v : ℕ) → (get_or rs v blank).laid_round ≤ k

-- the marks of the search are the same
pub record SameSearch (rs rs' : List Record) : Type 0 where
  pub round : (v : ℕ) → (get_or rs' v blank).round ≡ (get_or rs v blank).round
  pub distance : (v : ℕ) → (get_or rs' v blank).distance ≡ (get_or rs v blank).distance
  pub stage : (v : ℕ) → (get_or rs' v blank).stage ≡ (get_or rs v blank).stage

-- the records of round k have the first i entries of the row by their ranks, and no other
pub record Laid (k : ℕ) (rs : List Record) (ys : List Entry) (i : ℕ) : Type 0 where
  pub only : (r b : ℕ) → laid_at k rs r ≡ Some b → (j : ℕ) × (j < i) × ((get_or ys j no_entry).rank ≡ r) × ((get_or ys j no_entry).distance ≡ b)
  pub every : (j : ℕ) → j < i → laid_at k rs (get_or ys j no_entry).rank ≡ Some (get_or ys j no_entry).distance

-- an entry and the one laid out at its rank in round k give the distance d or less
abbrev pub tells_by : ℕ → ℕ → Record → Entry → Bool
tells_by k d x e = pick (x.laid_round == k) (nat_le (e.distance + x.laid) d) false

-- the record of the source when round k begins
abbrev pub first_record : ℕ → Record → Record
first_record k x = record { listed = x.listed; round = k; distance = 0; stage = Waiting; laid_round = x.laid_round; laid = x.laid }
