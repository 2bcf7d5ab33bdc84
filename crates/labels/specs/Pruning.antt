-- What a pruned search keeps true. Assumes nothing.
use Rattle.std.specs.Prelude.{◌≡◌, ℕ, Bool, true, ◌⊎◌, List, Some, Option, ◌≢◌}
use Rattle.heap.specs.declared.search.SearchEntry.{SearchEntry}
use Rattle.search.specs.State.{Kept}
use Rattle.ways.specs.declared.row.Row.{Row}
use Rattle.ways.specs.Way.{Joined}
use Rattle.hubs.specs.Merge.{Less}
use Rattle.hubs.specs.Search.{Back}

-- a duct is followed from the places that have the hub, and from no other
abbrev pub Due : List Row → (ℕ → Option ℕ) → ℕ → ℕ → ℕ → Type 0
Due ds got x w len = Joined ds x w len × ((b : ℕ) × (got x ≡ Some b))

-- the same, but for the ducts of u
abbrev pub DueBut : List Row → (ℕ → Option ℕ) → ℕ → ℕ → ℕ → ℕ → Type 0
DueBut ds got u x w len = Due ds got x w len × (x ≢ u)

-- N are the lengths so far from s, D the settled places, and got those of them that have the hub s; tells v is the distance that the rows so far tell
pub record Pruning (ds : List Row) (Follow : ℕ → ℕ → ℕ → Type 0) (tells : ℕ → Option ℕ) (s floor : ℕ) (N : ℕ → Option ℕ) (D : ℕ → Bool) (got : ℕ → Option ℕ) (q : List SearchEntry) : Type 0 where
  pub kept : Kept ds Follow s floor N D q
  pub cut : (v d : ℕ) → D v ≡ true → N v ≡ Some d → (got v ≡ Some d) ⊎ (Less d (tells v) → ⊥)
  pub only : (v d : ℕ) → got v ≡ Some d → (D v ≡ true) × (N v ≡ Some d) × Less d (tells v)
  pub from : (v d : ℕ) → N v ≡ Some d → (v ≢ s) → (w : ℕ) × Back ds got v d w
