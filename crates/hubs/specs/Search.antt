-- The pruned search from the place of rank r. Assumes nothing.
use Rattle.std.specs.Prelude.{◌≡◌, ℕ, ◌+◌, ◌<◌, ◌≤◌, ◌⊎◌, List, [], ◌∷◌, ◌++◌, Some, None, Option, ◌≢◌}
use Rattle.ways.specs.declared.row.Row.{Row}
use Rattle.ways.specs.Way.{Joined}
use Rattle.ways.specs.Distance.{distance}
use Rattle.hubs.specs.Labels.{place, Entry}
use Rattle.hubs.specs.Merge.{merge, sum_of, Less}

-- the distance of v and the place of rank r that the rows so far tell
abbrev pub said : List ℕ → (ℕ → List Entry) → ℕ → ℕ → Option ℕ
said order row r v = sum_of (merge (row v) (row (place order r)))

-- v was tried at the length c: it has a distance that is no greater, or the rows so far tell one that is no greater
abbrev pub Tried : List ℕ → (ℕ → List Entry) → ℕ → (ℕ → Option ℕ) → ℕ → ℕ → Type 0
Tried order row r got v c = ((d : ℕ) × (got v ≡ Some d) × (d ≤ c)) ⊎ (Less c (said order row r v) → ⊥)

-- where a pruned search came to, and at which distances, in whatever order it went
pub record Searched (n : ℕ) (ds : List Row) (order : List ℕ) (row : ℕ → List Entry) (r : ℕ) (got : ℕ → Option ℕ) : Type 0 where
  pub start : Tried order row r got (place order r) 0
  pub goes_on : (v w len b : ℕ) → v < n → w < n → got w ≡ Some b → Joined ds w v len → Tried order row r got v (len + b)
  pub no_less : (v d : ℕ) → v < n → got v ≡ Some d → (c : ℕ) × (distance n ds v (place order r) ≡ Some c) × (c ≤ d)
  pub passed : (v d : ℕ) → v < n → got v ≡ Some d → Less d (said order row r v)

-- w is a neighbour of v that the search came to, on the way of length d
abbrev pub Back : List Row → (ℕ → Option ℕ) → ℕ → ℕ → ℕ → Type 0
Back ds got v d w = (len : ℕ) × (b : ℕ) × Joined ds v w len × (got w ≡ Some b) × (len + b ≡ d)

-- w is v itself where v is the source, else the smallest such neighbour
pub record BackFirst (ds : List Row) (order : List ℕ) (r : ℕ) (got : ℕ → Option ℕ) (v d w : ℕ) : Type 0 where
  pub own : place order r ≡ v → w ≡ v
  pub back : (place order r ≢ v) → Back ds got v d w
  pub first : (place order r ≢ v) → (x : ℕ) → Back ds got v d x → w ≤ x

-- v's row before and after the search: an entry for the rank r is behind it where the search came to v, and no other
abbrev pub Written : List Row → List ℕ → ℕ → (ℕ → Option ℕ) → ℕ → Option ℕ → List Entry → List Entry → Type 0
Written ds order r got v None old new = new ≡ old
Written ds order r got v (Some d) old new = (w : ℕ) × BackFirst ds order r got v d w × (new ≡ old ++ (record { rank = r; distance = d; neighbour = w } ∷ []))
