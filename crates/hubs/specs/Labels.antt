-- The hubs of a place, and tables of labels, over the ducts ds of n places. Assumes nothing.
use Rattle.std.specs.Prelude.{◌≡◌, ℕ, ◌+◌, ◌<◌, ◌≤◌, ◌⊎◌, List, [], ◌∷◌, Some, ◌≢◌, slice_index}
use Rattle.ways.specs.declared.row.Row.{Row}
use Rattle.ways.specs.Places.{Order}
use Rattle.ways.specs.Way.{Joined}
use Rattle.ways.specs.Distance.{distance}
-- an entry of a label: the rank of a hub, its distance, and the neighbour on the way to it
pub use Rattle.hubs.specs.declared.entry.Entry.{Entry}

-- the place of rank r: ranks are the positions in the order, from 0
abbrev pub place : List ℕ → ℕ → ℕ
place order r = slice_index order r

-- the place of rank r is a hub of v at the distance d: no place of lower rank lies on a way that is as short
pub record Hub (n : ℕ) (ds : List Row) (order : List ℕ) (v r d : ℕ) : Type 0 where
  pub inside : r < n
  pub reached : distance n ds v (place order r) ≡ Some d
  pub less : (q a b : ℕ) → q < r → distance n ds v (place order q) ≡ Some a → distance n ds (place order q) (place order r) ≡ Some b → d < a + b

-- the place of rank r lies on a way of length d from u to v
abbrev pub Between : ℕ → List Row → List ℕ → ℕ → ℕ → ℕ → ℕ → Type 0
Between n ds order u v d r = (a : ℕ) × (b : ℕ) × (distance n ds u (place order r) ≡ Some a) × (distance n ds (place order r) v ≡ Some b) × (a + b ≡ d)

-- the lowest rank that does
pub record Lowest (n : ℕ) (ds : List Row) (order : List ℕ) (u v d r : ℕ) : Type 0 where
  pub inside : r < n
  pub between : Between n ds order u v d r
  pub none_lower : (q : ℕ) → q < r → Between n ds order u v d q → ⊥

-- the entry is in the row
abbrev pub In : Entry → List Entry → Type 0
In e [] = ⊥
In e (x ∷ xs) = (e ≡ x) ⊎ In e xs

-- the row has an entry for the hub of rank r
abbrev pub Has : List Entry → ℕ → Type 0
Has xs r = (e : Entry) × In e xs × (e.rank ≡ r)

-- every rank of the row is above r
abbrev pub Above : ℕ → List Entry → Type 0
Above r [] = Unit {0}
Above r (x ∷ xs) = (r < x.rank) × Above r xs

-- the ranks rise along the row
abbrev pub Rising : List Entry → Type 0
Rising [] = Unit {0}
Rising (x ∷ xs) = Above x.rank xs × Rising xs

-- both rows have the hub of rank r, and its two distances add up to d
pub record Shared (xs ys : List Entry) (r d : ℕ) : Type 0 where
  pub first : Entry
  pub second : Entry
  pub first_in : In first xs
  pub second_in : In second ys
  pub first_rank : first.rank ≡ r
  pub second_rank : second.rank ≡ r
  pub sum : first.distance + second.distance ≡ d

-- w is joined to v, and begins a way of length d from v to h
abbrev pub Onward : ℕ → List Row → ℕ → ℕ → ℕ → ℕ → Type 0
Onward n ds v h d w = (len : ℕ) × (b : ℕ) × Joined ds v w len × (distance n ds w h ≡ Some b) × (len + b ≡ d)

-- an order of the places, and a row of entries for each place
pub record Table : Type 0 where
  pub order : List ℕ
  pub row : ℕ → List Entry

-- an entry of v's row: a true distance, and v itself at its own entry, else a neighbour on the way that has the hub too
pub record RightEntry (n : ℕ) (ds : List Row) (t : Table) (v : ℕ) (e : Entry) : Type 0 where
  pub rank_in : e.rank < n
  pub true_distance : distance n ds v (place t.order e.rank) ≡ Some e.distance
  pub own : place t.order e.rank ≡ v → e.neighbour ≡ v
  pub onward : (place t.order e.rank ≢ v) → Onward n ds v (place t.order e.rank) e.distance e.neighbour × Has (t.row e.neighbour) e.rank

-- a table that may be believed: its order has each place once, its rows rise, its entries are right, and any two places with a way share a hub that gives their distance
pub record Right (n : ℕ) (ds : List Row) (t : Table) : Type 0 where
  pub ordered : Order n t.order
  pub rising : (v : ℕ) → v < n → Rising (t.row v)
  pub entries : (v : ℕ) (e : Entry) → v < n → In e (t.row v) → RightEntry n ds t v e
  pub cover : (u v d : ℕ) → u < n → v < n → distance n ds u v ≡ Some d → (r : ℕ) × Shared (t.row u) (t.row v) r d

-- an entry by the definition: a hub with its distance, and v itself at its own entry, else the smallest neighbour on the way
pub record ExactEntry (n : ℕ) (ds : List Row) (order : List ℕ) (v : ℕ) (e : Entry) : Type 0 where
  pub is_hub : Hub n ds order v e.rank e.distance
  pub own : place order e.rank ≡ v → e.neighbour ≡ v
  pub onward : (place order e.rank ≢ v) → Onward n ds v (place order e.rank) e.distance e.neighbour
  pub smallest : (place order e.rank ≢ v) → (w : ℕ) → Onward n ds v (place order e.rank) e.distance w → e.neighbour ≤ w

-- rows that hold exactly the hubs, by rising rank
pub record Exact (n : ℕ) (ds : List Row) (t : Table) : Type 0 where
  pub ordered : Order n t.order
  pub rising : (v : ℕ) → v < n → Rising (t.row v)
  pub only : (v : ℕ) (e : Entry) → v < n → In e (t.row v) → ExactEntry n ds t.order v e
  pub every : (v r d : ℕ) → v < n → Hub n ds t.order v r d → Has (t.row v) r

-- rows that hold exactly the hubs of rank below r
pub record ExactBelow (n : ℕ) (ds : List Row) (order : List ℕ) (row : ℕ → List Entry) (r : ℕ) : Type 0 where
  pub rising : (v : ℕ) → v < n → Rising (row v)
  pub only : (v : ℕ) (e : Entry) → v < n → In e (row v) → (e.rank < r) × ExactEntry n ds order v e
  pub every : (v q d : ℕ) → v < n → q < r → Hub n ds order v q d → Has (row v) q
