-- What is proved of hubs and labels. Assumes nothing.
use Rattle.std.specs.Prelude.{◌≡◌, ℕ, ◌+◌, ◌<◌, Bool, List, Some, Option, ◌≢◌}
use Rattle.ways.specs.Nearest.{Near}
use Rattle.ways.specs.declared.row.Row.{Row}
use Rattle.ways.specs.Places.{Order}
use Rattle.ways.specs.Way.{Lawful}
use Rattle.ways.specs.Distance.{distance}
use Rattle.ways.specs.Nearest.{Nearest}
use Rattle.hubs.specs.Labels.{place, Hub, Lowest, Entry, Rising, Table, Right, Exact, ExactBelow}
use Rattle.hubs.specs.Merge.{Merged, merge, sum_of}
use Rattle.hubs.specs.Records.{IsRecord, folded}
use Rattle.hubs.specs.Search.{Searched}
use Rattle.hubs.specs.Rule.{Towards, rule_by}

-- there is a lowest rank on the shortest ways from u to v, and it is a hub of both
abbrev pub Cover : Type 0
Cover = (n : ℕ) (ds : List Row) (order : List ℕ) (u v d : ℕ) → Lawful n ds → Order n order → u < n → v < n → distance n ds u v ≡ Some d → ((r : ℕ) × Lowest n ds order u v d r) × ((r : ℕ) → Lowest n ds order u v d r → (a : ℕ) × (b : ℕ) × Hub n ds order u r a × Hub n ds order v r b × (a + b ≡ d))

-- a hub of v is a hub of each place on a shortest way from v to it
abbrev pub Closed : Type 0
Closed = (n : ℕ) (ds : List Row) (order : List ℕ) (v u r d a b : ℕ) → Lawful n ds → Order n order → v < n → u < n → Hub n ds order v r d → distance n ds v u ≡ Some a → distance n ds u (place order r) ≡ Some b → a + b ≡ d → Hub n ds order u r b

-- rows that hold exactly the hubs make a right table
abbrev pub ExactRight : Type 0
ExactRight = (n : ℕ) (ds : List Row) (t : Table) → Lawful n ds → Exact n ds t → Right n ds t

-- for each order there are exact rows
abbrev pub ExactExists : Type 0
ExactExists = (n : ℕ) (ds : List Row) (order : List ℕ) → Lawful n ds → Order n order → (t : Table) × (t.order ≡ order) × Exact n ds t

-- and no two
abbrev pub ExactOnce : Type 0
ExactOnce = (n : ℕ) (ds : List Row) (t k : Table) (v : ℕ) → Exact n ds t → Exact n ds k → t.order ≡ k.order → v < n → t.row v ≡ k.row v

-- the merge of two rows finds the least sum and the lowest rank that gives it, and none exactly if the rows share no hub
abbrev pub MergeFinds : Type 0
MergeFinds = (xs ys : List Entry) → Rising xs → Rising ys → Merged xs ys (merge xs ys)

-- a right table tells distances
abbrev pub RightAnswers : Type 0
RightAnswers = (n : ℕ) (ds : List Row) (t : Table) (u v : ℕ) → Lawful n ds → Right n ds t → u < n → v < n → distance n ds u v ≡ sum_of (merge (t.row u) (t.row v))

-- a right table finds the nearest place in focus
abbrev pub RightNearest : Type 0
RightNearest = (n : ℕ) (ds : List Row) (t : Table) (focus : ℕ → Bool) (records : ℕ → Option Near) (v : ℕ) → Lawful n ds → Right n ds t → v < n → ((r : ℕ) → r < n → IsRecord n focus t.row r (records r)) → Nearest n focus (distance n ds v) (folded records (t.row v))

-- its way rule leads on by a shortest way
abbrev pub RightRule : Type 0
RightRule = (n : ℕ) (ds : List Row) (t : Table) (u v d : ℕ) → Lawful n ds → Right n ds t → u < n → v < n → (u ≢ v) → distance n ds u v ≡ Some d → Towards n ds u v d (rule_by t u v)

-- given the hubs of rank below r, a pruned search comes to the places that have the hub of rank r, at their distances, and to no other
abbrev pub SearchFinds : Type 0
SearchFinds = (n : ℕ) (ds : List Row) (order : List ℕ) (row : ℕ → List Entry) (r : ℕ) (got : ℕ → Option ℕ) (v d : ℕ) → Lawful n ds → Order n order → ExactBelow n ds order row r → r < n → Searched n ds order row r got → v < n → (got v ≡ Some d → Hub n ds order v r d) × (Hub n ds order v r d → got v ≡ Some d)
