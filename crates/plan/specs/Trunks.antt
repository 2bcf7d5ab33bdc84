-- How a trunk grows from a place over chosen places. Assumes nothing.
use Rattle.std.specs.Prelude.{◌≡◌, ℕ, ◌<◌, ◌≤◌, Bool, true, false, List, [], ◌++◌, length, Some, None, Option}
use Rattle.ways.specs.Nearest.{Near}
use Rattle.ways.specs.declared.row.Row.{Row}
use Rattle.ways.specs.Nearest.{Nearest}
use Rattle.ways.specs.Places.{On}
use Rattle.ways.specs.Way.{Hop}
use Rattle.oracle.specs.Meaning.{Meaning, far}
use Rattle.trees.specs.Connected.{weight}
use Rattle.trees.specs.Growth.{laid, held}
use Rattle.trees.specs.Groups.{focus_on}
use Rattle.plan.specs.declared.branch.Branch.{Branch}
use Rattle.plan.specs.declared.trunk.Trunk.{Trunk}
use Rattle.plan.specs.Rows.{written}
use Rattle.plan.specs.Walks.{Walked}

-- of the trunk's places, q is the nearest to c
abbrev pub NearTrunk : Meaning → (ℕ → Bool) → ℕ → Near → Type 0
NearTrunk m trunk c q = Nearest m.count trunk (far m c) (Some q)

-- every chosen place is on the trunk
abbrev pub Holds : (ℕ → Bool) → List ℕ → Type 0
Holds trunk cs = (c : ℕ) → On c cs → trunk c ≡ true

-- of the chosen places off the trunk, the one nearest to it, the smallest number among equals, with its nearest trunk place
pub record Next (m : Meaning) (trunk : ℕ → Bool) (cs : List ℕ) (b : Branch) : Type 0 where
  pub chosen : On b.from cs
  pub off : trunk b.from ≡ false
  pub near : NearTrunk m trunk b.from (record { place = b.to; distance = b.distance })
  pub soonest : (c : ℕ) → On c cs → trunk c ≡ false → (q : Near) → NearTrunk m trunk c q → (b.distance ≤ q.distance) × (b.distance ≡ q.distance → b.from ≤ c)

-- the next branch, or none where every chosen place is on the trunk
abbrev pub NextOf : Meaning → (ℕ → Bool) → List ℕ → Option Branch → Type 0
NextOf m trunk cs None = Holds trunk cs
NextOf m trunk cs (Some b) = Next m trunk cs b

-- no branch where c is on the trunk; else the one from c to its nearest trunk place
abbrev pub BranchFrom : Meaning → (ℕ → Bool) → ℕ → Option Branch → Type 0
BranchFrom m trunk c None = trunk c ≡ true
BranchFrom m trunk c (Some b) = (b.from ≡ c) × (trunk c ≡ false) × NearTrunk m trunk c (record { place = b.to; distance = b.distance })

-- every place of the list has a way to a place of the trunk
abbrev pub Joinable : Meaning → (ℕ → Bool) → List ℕ → Type 0
Joinable m trunk cs = (c : ℕ) → On c cs → (c < m.count) × ((p : ℕ) × (p < m.count) × (trunk p ≡ true) × ((d : ℕ) × (far m c p ≡ Some d)))

-- every chosen place is a place and has a way from x
abbrev pub Reached : Meaning → ℕ → List ℕ → Type 0
Reached m x cs = (c : ℕ) → On c cs → (c < m.count) × ((d : ℕ) × (far m x c ≡ Some d))

-- from the ducts ds of the trunk that was begun at x, growth goes on to the ducts es: it is done where every chosen place is on the trunk;
-- while one is not, the next one walks to the trunk, and the ducts of the walk join in walked order
pub data Grows (m : Meaning) (x : ℕ) (cs : List ℕ) : List Row → List Row → Type 0 where
  done : {ds es : List Row} → Holds (focus_on (held x ds)) cs → es ≡ ds → Grows m x cs ds es
  more : {ds es : List Row} (b : Branch) (hs : List Hop) (meet : ℕ) → Next m (focus_on (held x ds)) cs b → Walked m.rule (focus_on (held x ds)) b.from b.to hs meet → Grows m x cs (ds ++ laid b.from hs) es → Grows m x cs ds es

-- the trunk that grows from x over the chosen places has the ducts ds
abbrev pub Grown : Meaning → ℕ → List ℕ → List Row → Type 0
Grown m x cs ds = Grows m x cs [] ds

-- the start, the number of ducts and the weight of the trunk that was begun at x and has the ducts ds
pub record Tells (t : Trunk) (x : ℕ) (ds : List Row) : Type 0 where
  pub start : t.start ≡ x
  pub ducts : t.ducts ≡ length ds
  pub weighs : t.weight ≡ weight ds

-- the trunk that grows from x over the chosen places is told
abbrev pub TellsGrown : Meaning → ℕ → List ℕ → Trunk → Type 0
TellsGrown m x cs t = (ds : List Row) × Grown m x cs ds × Tells t x ds

-- it is told, and its ducts are written into the rows from the beginning
pub record Laid (m : Meaning) (x : ℕ) (cs : List ℕ) (old new : List Row) (t : Trunk) : Type 0 where
  pub ducts : List Row
  pub grown : Grown m x cs ducts
  pub tells : Tells t x ducts
  pub rows : new ≡ written 0 ducts old
