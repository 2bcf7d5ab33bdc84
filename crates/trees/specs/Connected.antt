-- Connected sets of places and ducts, and the trees among them: connected subgraphs. Assumes nothing.
use Rattle.std.specs.Prelude.{◌≡◌, ℕ, ◌+◌, ◌≤◌, List, [], ◌∷◌, length}
use Rattle.ways.specs.declared.row.Row.{Row}
use Rattle.ways.specs.Places.{On, Apart, AllBelow}
use Rattle.ways.specs.Way.{Hop, Joined, Leads}

-- the sum of the lengths
abbrev pub weight : List Row → ℕ
weight [] = 0
weight (d ∷ ds) = d.length + weight ds

-- each duct of the second list is in the first, from whichever end
abbrev pub Listed : List Row → List Row → Type 0
Listed ds [] = Unit {0}
Listed ds (e ∷ es) = Joined ds e.first e.second e.length × Listed ds es

-- no duct is in the list twice, from whichever end
abbrev pub Once : List Row → Type 0
Once [] = Unit {0}
Once (e ∷ es) = (Joined es e.first e.second e.length → ⊥) × Once es

-- both ends of each duct are among the places
abbrev pub Between : List ℕ → List Row → Type 0
Between ps [] = Unit {0}
Between ps (e ∷ es) = On e.first ps × On e.second ps × Between ps es

-- some places and some ducts
pub record Net : Type 0 where
  pub places : List ℕ
  pub ducts : List Row

-- one or more of n places, with ducts of the list ds, both ends among these places, that join them all; no place and no duct counts twice
pub record Connected (n : ℕ) (ds : List Row) (c : Net) : Type 0 where
  pub some : 1 ≤ length c.places
  pub inside : AllBelow n c.places
  pub apart : Apart c.places
  pub listed : Listed ds c.ducts
  pub once : Once c.ducts
  pub between : Between c.places c.ducts
  pub joined : (u v : ℕ) → On u c.places → On v c.places → (hs : List Hop) × Leads c.ducts u hs v

-- a connected set with one duct fewer than places
pub record Tree (n : ℕ) (ds : List Row) (c : Net) : Type 0 where
  pub connected : Connected n ds c
  pub thin : length c.ducts + 1 ≡ length c.places

-- the set has a place of the group
abbrev pub Touches : Net → List ℕ → Type 0
Touches c g = (p : ℕ) × On p g × On p c.places

-- the set has a place of each group
abbrev pub TouchesAll : Net → List (List ℕ) → Type 0
TouchesAll c [] = Unit {0}
TouchesAll c (g ∷ gs) = Touches c g × TouchesAll c gs
