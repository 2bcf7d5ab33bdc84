-- The nearest place in focus, by one record for each hub. Assumes nothing.
use Rattle.std.specs.Prelude.{◌≡◌, ℕ, ◌+◌, ◌<◌, Bool, true, false, List, [], ◌∷◌, Some, None, Option, ◌==◌, nat_le, nat_lt}
use Rattle.ways.specs.Nearest.{Near}
use Rattle.ways.specs.Options.{pick}
use Rattle.ways.specs.Nearest.{Later}
use Rattle.hubs.specs.Labels.{Entry, In}

-- q comes no sooner than p
abbrev pub Before : Near → Near → Type 0
Before p q = Later p q.place (Some q.distance)

-- p is a place in focus with the hub of rank r in its row, and has its distance to that hub
pub record Held (n : ℕ) (focus : ℕ → Bool) (row : ℕ → List Entry) (r : ℕ) (p : Near) : Type 0 where
  pub inside : p.place < n
  pub focused : focus p.place ≡ true
  pub entry : Entry
  pub entry_in : In entry (row p.place)
  pub at_rank : entry.rank ≡ r
  pub at_distance : entry.distance ≡ p.distance

-- the record of the hub of rank r: the first of them, or none
abbrev pub IsRecord : ℕ → (ℕ → Bool) → (ℕ → List Entry) → ℕ → Option Near → Type 0
IsRecord n focus row r None = (p : Near) → Held n focus row r p → ⊥
IsRecord n focus row r (Some p) = Held n focus row r p × ((q : Near) → Held n focus row r q → Before p q)

-- p is nearer than q, or as near and of no greater number
abbrev pub before : Near → Near → Bool
before p q = pick (nat_lt p.distance q.distance) true (pick (p.distance == q.distance) (nat_le p.place q.place) false)

-- the one that comes first
abbrev pub sooner : Option Near → Option Near → Option Near
sooner None q = q
sooner (Some p) None = Some p
sooner (Some p) (Some q) = pick (before p q) (Some p) (Some q)

-- a record, seen from a place that is d from the hub
abbrev pub seen : ℕ → Option Near → Option Near
seen d None = None
seen d (Some p) = Some (record { place = p.place; distance = d + p.distance })

-- the first of the records that a row sees
abbrev pub folded : (ℕ → Option Near) → List Entry → Option Near
folded records [] = None
folded records (x ∷ xs) = sooner (seen x.distance (records x.rank)) (folded records xs)

-- the distance that a row has for the hub of rank r
abbrev pub distance_of : ℕ → List Entry → Option ℕ
distance_of r [] = None
distance_of r (x ∷ xs) = pick (x.rank == r) (Some x.distance) (distance_of r xs)

-- the place g at that distance
abbrev pub placed : ℕ → Option ℕ → Option Near
placed g None = None
placed g (Some d) = Some (record { place = g; distance = d })
