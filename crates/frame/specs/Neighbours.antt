-- The arcs of one place, for a caller. Assumes nothing.
use Rattle.std.specs.Prelude.{◌≡◌, ℕ, zero, suc, ◌+◌, ◌<◌, Bool, ◌||◌, List, [], ◌∷◌, length, sum_by, ◌==◌, ◌≢◌}
use Rattle.std.specs.List.Sorted.{IsNonDecreasingBy}
use Rattle.std.specs.List.{AllByRecursion}
use Rattle.ways.specs.declared.row.Row.{Row}
use Rattle.ways.specs.Options.{pick}
use Rattle.ways.specs.Way.{Joins, Joined}
use Rattle.frame.specs.declared.arc.Arc.{Arc}
use Rattle.frame.specs.Rows.{row_at}
use Rattle.frame.specs.Fans.{arcs_from, weight}

-- v is an end of the duct
abbrev pub touches : ℕ → Row → Bool
touches v d = d.first == v || d.second == v

-- how many ducts touch v
unfoldable pub degree : List Row → ℕ → ℕ
degree [] v = 0
degree (d ∷ ds) v = pick (touches v d) 1 0 + degree ds v

-- the sum of f over the numbers below n
unfoldable pub sum_below : (ℕ → ℕ) → ℕ → ℕ
sum_below f zero = 0
sum_below f (suc n) = sum_below f n + f n

-- each duct that touches v, once, as an arc that begins there, by its other end
pub record Neighbours (ds : List Row) (v : ℕ) (ls : List Arc) : Type 0 where
  pub owned : AllByRecursion (λ a. a.from ≡ v) ls
  pub joined : AllByRecursion (λ a. Joined ds v a.to a.length) ls
  pub named : AllByRecursion (λ a. (a.duct < length ds) × Joins (row_at ds a.duct) v a.to a.length) ls
  pub whole : (w len : ℕ) → Joined ds v w len → AllByRecursion (λ a. a.to ≡ w → a.length ≢ len) ls → ⊥
  pub once : (f : Arc → ℕ) → sum_by f ls ≡ sum_by (weight f v) (arcs_from 0 ds)
  pub rising : IsNonDecreasingBy (λ (a : Arc). a.to) ls
  pub count : length ls ≡ degree ds v
