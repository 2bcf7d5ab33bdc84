-- What a distance oracle means: places, ducts and a way rule, and what makes that sound. Assumes nothing.
use Rattle.std.specs.Prelude.{◌≡◌, ℕ, ◌+◌, ◌<◌, ◌≤◌, List, Some, None, Option, ◌≢◌}
use Rattle.ways.specs.declared.row.Row.{Row}
use Rattle.ways.specs.Way.{Hop, Joined, Lawful}
use Rattle.ways.specs.Distance.{distance}

-- how many places there are, the list of ducts, where a pair may recur, and the way rule
pub record Meaning : Type 0 where
  pub count : ℕ
  pub ducts : List Row
  pub rule : ℕ → ℕ → Hop

-- the distance of two places over the listed ducts
abbrev pub far : Meaning → ℕ → ℕ → Option ℕ
far m u v = distance m.count m.ducts u v

-- the hop goes from u by a listed duct, and its length and the distance from there to v make the distance from u to v, where there is one
abbrev pub Towards : Meaning → ℕ → ℕ → Hop → Option ℕ → Type 0
Towards m u v h None = Unit {0}
Towards m u v h (Some d) = Joined m.ducts u h.to h.length × ((e : ℕ) × (far m h.to v ≡ Some e) × (h.length + e ≡ d))

-- at most 4,096 places, lawful ducts, and a way rule that leads to v by shortest ways
pub record Sound (m : Meaning) : Type 0 where
  pub few : m.count ≤ 4096
  pub lawful : Lawful m.count m.ducts
  pub leads : (u v : ℕ) → u < m.count → v < m.count → (u ≢ v) → Towards m u v (m.rule u v) (far m u v)
