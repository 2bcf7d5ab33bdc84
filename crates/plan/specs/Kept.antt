-- The lightest of the trunks that grow from the chosen places. Assumes nothing.
use Rattle.std.specs.Prelude.{◌≡◌, ℕ, ◌<◌, ◌≤◌, List, slice_index}
use Rattle.ways.specs.declared.row.Row.{Row}
use Rattle.oracle.specs.Meaning.{Meaning}
use Rattle.trees.specs.Connected.{weight}
use Rattle.plan.specs.declared.trunk.Trunk.{Trunk}
use Rattle.plan.specs.Trunks.{Grown, Tells}

-- the trunk from x with the ducts ds grew from one of the first i chosen places; from each of these a trunk grows, none is lighter, and those from places before x are heavier
pub record Lightest (m : Meaning) (cs : List ℕ) (i : ℕ) (x : ℕ) (ds : List Row) : Type 0 where
  pub at : ℕ
  pub before : at < i
  pub starts : x ≡ slice_index cs at
  pub grown : Grown m x cs ds
  pub least : (j : ℕ) → j < i → (es : List Row) × Grown m (slice_index cs j) cs es × (weight ds ≤ weight es) × (j < at → weight ds < weight es)

-- what is told is that trunk
abbrev pub TellsLightest : Meaning → List ℕ → ℕ → Trunk → Type 0
TellsLightest m cs i t = (ds : List Row) × Lightest m cs i t.start ds × Tells t t.start ds
