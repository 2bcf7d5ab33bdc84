-- Answers that tell none for what is no place. Assumes nothing.
use Rattle.std.specs.Prelude.{◌≡◌, ℕ, ◌<◌, ◌≤◌, Bool, None, Option}
use Rattle.ways.specs.Nearest.{Near, Nearest}
use Rattle.oracle.specs.declared.walk.Leg.{Leg}
use Rattle.oracle.specs.Meaning.{Meaning, far}
use Rattle.oracle.specs.Answers.{step_of}
use Rattle.oracle.specs.Walked.{leg_of}

-- the distance of two places
abbrev pub DistanceOf : Meaning → ℕ → ℕ → Option ℕ → Type 0
DistanceOf m u v d = (u < m.count → v < m.count → d ≡ far m u v) × (m.count ≤ u → d ≡ None) × (m.count ≤ v → d ≡ None)

-- the nearest place in focus
abbrev pub NearestTo : Meaning → (ℕ → Bool) → ℕ → Option Near → Type 0
NearestTo m focus v p = (v < m.count → Nearest m.count focus (far m v) p) × (m.count ≤ v → p ≡ None)

-- the leg that the way rule names
abbrev pub LegFrom : Meaning → ℕ → ℕ → Option Leg → Type 0
LegFrom m at to l = (at < m.count → to < m.count → l ≡ leg_of (step_of m at to)) × (m.count ≤ at → l ≡ None) × (m.count ≤ to → l ≡ None)
