-- What an oracle answers. Assumes nothing.
use Rattle.std.specs.Prelude.{◌≡◌, ℕ, ◌<◌, ◌≤◌, Bool, Some, None, Ok, Err, Option, Result, ◌==◌, nat_lt}
use Rattle.ways.specs.Nearest.{Near}
use Rattle.ways.specs.Options.{pick}
use Rattle.ways.specs.Way.{Hop}
use Rattle.ways.specs.Nearest.{Nearest, with_place}
use Rattle.oracle.specs.declared.fault.OracleFault.{OracleFault}
use Rattle.oracle.specs.declared.fault.OracleFault.TheVariants.{NoPlace}
use Rattle.oracle.specs.declared.step.Step.{Step}
use Rattle.oracle.specs.declared.step.Step.TheVariants.{Here, NoWay, Next}
use Rattle.oracle.specs.Meaning.{Meaning, far}

-- u is no place, and is told; or u is one and v, which is told, is not
abbrev pub Outside : ℕ → ℕ → ℕ → OracleFault → Type 0
Outside n u v e = (u < n → n ≤ v) × (e ≡ NoPlace (pick (nat_lt u n) v u))

-- the distance of two places
abbrev pub Measured : Meaning → ℕ → ℕ → Result (Option ℕ) OracleFault → Type 0
Measured m u v (Ok d) = (u < m.count) × (v < m.count) × (d ≡ far m u v)
Measured m u v (Err e) = Outside m.count u v e

-- what the way rule names, where the distance is known
abbrev pub step_for : Option ℕ → Hop → Step
step_for None h = NoWay
step_for (Some d) h = Next h.to h.length

-- here, no way, or what the way rule names
abbrev pub step_of : Meaning → ℕ → ℕ → Step
step_of m u v = pick (u == v) Here (step_for (far m u v) (m.rule u v))

-- the step from u towards v
abbrev pub Stepped : Meaning → ℕ → ℕ → Result Step OracleFault → Type 0
Stepped m u v (Ok s) = (u < m.count) × (v < m.count) × (s ≡ step_of m u v)
Stepped m u v (Err e) = Outside m.count u v e

-- one place more is in focus, or the place is refused and the focus is as it was
abbrev pub Focused : Meaning → ℕ → (ℕ → Bool) → (ℕ → Bool) → Result (Unit {0}) OracleFault → Type 0
Focused m v old new (Ok _) = (v < m.count) × (new ≡ with_place v old)
Focused m v old new (Err e) = (m.count ≤ v) × (e ≡ NoPlace v) × (new ≡ old)

-- the nearest place in focus
abbrev pub Found : Meaning → (ℕ → Bool) → ℕ → Result (Option Near) OracleFault → Type 0
Found m focus v (Ok p) = (v < m.count) × Nearest m.count focus (far m v) p
Found m focus v (Err e) = (m.count ≤ v) × (e ≡ NoPlace v)
