-- A walk by an oracle's steps. Assumes nothing.
use Rattle.std.specs.Prelude.{◌≡◌, ℕ, ◌<◌, List, [], ◌∷◌, map, Some, None, Ok, Err, vec_items, Option, Result, Vec, ◌≢◌}
use Rattle.std.specs.declared.alloc.Global.{Global}
use Rattle.ways.specs.Way.{Hop, Leads, total}
use Rattle.oracle.specs.declared.step.Step.{Step}
use Rattle.oracle.specs.declared.step.Step.TheVariants.{Here, NoWay, Next}
use Rattle.oracle.specs.declared.walk.Leg.{Leg}
use Rattle.oracle.specs.declared.walk.WalkFault.{WalkFault}
use Rattle.oracle.specs.declared.walk.WalkFault.TheVariants.{Oracle, NoMemory}
use Rattle.oracle.specs.Meaning.{Meaning, far}
use Rattle.oracle.specs.Answers.{Outside}

-- where a step goes
abbrev pub leg_of : Step → Option Leg
leg_of Here = None
leg_of NoWay = None
leg_of (Next place len) = Some (record { place = place; length = len })

-- a leg as a hop of a way
abbrev pub hop_of : Leg → Hop
hop_of l = record { to = l.place; length = l.length }

-- from u towards v, each hop is what the rule names, and v is not passed
abbrev pub Along : (ℕ → ℕ → Hop) → ℕ → ℕ → List Hop → ℕ → Type 0
Along rule v u [] at = u ≡ at
Along rule v u (h ∷ hs) at = (u ≢ v) × (h ≡ rule u v) × Along rule v h.to hs at

-- a way from u to v over listed ducts, as long as their distance, by the way rule
pub record Walk (m : Meaning) (u v : ℕ) (hs : List Hop) : Type 0 where
  pub leads : Leads m.ducts u hs v
  pub shortest : far m u v ≡ Some (total hs)
  pub along : Along m.rule v u hs v

-- the walk from u to v; none where there is no way; or why it was not walked
abbrev pub Walked : Meaning → ℕ → ℕ → Result (Option (Vec Leg Global)) WalkFault → Type 0
Walked m u v (Ok None) = (u < m.count) × (v < m.count) × (far m u v ≡ None)
Walked m u v (Ok (Some legs)) = (u < m.count) × (v < m.count) × Walk m u v (map hop_of (vec_items legs))
Walked m u v (Err (Oracle e)) = Outside m.count u v e
Walked m u v (Err NoMemory) = (u < m.count) × (v < m.count)
