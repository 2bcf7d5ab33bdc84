-- The law of planning: what a plan answers over an oracle, for the fittings that stand. Assumes nothing.
use Rattle.std.specs.Prelude.{◌≡◌, ℕ, ◌-◌, ◌<◌, ◌≤◌, Bool, List, [], length, Ok, Err, Result, ◌≢◌}
use Rattle.ways.specs.declared.row.Row.{Row}
use Rattle.ways.specs.Nearest.{no_place}
use Rattle.oracle.specs.Meaning.{Meaning}
use Rattle.trees.specs.Connected.{Net}
use Rattle.plan.specs.declared.fault.PlanFault.{PlanFault}
use Rattle.plan.specs.declared.fault.PlanFault.TheVariants.{Count, NoPlace as NoSuchPlace, Rows, NoSet as NoSuchSet}
use Rattle.plan.specs.declared.trunk.Trunk.{Trunk}
use Rattle.plan.specs.Plans.{Joining, Planned}
use Rattle.job.specs.declared.fault.JobFault.{JobFault}
use Rattle.job.specs.declared.fault.JobFault.TheVariants.{Number, Places, NoPlace, Stands, Absent, NoneStanding, OtherPlaces, Trunk as TrunkFault, NoSet}

-- what the job says of a plan's fault, where g fittings stand
abbrev pub refusal : PlanFault → ℕ → JobFault
refusal (Count groups) g = NoneStanding
refusal (NoSuchPlace place) g = NoPlace place
refusal (Rows needed) g = TrunkFault needed
refusal (NoSuchSet groups) g = NoSet g

-- a plan can be made: a fitting stands, the oracle has the job's n places, and the trunk memory has n − 1 entries or more
pub record Ready (m : Meaning) (n : ℕ) (gs : List (List ℕ)) (room : ℕ) : Type 0 where
  pub some : 1 ≤ length gs
  pub same : m.count ≡ n
  pub roomy : n - 1 ≤ room

-- the refusals, in their order: none stands; the oracle has another number of places, which is told; the memory is short of n − 1 entries;
-- no connected set touches every one of the g standing fittings
abbrev pub Refused : Meaning → ℕ → List (List ℕ) → ℕ → JobFault → Type 0
Refused m n gs room NoneStanding = gs ≡ []
Refused m n gs room (OtherPlaces k) = (1 ≤ length gs) × (m.count ≢ n) × (k ≡ m.count)
Refused m n gs room (TrunkFault needed) = (1 ≤ length gs) × (m.count ≡ n) × (needed ≡ n - 1) × (room < needed)
Refused m n gs room (NoSet g) = Ready m n gs room × (g ≡ length gs) × ((c : Net) → Joining m gs c → ⊥)
Refused m n gs room Number = ⊥
Refused m n gs room (Places f) = ⊥
Refused m n gs room (NoPlace p) = ⊥
Refused m n gs room (Stands f) = ⊥
Refused m n gs room (Absent f) = ⊥

-- the answer to a plan, and the trunk memory before and after it: a laid trunk is that of the steps, one tree of the oracle's ducts that touches every
-- standing fitting, of the told weight, which is at most g − 1 times that of any connected set that touches them all; a refusal leaves the memory as it was
abbrev pub Answers : Meaning → ℕ → List (List ℕ) → List Row → List Row → Result Trunk JobFault → Type 0
Answers m n gs old new (Ok t) = Ready m n gs (length old) × Planned m gs old new t
Answers m n gs old new (Err e) = Refused m n gs (length old) e × (new ≡ old)

-- the focus after it: empty where a trunk was laid or no set was found, else as it was
abbrev pub FocusAfter : (ℕ → Bool) → (ℕ → Bool) → Result Trunk JobFault → Type 0
FocusAfter old new (Ok t) = new ≡ no_place
FocusAfter old new (Err (NoSet g)) = new ≡ no_place
FocusAfter old new (Err NoneStanding) = new ≡ old
FocusAfter old new (Err (OtherPlaces k)) = new ≡ old
FocusAfter old new (Err (TrunkFault needed)) = new ≡ old
FocusAfter old new (Err Number) = new ≡ old
FocusAfter old new (Err (Places f)) = new ≡ old
FocusAfter old new (Err (NoPlace p)) = new ≡ old
FocusAfter old new (Err (Stands f)) = new ≡ old
FocusAfter old new (Err (Absent f)) = new ≡ old
