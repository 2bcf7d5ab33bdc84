-- The law over a day: what is true of the answers to a list of calls over one oracle. Assumes nothing.
use Rattle.std.specs.Prelude.{◌≡◌, ℕ, ◌-◌, ◌*◌, ◌<◌, ◌≤◌, List, length, take, Ok, Err, vec_items, Result, slice_index_or}
use Rattle.oracle.specs.declared.fault.OracleFault.{OracleFault}
use Rattle.oracle.specs.declared.fault.OracleFault.TheVariants.{NoPlace}
use Rattle.oracle.specs.Meaning.{Meaning}
use Rattle.trees.specs.Connected.{weight, Net, Tree, TouchesAll}
use Rattle.trees.specs.Growth.{net}
use Rattle.plan.specs.Plans.{Joining, Steps}
use Rattle.plan.specs.Trunks.{Tells}
use Rattle.job.specs.declared.fault.JobFault.{JobFault}
use Rattle.job.specs.Day.{Act, adds, drops, plans, focuses, clears, verdict, standing_by, groups_by}
use Rattle.job.specs.Held.{fault_of}
use Rattle.day.specs.declared.answer.Laid.{Laid}
use Rattle.day.specs.declared.answer.Answer.{Answer}
use Rattle.day.specs.declared.answer.Answer.TheVariants.{Job, Planned, Focused, Cleared}
use Rattle.day.specs.Law.{Ready, Refused}

-- a laid trunk, its start place with its ducts and their ends: it is the trunk of the steps, and its numbers are told; one tree of the oracle's ducts, which touches
-- every standing fitting, and weighs at most g − 1 times any connected set that touches them all
pub record TrunkLaw (m : Meaning) (gs : List (List ℕ)) (t : Laid) : Type 0 where
  pub steps : Steps m gs t.trunk.start (vec_items t.ducts)
  pub tells : Tells t.trunk t.trunk.start (vec_items t.ducts)
  pub tree : Tree m.count m.ducts (net t.trunk.start (vec_items t.ducts))
  pub touches : TouchesAll (net t.trunk.start (vec_items t.ducts)) gs
  pub bounded : (c : Net) → Joining m gs c → t.trunk.weight ≤ (length gs - 1) * weight c.ducts

-- the answer to a plan for the standing fittings gs, with room for so many ducts: a trunk where it can be laid, else the first refusal that holds
abbrev pub PlanLaw : Meaning → ℕ → List (List ℕ) → ℕ → Result Laid JobFault → Type 0
PlanLaw m n gs room (Ok t) = Ready m n gs room × TrunkLaw m gs t
PlanLaw m n gs room (Err e) = Refused m n gs room e

-- the answer to a place that is to come into focus
abbrev pub FocusLaw : Meaning → ℕ → Result (Unit {0}) OracleFault → Type 0
FocusLaw m p (Ok _) = p < m.count
FocusLaw m p (Err e) = (m.count ≤ p) × (e ≡ NoPlace p)

-- the right answer to a call that comes after the calls before it: what stands is what these calls say, and nothing else
abbrev pub Right : Meaning → ℕ → List Act → Act → Answer → Type 0
Right m room before (adds f ps) (Job r) = fault_of r ≡ verdict m.count (standing_by m.count before) (adds f ps)
Right m room before (drops f) (Job r) = fault_of r ≡ verdict m.count (standing_by m.count before) (drops f)
Right m room before plans (Planned r) = PlanLaw m m.count (groups_by m.count before) room r
Right m room before (focuses p) (Focused r) = FocusLaw m p r
Right m room before clears Cleared = Unit {0}
Right m room before (adds f ps) (Planned r) = ⊥
Right m room before (adds f ps) (Focused r) = ⊥
Right m room before (adds f ps) Cleared = ⊥
Right m room before (drops f) (Planned r) = ⊥
Right m room before (drops f) (Focused r) = ⊥
Right m room before (drops f) Cleared = ⊥
Right m room before plans (Job r) = ⊥
Right m room before plans (Focused r) = ⊥
Right m room before plans Cleared = ⊥
Right m room before (focuses p) (Job r) = ⊥
Right m room before (focuses p) (Planned r) = ⊥
Right m room before (focuses p) Cleared = ⊥
Right m room before clears (Job r) = ⊥
Right m room before clears (Planned r) = ⊥
Right m room before clears (Focused r) = ⊥

-- each call of the day has its right answer
pub record DayLaw (m : Meaning) (room : ℕ) (calls : List Act) (answers : List Answer) : Type 0 where
  pub as_many : length answers ≡ length calls
  pub each : (i : ℕ) → i < length calls → Right m room (take i calls) (slice_index_or calls i plans) (slice_index_or answers i Cleared)
