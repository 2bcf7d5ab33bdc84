-- What a job holds, and when that is what the calls say. Assumes nothing.
use Rattle.std.specs.Prelude.{◌≡◌, ℕ, cond, List, [], ◌∷◌, ◌++◌, Some, None, Ok, Err, Option, Result, slice_index_or}
use Rattle.ways.specs.Few.{members}
use Rattle.job.specs.declared.fault.JobFault.{JobFault}
use Rattle.job.specs.declared.job.Job.{Job}
use Rattle.job.specs.Day.{Act, Standing, standing_by, below, verdict, next}
use Rattle.job.specs.Marks.{marked, no_fitting}

-- which places a job has each fitting stand with
abbrev pub held : Job → Standing
held job f = cond (marked job.heading.standing f) (Some (members (slice_index_or job.fittings f no_fitting))) None

-- what a plan has to reach: the places of each standing fitting, in rising order of the fittings' numbers
abbrev pub groups : Job → List (List ℕ)
groups job = below 64 (held job)

-- the job has n places, and holds what the calls say
pub record Agrees (n : ℕ) (calls : List Act) (job : Job) : Type 0 where
  pub places : job.heading.places ≡ n
  pub stands : held job ≡ standing_by n calls

-- what a call did to a job: its answer is the verdict, and what is held after it
pub record Did (job : Job) (c : Act) (answer : Option JobFault) (job' : Job) : Type 0 where
  pub answers : answer ≡ verdict job.heading.places (held job) c
  pub places : job'.heading.places ≡ job.heading.places
  pub holds : held job' ≡ next job.heading.places (held job) c

-- the same of every day: the answer is the verdict by the calls alone, and the job agrees with the calls and this one
abbrev pub EveryDay : Job → Act → Option JobFault → Job → Type 0
EveryDay job c answer job' =
    (n : ℕ) (calls : List Act) → Agrees n calls job → (answer ≡ verdict n (standing_by n calls) c) × Agrees n (calls ++ c ∷ []) job'

-- the fault of an answer, if it is one
abbrev pub fault_of : {X : Type 0} → Result X JobFault → Option JobFault
fault_of (Ok x) = None
fault_of (Err e) = Some e

-- a refusal leaves the whole job as it was
abbrev pub Left : {X : Type 0} → Result X JobFault → Job → Job → Type 0
Left (Ok x) job job' = Unit {0}
Left (Err e) job job' = job' ≡ job
