-- What calls do to a job, and to every day that agrees with it. Assumes nothing.
use Rattle.std.proofs.Common.{◌≡◌, ℕ, List, [], ◌∷◌, ◌++◌, Option, sym, refl, ap, ◌∙◌, ap₂}
use Rattle.job.specs.declared.fault.JobFault.{JobFault}
use Rattle.job.specs.declared.job.Job.{Job}
use Rattle.job.specs.Day.{Act, Standing, nothing, verdict, next, after, standing_by, below, groups_by}
use Rattle.job.specs.Held.{groups, Agrees, Did, EveryDay}

-- some calls and then some more
pub after_append : (n : ℕ) (on : Standing) (cs ds : List Act) → after n on (cs ++ ds) ≡ after n (after n on cs) ds
after_append n on [] ds = refl
after_append n on (c ∷ cs) ds = after_append n (next n on c) cs ds

-- what is true of the job held is true of every day that agrees with it
pub every_day : (job : Job) (c : Act) (a : Option JobFault) (job' : Job) → Did job c a job' → EveryDay job c a job'
every_day job c a job' did n calls agrees = (
  did.answers ∙ ap₂ (λ (m : ℕ) (on : Standing). verdict m on c) agrees.places agrees.stands,
  record {
    places = did.places ∙ agrees.places;
    stands = did.holds ∙ ap₂ (λ (m : ℕ) (on : Standing). next m on c) agrees.places agrees.stands ∙ sym (after_append n nothing calls (c ∷ []));
  },
)

-- a call that changes nothing, as a plan or a change of focus, leaves the job with the day
pub agrees_still : (n : ℕ) (calls : List Act) (job : Job) (c : Act) → next n (standing_by n calls) c ≡ standing_by n calls → Agrees n calls job → Agrees n (calls ++ c ∷ []) job
agrees_still n calls job c same agrees = record {
  places = agrees.places;
  stands = agrees.stands ∙ sym same ∙ sym (after_append n nothing calls (c ∷ []));
}

-- what the job has a plan reach is what the calls say
pub groups_agree : (n : ℕ) (calls : List Act) (job : Job) → Agrees n calls job → groups job ≡ groups_by n calls
groups_agree n calls job agrees = ap (below 64) agrees.stands
