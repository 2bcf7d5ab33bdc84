-- The standing fittings one after the other: how many, and what holds of each. Assumes nothing.
use Rattle.std.proofs.Common.{◌≡◌, ℕ, zero, suc, ◌+◌, ◌/◌, ◌^◌, ◌<◌, ◌≤◌, Bool, true, false, cond, List, [], ◌∷◌, ◌++◌, length, get_or, IfSome, Some, None, Option, refl, ap, ◌∙◌, div-one, add-one, arith, length-append, shr-shr}
use native.Mathlib.Nat.{div-eq_of_lt}
use lib.Count.{ones, ones_step}
use Rattle.std.specs.Option.{option_to_list}
use Rattle.std.specs.List.{AllByRecursion}
use Rattle.std.proofs.ByRecursion.{All-append}
use Rattle.std.specs.Int.{bit_at}
use Rattle.std.proofs.lemmas.Grind.{common_steps}
use Rattle.std.proofs.lemmas.Nat.Bits.{bit_at-lt}
use Rattle.std.proofs.lemmas.List.{append-nil}
use Rattle.ways.specs.Few.{members}
use Rattle.job.specs.declared.job.Job.{Job}
use Rattle.job.specs.Day.{Standing, below}
use Rattle.job.specs.Held.{held, groups}
use Rattle.job.specs.Marks.{marked, no_fitting}
use Rattle.job.specs.Places.{Fitted}
use Rattle.job.proofs.Fits.{lawful_fitted}

-- the fittings below f + 1
below_next : (f : ℕ) (on : Standing) → below (f + 1) on ≡ below f on ++ option_to_list (on f)
unfolding below
below_next f on = ap (λ (k : ℕ). below k on) (add-one f)

-- where f stands it comes last of them
pub below_stands : (f : ℕ) (on : Standing) (ps : List ℕ) → on f ≡ Some ps → below (f + 1) on ≡ below f on ++ ps ∷ []
below_stands f on ps e = below_next f on ∙ ap (λ (o : Option (List ℕ)). below f on ++ option_to_list o) e

-- where f does not stand they are those below f
pub below_absent : (f : ℕ) (on : Standing) → on f ≡ None → below (f + 1) on ≡ below f on
below_absent f on e = below_next f on ∙ ap (λ (o : Option (List ℕ)). below f on ++ option_to_list o) e ∙ append-nil (below f on)

-- none is below 0
pub below_none : (on : Standing) → below 0 on ≡ []
unfolding below
below_none on = refl

-- what holds of each standing fitting holds of all those below k, and these are at most k
pub all_below : (P : List ℕ → Type 0) (k : ℕ) (on : Standing) → ((f : ℕ) → IfSome (on f) P) → AllByRecursion P (below k on) × (length (below k on) ≤ k)
unfolding below
all_below P zero on h = (tt, omega arith)
all_below P (suc k) on h =
    let r = all_below P k on h in
    let s = one (on k) (h k) in
    (All-append P (below k on) (option_to_list (on k)) r.0 s.0, omega (arith, length-append (below k on) (option_to_list (on k)), r.1, s.1))
  where
    one : (o : Option (List ℕ)) → IfSome o P → AllByRecursion P (option_to_list o) × (length (option_to_list o) ≤ 1)
    one None e = (tt, omega arith)
    one (Some ps) e = ((e, tt), omega arith)

-- a standing fitting has lawful places
pub held_fitted : (job : Job) (f : ℕ) → IfSome (held job f) (Fitted job.heading.places)
held_fitted job f = go (marked job.heading.standing f) refl
  where
    go : (t : Bool) → marked job.heading.standing f ≡ t → IfSome (cond t (Some (members (get_or job.fittings f no_fitting))) None) (Fitted job.heading.places)
    go true e = lawful_fitted job.heading.places (members (get_or job.fittings f no_fitting)) (job.sound f e)
    go false e = tt

-- what a job has a plan reach: at most 64 groups of 1 to 16 places below n, strictly rising
pub groups_fitted : (job : Job) → AllByRecursion (Fitted job.heading.places) (groups job) × (length (groups job) ≤ 64)
groups_fitted job = all_below (Fitted job.heading.places) 64 (held job) (held_fitted job)

-- one mark more
length_mark : (job : Job) (k : ℕ) → k < 64 → length (option_to_list (held job k)) ≡ bit_at job.heading.standing k
length_mark job k h = grind (arith, common_steps, bit_at-lt)

ones_below : (job : Job) (k : ℕ) → k ≤ 64 → ones job.heading.standing ≡ length (below k (held job)) + ones (job.heading.standing / 2 ^ k)
unfolding below
ones_below job zero h = omega (arith, ap ones (div-one job.heading.standing))
ones_below job (suc k) h =
    let w = job.heading.standing in
    let step : ones (w / 2 ^ k) ≡ bit_at w k + ones (w / 2 ^ suc k) = ones_step (w / 2 ^ k) ∙ ap (λ (x : ℕ). bit_at w k + ones x) (shr-shr w k 1 ∙ ap (λ (x : ℕ). w / 2 ^ x) (add-one k)) in
    omega (arith, ones_below job k (omega arith), step, length-append (below k (held job)) (option_to_list (held job k)), length_mark job k (omega arith))

no_ones : (w : ℕ) → w < 2 ^ 64 → ones (w / 2 ^ 64) ≡ 0
unfolding ones
no_ones w h = ap ones (div-eq_of_lt h) ∙ refl

-- as many marks as fittings that stand
pub ones_count : (job : Job) → job.heading.standing < 2 ^ 64 → ones job.heading.standing ≡ length (groups job)
ones_count job h = omega (arith, ones_below job 64 (omega arith), no_ones job.heading.standing h)
