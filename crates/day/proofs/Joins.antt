-- How a job's fittings become a plan's groups, and what follows. Assumes nothing.
use Rattle.std.proofs.Common.{◌≡◌, ℕ, Bool, true, false, cond, List, [], ◌∷◌, length, is_err, IfOk, MatchResult, Some, None, Ok, Err, Option, Result, sym, refl, ap, ◌∙◌, subst, arith, lt-ltb}
use Rattle.std.specs.List.{AllByRecursion}
use Rattle.ways.specs.Places.{AllBelow, outside}
use Rattle.job.specs.declared.fault.JobFault.{JobFault}
use Rattle.job.specs.Places.{Fitted}
use Rattle.std.proofs.lemmas.Bool.{both_ways}
use Rattle.oracle.specs.declared.fault.OracleFault.{OracleFault}
use Rattle.oracle.specs.Answers.{Focused}
use Rattle.ways.specs.declared.row.Row.{Row}
use Rattle.oracle.specs.Meaning.{Meaning}
use Rattle.plan.specs.declared.fault.PlanFault.{PlanFault}
use Rattle.plan.specs.declared.fault.PlanFault.TheVariants.{Count, NoPlace as NoSuchPlace, Rows, NoSet as NoSuchSet}
use Rattle.plan.specs.Plans as plan
use Rattle.plan.specs.Plans.{or_else, outside_groups, FewGroups, Unplanned, Planned, Joining, Steps}
use Rattle.plan.specs.declared.trunk.Trunk.{Trunk}
use Rattle.day.specs.Law.{refusal, Refused, Answers}
use Rattle.day.specs.Run.{FocusLaw}

-- places below n are none outside
outside_none : (n : ℕ) (ps : List ℕ) → AllBelow n ps → outside n ps ≡ None
outside_none n [] h = refl
outside_none n (p ∷ ps) h = ap (λ (b : Bool). cond b (outside n ps) (Some p)) (lt-ltb p n h.0) ∙ outside_none n ps h.1

-- lawful fittings have no place outside
pub fitted_inside : (n : ℕ) (gs : List (List ℕ)) → AllByRecursion (Fitted n) gs → outside_groups n gs ≡ None
fitted_inside n [] h = refl
fitted_inside n (g ∷ gs) h = ap (λ (o : Option ℕ). or_else o (outside_groups n gs)) (outside_none n g h.0.inside) ∙ fitted_inside n gs h.1

-- what a plan refuses, the job refuses
pub refused_too : (m : Meaning) (n : ℕ) (gs : List (List ℕ)) (old : List Row) (e : PlanFault) (g : ℕ) → FewGroups gs → outside_groups m.count gs ≡ None → m.count ≡ n → g ≡ length gs → Unplanned m gs old e → Refused m n gs (length old) (refusal e g)
refused_too m n gs old (Count groups) g few inside same is h = absurd (h.1 few)
refused_too m n gs old (NoSuchPlace place) g few inside same is h =
    let z : ◌≡◌ {A = Option ℕ} None (Some place) = sym inside ∙ h.1 in
    let y : ◌≡◌ {A = ℕ} 0 1 = cc in omega arith
refused_too m n gs old (Rows needed) g few inside same is h = (few.0, same, omega (arith, h.2), h.3)
refused_too m n gs old (NoSuchSet groups) g few inside same is h = (record { some = few.0; same = same; roomy = omega (arith, h.0.roomy) }, is, h.2)

-- a call that fails makes nothing
pub made_none : {A F : Type 0} (r : Result A F) (P : A → Type 0) → is_err r ≡ true → IfOk r P
made_none (Ok x) P h = absurd (both_ways false refl h)
made_none (Err e) P h = tt

-- the answer of the oracle to a place that comes into focus
pub focus_right : (m : Meaning) (p : ℕ) (f f' : ℕ → Bool) (r : Result (Unit {0}) OracleFault) → Focused m p f f' r → FocusLaw m p r
focus_right m p f f' (Ok _) h = h.0
focus_right m p f f' (Err e) h = (h.0, h.1)

-- what a plan answers of the groups that stand, the job answers
pub answers_too : (m : Meaning) (n : ℕ) (gs : List (List ℕ)) (old new : List Row) (r : Result Trunk PlanFault) (s : Result Trunk JobFault) → FewGroups gs → outside_groups m.count gs ≡ None → m.count ≡ n → plan.Outcome m gs old new r → MatchResult r (λ t. s ≡ Ok t) (λ e. s ≡ Err (refusal e (length gs))) → Answers m n gs old new s
answers_too m n gs old new (Ok t) s few inside same told is =
    subst (Answers m n gs old new) (sym is) (record { some = few.0; same = same; roomy = omega (arith, told.0.roomy) }, told.1)
answers_too m n gs old new (Err e) s few inside same told is =
    subst (Answers m n gs old new) (sym is) (refused_too m n gs old e (length gs) few inside same refl told.0, told.1)
