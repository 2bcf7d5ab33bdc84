use Rattle.std.proofs.Common.{[], ◌∷◌, ◌++◌, length, sym, refl, subst}
use Rattle.oracle.specs.Meaning.{Meaning}
use Rattle.job.specs.declared.call.Call.{Call}
use Rattle.job.specs.Day.{plans, focuses, clears, groups_by}
use Rattle.job.specs.Held.{Agrees}
use Rattle.job.specs.Said.{said}
use Rattle.job.proofs.Days.{agrees_still}
use Rattle.day.specs.declared.answer.Answer.TheVariants.{Planned, Focused, Cleared}
use Rattle.day.specs.Run.{Right}
use Rattle.day.proofs.Joins.{made_none, focus_right}
use Rattle.day.proofs.running.answered.Goals as goal

pub returns-in_err-kept-in-Plan : goal.returns-in_err-kept-in-Plan
returns-in_err-kept-in-Plan g c =
    let m : Meaning = g.O.DistanceOracle.meaning c.args.oracle.now in
    let job = c.args.job.now in
    record {
      right = λ calls a. made_none c.from_residual.result _ c.from_residual.ensures.0;
      agrees = λ calls a. subst (λ (k : Call). Agrees m.count (calls ++ said k ∷ []) job) (sym c.in-Plan.is) (agrees_still m.count calls job plans refl a);
      same = c.plan_job-planned.ensures.same;
    }

pub returns-in_ok-kept-in-Plan : goal.returns-in_ok-kept-in-Plan
returns-in_ok-kept-in-Plan g c =
    let m : Meaning = g.O.DistanceOracle.meaning c.args.oracle.now in
    let job = c.args.job.now in
    record {
      right = λ calls a. subst (λ (k : Call). Right m (length c.args.trunk.now) calls (said k) (Planned c.in_ok-kept-in-Plan.field-0)) (sym c.in-Plan.is)
          (c.in_ok-kept-in-Plan.ensures m m.count (groups_by m.count calls) c.args.trunk.now (c.plan_job-planned.ensures.day m.count calls a));
      agrees = λ calls a. subst (λ (k : Call). Agrees m.count (calls ++ said k ∷ []) job) (sym c.in-Plan.is) (agrees_still m.count calls job plans refl a);
      same = c.plan_job-planned.ensures.same;
    }

pub returns-in-Focus : goal.returns-in-Focus
returns-in-Focus g c =
    let m : Meaning = g.O.DistanceOracle.meaning c.args.oracle.now in
    let job = c.args.job.now in
    record {
      right = λ calls a. subst (λ (k : Call). Right m (length c.args.trunk.now) calls (said k) (Focused c.focus.result)) (sym c.in-Focus.is)
          (focus_right m c.in-Focus.place (g.O.GroupOracle.focused c.args.oracle.now) (g.O.GroupOracle.focused c.focus.new.self) c.focus.result c.focus.ensures.value);
      agrees = λ calls a. subst (λ (k : Call). Agrees m.count (calls ++ said k ∷ []) job) (sym c.in-Focus.is) (agrees_still m.count calls job (focuses c.in-Focus.place) refl a);
      same = c.focus.ensures.same;
    }

pub returns-in-Clear : goal.returns-in-Clear
returns-in-Clear g c =
    let m : Meaning = g.O.DistanceOracle.meaning c.args.oracle.now in
    let job = c.args.job.now in
    record {
      right = λ calls a. subst (λ (k : Call). Right m (length c.args.trunk.now) calls (said k) Cleared) (sym c.in-Clear.is) tt;
      agrees = λ calls a. subst (λ (k : Call). Agrees m.count (calls ++ said k ∷ []) job) (sym c.in-Clear.is) (agrees_still m.count calls job clears refl a);
      same = c.clear.ensures.same;
    }
