use Rattle.std.proofs.Common.{◌≡◌, ℕ, ◌+◌, ◌<◌, List, [], ◌∷◌, ◌++◌, map, length, get_or, take, vec_items, sym, ap, ◌∙◌, subst}
use Rattle.std.proofs.lemmas.List.{get_or_default}
use Rattle.oracle.specs.Meaning.{Meaning}
use Rattle.job.specs.declared.call.Call.{Call}
use Rattle.job.specs.declared.call.Call.TheVariants.{Add}
use Rattle.job.specs.Held.{Agrees}
use Rattle.job.specs.Said.{said}
use Rattle.day.specs.declared.answer.Answer.{Answer}
use Rattle.day.specs.Run.{Right}
use Rattle.day.proofs.Days.{SoFar, one_more}
use Rattle.day.proofs.running.run.Goals as goal

pub loop-call-preserved : goal.loop-call-preserved
loop-call-preserved g c =
    let m : Meaning = g.O.DistanceOracle.meaning c.args.oracle.now in
    let now' : Meaning = g.O.DistanceOracle.meaning c.loop-call.oracle in
    let room = length c.args.trunk.now in
    let calls = c.args.calls.now in
    let i = c.loop-call.call-index in
    let xs = vec_items c.loop-call.answers in
    let a = c.in_ok-answer.answer in
    let none : Call = Add 0 record { ref_ptr = (0, 0); now = [] } in
    let call = get_or calls i none in
    let lt : i < length calls = c.loop-call-test.true in
    let acts = take i (map said calls) in
    let len : length xs ≡ i = sym c.loop-call.answers.ok.0 ∙ c.loop-call.invariant.1 in
    let told = c.in_ok-answer.ensures in
    let agreed : Agrees now'.count acts c.loop-call.job = subst (λ (k : Meaning). Agrees k.count acts c.loop-call.job) (sym c.loop-call.invariant.2) c.loop-call.invariant.0 in
    let right : Right m room acts (said call) a = subst (λ (k : Meaning). Right k room acts (said call) a) c.loop-call.invariant.2
    (subst (λ (r : ℕ). Right now' r acts (said call) a) c.loop-call.invariant.3 (told.right acts agreed)) in
    let after : Agrees m.count (acts ++ said call ∷ []) c.answered.new.job = subst (λ (k : Meaning). Agrees k.count (acts ++ said call ∷ []) c.answered.new.job) c.loop-call.invariant.2 (told.agrees acts agreed) in
    let more = one_more m room calls i call c.answered.new.job xs a lt (get_or_default calls i none call lt) len c.loop-call.invariant.4 right after in (
      more.0,
      c.in_ok-push.ensures.len ∙ ap (λ (k : ℕ). k + 1) c.loop-call.invariant.1,
      told.same ∙ c.loop-call.invariant.2,
      c.answered.auto.trunk ∙ c.loop-call.invariant.3,
      subst (λ (zs : List Answer). SoFar m room calls zs (i + 1)) (sym c.in_ok-push.ensures.items) more.1,
    )
