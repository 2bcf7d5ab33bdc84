use Rattle.std.proofs.Common.{rules, ◌≡◌, ℕ, List, map, length, MatchResult, None, Ok, Err, sym, ap, ◌∙◌, subst, arith}
use Rattle.std.proofs.lemmas.List.{length-map}
use Rattle.ways.specs.Few.{members}
use Rattle.oracle.specs.Meaning.{Meaning}
use Rattle.job.specs.Day.{groups_by}
use Rattle.job.specs.Held.{groups}
use Rattle.job.proofs.Listings.{groups_fitted}
use Rattle.plan.specs.Plans.{FewGroups, outside_groups}
use Rattle.day.specs.Law.{refusal, Answers}
use Rattle.day.proofs.Joins.{fitted_inside, answers_too}
use Rattle.day.proofs.planning.plan_job.Goals as goal

pub returns-clause-day : goal.returns-clause-day
returns-clause-day g c = λ n calls a.
    let job = c.args.job.now in
    let m : Meaning = g.O.DistanceOracle.meaning c.args.oracle.now in
    let fs = c.as_slice-fittings.result.now in
    let gs = map members fs in
    let held' : gs ≡ groups job = ap (map members) c.as_slice-fittings.ensures.value ∙ c.listed-listed.ensures.value in
    let few : FewGroups gs = (omega (arith, length-map fs members, c.if-count-eq0.false), omega (arith, (groups_fitted job).1, ap length held')) in
    let inside : outside_groups m.count gs ≡ None = subst (λ (n : ℕ). outside_groups n gs ≡ None) (sym c.places.ensures ∙ sym c.if-places.false ∙ c.places-places.ensures)
    (subst (λ (l : List (List ℕ)). outside_groups job.heading.places l ≡ None) (sym held') (fitted_inside job.heading.places (groups job) c.listed-listed.ensures.fitted)) in
    let same : m.count ≡ n = sym c.places-places.ensures ∙ c.if-places.false ∙ c.places.ensures ∙ a.places in
    let by : gs ≡ groups_by n calls = ap (map members) c.as_slice-fittings.ensures.value ∙ c.listed-listed.ensures.day n calls a in
    let is : MatchResult c.plan.result (λ t. c.map_err.result ≡ Ok t) (λ e. c.map_err.result ≡ Err (refusal e (length fs))) = search rules in
    let is' : MatchResult c.plan.result (λ t. c.map_err.result ≡ Ok t) (λ e. c.map_err.result ≡ Err (refusal e (length gs))) = subst (λ (k : ℕ). MatchResult c.plan.result (λ t. c.map_err.result ≡ Ok t) (λ e. c.map_err.result ≡ Err (refusal e k))) (sym (length-map fs members)) is in
    subst (λ (l : List (List ℕ)). Answers m n l c.args.trunk.now c.plan.new.rows c.map_err.result) by (answers_too m n gs c.args.trunk.now c.plan.new.rows c.plan.result c.map_err.result few inside same c.plan.ensures.value is')
