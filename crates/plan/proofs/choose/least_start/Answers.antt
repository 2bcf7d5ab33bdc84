use Rattle.std.proofs.Common.{◌≡◌, ℕ, List, get_or, ap, ◌∙◌}
use Rattle.oracle.specs.Meaning.{Meaning, far}
use Rattle.trees.specs.Groups.{cost}
use Rattle.plan.specs.Groups.{lists}
use Rattle.plan.proofs.Chosens.{least_at}
use Rattle.std.proofs.Common.{arith}
use Rattle.std.proofs.lemmas.Grind.{common_steps}
use Rattle.plan.proofs.choose.least_start.Goals as goal

pub loop-place-preserved : goal.loop-place-preserved
loop-place-preserved g c =
    let xs : List ℕ = c.args.first.now in
    let i : ℕ = c.loop-place.place-index in
    let costs = λ (v : ℕ). cost (far (g.O.DistanceOracle.meaning c.args.o.now)) v (lists c.args.others.now) in
    let e : c.cost_of-cost.result ≡ costs (get_or xs i 0) = c.cost_of-cost.ensures.value ∙ ap (λ (y : Meaning). cost (far y) (get_or xs i 0) (lists c.args.others.now)) c.loop-place.invariant.1 in (
      least_at costs xs i c.loop-place.best c.map-start.result _ c.loop-place-test.true c.loop-place.invariant.0 (let h = c.map-start.ensures in grind (arith, common_steps)) (cc),
      c.cost_of-cost.ensures.same ∙ c.loop-place.invariant.1,
      grind (arith, common_steps),
    )
