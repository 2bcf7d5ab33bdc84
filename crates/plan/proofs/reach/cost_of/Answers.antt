use Rattle.std.proofs.Common.{◌≡◌, ◌+◌, Some, sym, ap, ◌∙◌, subst, arith, drop}
use Rattle.std.proofs.lemmas.Grind.{common_steps}
use Rattle.ways.specs.Options.{plus}
use Rattle.oracle.specs.Meaning.{Meaning, far}
use Rattle.trees.specs.Groups.{cost}
use Rattle.plan.specs.Groups.{lists}
use Rattle.plan.proofs.Costs.{item_of, item_more, item_lost}
use Rattle.plan.proofs.reach.cost_of.Goals as goal

pub returns-in_err-nearest_of-clause-value : goal.returns-in_err-nearest_of-clause-value
returns-in_err-nearest_of-clause-value g c =
    let m = g.O.DistanceOracle.meaning c.loop-group.o in
    let lost = item_lost m c.args.v (item_of c.args.groups.now c.loop-group.group-index c.loop-group.invariant.1 c.group-item.is c.as_slice.ensures.value c.loop-group-test.true) c.in_err-nearest_of.ensures.value in
    let none = ap (plus (Some c.loop-group.sum)) lost in
    let same = ap (λ (y : Meaning). cost (far y) c.args.v (lists c.args.groups.now)) c.loop-group.invariant.2 in
    c.from_residual.ensures ∙ sym none ∙ c.loop-group.invariant.0 ∙ same

pub loop-group-preserved : goal.loop-group-preserved
loop-group-preserved g c =
    let gs = c.args.groups.now in
    let more = item_more (g.O.DistanceOracle.meaning c.loop-group.o) c.args.v (item_of gs c.loop-group.group-index c.loop-group.invariant.1 c.group-item.is c.as_slice.ensures.value c.loop-group-test.true) c.loop-group.sum c.from.result c.in_ok-nearest_of.field-0 c.in_ok-nearest_of.ensures.value c.from.ensures in (
      subst (λ (y : Meaning). plus (Some (c.loop-group.sum + c.from.result)) (cost (far y) c.args.v (lists (drop (c.loop-group.group-index + 1) gs))) ≡ cost (far y) c.args.v (lists gs)) (sym c.in_ok-nearest_of.ensures.same) (more ∙ c.loop-group.invariant.0),
      grind (arith, common_steps),
      c.in_ok-nearest_of.ensures.same ∙ c.loop-group.invariant.2,
      omega arith,
    )
