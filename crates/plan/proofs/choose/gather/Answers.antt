use Rattle.std.proofs.Common.{◌≡◌, ℕ, ◌+◌, List, [], ◌∷◌, ◌++◌, length, take, drop, Some, sym, ap, ◌∙◌, subst, arith, length-append}
use Rattle.std.proofs.lemmas.Grind.{common_steps}
use Rattle.ways.proofs.Metric.{not_both}
use Rattle.ways.specs.Few.{members}
use Rattle.oracle.specs.Meaning.{Meaning, far}
use Rattle.trees.specs.Groups.{cost}
use Rattle.plan.specs.Groups.{lists}
use Rattle.plan.specs.Choices.{Around}
use Rattle.plan.proofs.Costs.{item_of, item_lost, item_rest}
use Rattle.plan.proofs.Chosens.{put_behind, around_more}
use Rattle.plan.proofs.choose.gather.Goals as goal

pub unreachable-requires : goal.unreachable-requires
unreachable-requires g c =
    let item = item_of c.args.others.now c.loop-group.group-index c.loop-group.invariant.1 c.group-item.is c.as_slice.ensures.value c.loop-group-test.true in
    not_both (item_lost (g.O.DistanceOracle.meaning c.loop-group.o) c.args.x item c.in_default.ensures.value) c.loop-group.invariant.2.1

pub loop-group-preserved : goal.loop-group-preserved
loop-group-preserved g c =
    let m = g.O.DistanceOracle.meaning c.loop-group.o in
    let gs = c.args.others.now in
    let i = c.loop-group.group-index in
    let item = item_of gs i c.loop-group.invariant.1 c.group-item.is c.as_slice.ensures.value c.loop-group-test.true in
    let near = c.in-Some.near in
    let cs : List ℕ = members c.loop-group.chosen in
    let new : List ℕ = members c.push-in-loop-group.new.self in
    let p : new ≡ cs ++ (near.place ∷ []) = put_behind c.push-in-loop-group.result cs new near.place 64 c.push-in-loop-group.ensures (omega arith) in
    let a = around_more m c.args.x (lists (take i gs)) c.as_slice.result.now near c.loop-group.invariant.0 c.in-Some.ensures.value item.taken p in
    let same = sym c.in-Some.ensures.same in
    let r = item_rest m c.args.x item c.loop-group.invariant.2.0 c.loop-group.invariant.2.1 in (
      subst (λ (y : Meaning). Around y c.args.x (lists (take (i + 1) gs)) new) same a,
      grind (arith, common_steps),
      (r.0, subst (λ (y : Meaning). cost (far y) c.args.x (lists (drop (i + 1) gs)) ≡ Some r.0) same r.1),
      c.in-Some.ensures.same ∙ c.loop-group.invariant.3,
      omega (arith, ap length p, length-append cs (near.place ∷ [])),
    )
