use Rattle.plan.proofs.Near.{focus_asked}
use Rattle.std.proofs.Common.{arith}
use Rattle.std.proofs.lemmas.Grind.{common_steps}
use Rattle.plan.proofs.ask.in_focus.Goals as goal

pub returns-clause-value : goal.returns-clause-value
returns-clause-value g c =
    let o = c.args.o.now in
    focus_asked (g.O.DistanceOracle.meaning o) (g.met.O.DistanceOracle.sound o) (g.O.GroupOracle.focused o) c.args.v c.requires c.nearest_to.result c.is_some_and.result (c.nearest_to.ensures.value.0 c.requires) (let h = c.is_some_and.ensures in grind (arith, common_steps))
