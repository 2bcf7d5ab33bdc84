use Rattle.std.proofs.Common.{refl, ◌∙◌}
use Rattle.plan.specs.Groups.{lists}
use Rattle.plan.proofs.Planning.{none_joins, start_known, chosen_of, first_reached, kept_reached, planned}
use Rattle.plan.proofs.lay.lay.Goals as goal

pub returns-in_err-start-clause-value : goal.returns-in_err-start-clause-value
returns-in_err-start-clause-value g c =
    let o = c.args.o.now in
    rw c.from_residual.ensures (none_joins (g.O.DistanceOracle.meaning o) (g.met.O.DistanceOracle.sound o) c.args.first.now _ c.in_err-start.ensures.value, refl)

pub gather-gathered-requires-clause-within : goal.gather-gathered-requires-clause-within
gather-gathered-requires-clause-within g c =
    let said = c.in_ok-start.ensures in
    (start_known c.args.first.now (lists c.args.others.now) c.requires.within said.value said.same).0

pub gather-gathered-requires-clause-reached : goal.gather-gathered-requires-clause-reached
gather-gathered-requires-clause-reached g c =
    let said = c.in_ok-start.ensures in
    (c.in_ok-start.start.distance, (start_known c.args.first.now (lists c.args.others.now) c.requires.within said.value said.same).1)

pub lightest-best-requires-clause-reached : goal.lightest-best-requires-clause-reached
lightest-best-requires-clause-reached g c =
    let said = c.in_ok-start.ensures in
    let ch = chosen_of c.args.first.now (lists c.args.others.now) said.value said.same c.gather-gathered.ensures.items c.as_slice-chosen.ensures.value in
    first_reached (g.met.O.DistanceOracle.sound c.args.o.now) c.requires.within c.requires.inside ch (c.gather-gathered.ensures.same ∙ said.same)

pub grow-requires : goal.grow-requires
grow-requires g c =
    let said = c.in_ok-start.ensures in
    let ch = chosen_of c.args.first.now (lists c.args.others.now) said.value said.same c.gather-gathered.ensures.items c.as_slice-chosen.ensures.value in
    let e = c.gather-gathered.ensures.same ∙ said.same in
    let k = kept_reached (g.met.O.DistanceOracle.sound c.args.o.now) c.requires.within c.requires.inside ch c.lightest-best.ensures.trunk e (c.lightest-best.ensures.same ∙ e) in
    record { within = k.0; reached = k.1 }

pub returns-clause-value : goal.returns-clause-value
returns-clause-value g c =
    let said = c.in_ok-start.ensures in
    let ch = chosen_of c.args.first.now (lists c.args.others.now) said.value said.same c.gather-gathered.ensures.items c.as_slice-chosen.ensures.value in
    let e = c.gather-gathered.ensures.same ∙ said.same in
    planned (g.met.O.DistanceOracle.sound c.args.o.now) c.requires.within c.requires.inside ch c.lightest-best.ensures.trunk e c.requires.roomy c.grow.ensures.trunk (c.lightest-best.ensures.same ∙ e)
