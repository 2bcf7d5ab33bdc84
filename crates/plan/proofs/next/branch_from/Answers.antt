use Rattle.std.proofs.Common.{refl, inl}
use Rattle.ways.proofs.Metric.{not_both}
use Rattle.plan.proofs.Near.{focus_near}
use Rattle.plan.proofs.Nexts.{branch_at}
use Rattle.plan.proofs.next.branch_from.Goals as goal

pub returns-in_err-near-clause-value : goal.returns-in_err-near-clause-value
returns-in_err-near-clause-value g c =
    let r = (c.requires c.args.from (inl refl)).1 in
    absurd (not_both (c.in_err-near.ensures.value.0 (c.requires c.args.from (inl refl)).0 r.0 r.1 r.2) r.3.1)

pub returns-clause-value : goal.returns-clause-value
returns-clause-value g c =
    let o = c.args.o.now in
    let m = g.O.DistanceOracle.meaning o in
    let f = g.O.GroupOracle.focused o in
    let inside = (c.requires c.args.from (inl refl)).0 in
    let near = c.in_ok-near.near in
    let n = c.in_ok-near.ensures.value.0 inside in
    rw c.then_some.ensures (branch_at m f c.args.from near n (focus_near m (g.met.O.DistanceOracle.sound o) f c.args.from inside near n))
