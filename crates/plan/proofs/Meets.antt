-- Where a walk meets the trunk. Assumes nothing.
use Rattle.std.proofs.Common.{◌≡◌, Some, ap, ◌∙◌, arith}
use Rattle.ways.specs.Nearest.{Near}
use Rattle.ways.proofs.Metric.{far_zero}
use Rattle.plan.specs.Laws.{WalkMeets}
use Rattle.plan.proofs.Follow.{Part, along_part}
use Rattle.plan.proofs.Near.{nearest_least}

pub walk_meets : WalkMeets
walk_meets m f b hs meet s it near w =
    let q : Near = record { place = b.to; distance = b.distance } in
    let p : Part m s b.from b.to b.distance hs meet = along_part m s b.to b.from b.distance meet hs near.0 it near.2 w.along in
    let least = nearest_least m s f b.from it q meet p.1 near w.met hs p.0 in
    let z : p.2.0 ≡ 0 = omega (arith, p.2.2, least) in
    (far_zero m.count m.ducts s.lawful meet b.to p.1 near.0 (p.2.1 ∙ ap Some z), omega (arith, p.2.2, least))
