use Rattle.jumper.proofs.Nears.{finds_seen, seen_short}
use Rattle.jumper.proofs.group.JumperGroupOracle.nearest.Goals as goal

pub found_of-requires : goal.found_of-requires
found_of-requires g c =
    let j = c.args.self.now in
    seen_short (g.O.DistanceOracle.meaning j.below) (g.O.GroupOracle.focused j.below) j.duct c.args.v c.in_ok-seen.seen (g.met.O.DistanceOracle.sound j.below)
    c.if-not-takes.ensures.means.0 c.in_ok-seen.ensures.value

pub returns-clause-value : goal.returns-clause-value
returns-clause-value g c =
    let j = c.args.self.now in
    let on = c.if-not-takes.ensures.means in
    let said = c.in_ok-seen.ensures.value in
    rw (on.1, c.found_of.ensures) (said.0, finds_seen (g.O.DistanceOracle.meaning j.below) (g.O.GroupOracle.focused j.below) j.duct c.args.v c.in_ok-seen.seen (g.met.O.DistanceOracle.sound j.below) on.0 said)
