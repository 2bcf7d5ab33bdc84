use Rattle.oracle.specs.Meaning.{Meaning}
use Rattle.oracle.specs.Answers.{Stepped}
use Rattle.jumper.proofs.Steps.{steps_below, steps_over, steps_near}
use Rattle.jumper.proofs.layer.JumperDistanceOracle.step.Goals as goal

pub returns-then-stays-clause-value : goal.returns-then-stays-clause-value
returns-then-stays-clause-value g c =
    let j = c.args.self.now in
    let met = g.met.O.DistanceOracle in
    let m : Meaning = g.O.DistanceOracle.meaning j.below in
    let on = c.if-not-takes.ensures.means in
    let same = met.kept_meaning j.below c.sums_of.new.o c.in_ok-sums.ensures.kept in
    let below : Stepped m c.args.u c.args.v c.step-then-stays.result = rw same at c.step-then-stays.ensures.value in
    rw on.1 (steps_below m j.duct c.args.u c.args.v c.in_ok-sums.sums _ (met.sound j.below) on.0 c.in_ok-sums.ensures.value (cc) below)

pub returns-then-u-way-clause-value : goal.returns-then-u-way-clause-value
returns-then-u-way-clause-value g c =
    let j = c.args.self.now in
    let on = c.if-not-takes.ensures.means in
    rw (on.1, c.step_over.ensures) (steps_over (g.O.DistanceOracle.meaning j.below) j.duct c.args.u c.args.v c.in_ok-sums.sums c.crossing-way.result (g.met.O.DistanceOracle.sound j.below) on.0
    c.in_ok-sums.ensures.value c.if-u-v.false (cc) c.crossing-way.ensures c.if-u-way.true)

pub returns-clause-value : goal.returns-clause-value
returns-clause-value g c =
    let j = c.args.self.now in
    let met = g.met.O.DistanceOracle in
    let m : Meaning = g.O.DistanceOracle.meaning j.below in
    let on = c.if-not-takes.ensures.means in
    let same = met.kept_meaning j.below c.sums_of.new.o c.in_ok-sums.ensures.kept in
    let below : Stepped m c.args.u c.crossing-way.result.first c.step-2.result = rw same at c.step-2.ensures.value in
    rw on.1 (steps_near m j.duct c.args.u c.args.v c.in_ok-sums.sums c.crossing-way.result _ (met.sound j.below) on.0
    c.in_ok-sums.ensures.value c.if-u-v.false (cc) c.crossing-way.ensures c.if-u-way.false below)
