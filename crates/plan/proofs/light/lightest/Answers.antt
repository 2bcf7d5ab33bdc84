use Rattle.std.proofs.Common.{ℕ, ◌+◌, ◌-◌, ◌<◌, List, length, get_or, take, drop, sym, ◌∙◌, subst}
use Rattle.oracle.specs.Meaning.{Meaning}
use Rattle.plan.specs.Kept.{TellsLightest}
use Rattle.plan.specs.Trunks.{Reached, TellsGrown}
use Rattle.plan.proofs.Lighter.{light_more, behind, each_within, each_reached}
use Rattle.plan.proofs.light.lightest.Goals as goal

pub measure-best-requires-clause-within : goal.measure-best-requires-clause-within
measure-best-requires-clause-within g c = each_within (g.O.DistanceOracle.meaning c.args.o.now) c.args.chosen.now (g.met.O.DistanceOracle.sound c.args.o.now) c.requires.some c.requires.reached 0 c.requires.some

pub measure-requires : goal.measure-requires
measure-requires g c =
    let m : Meaning = g.O.DistanceOracle.meaning c.args.o.now in
    let s = g.met.O.DistanceOracle.sound c.args.o.now in
    let xs : List ℕ = c.args.chosen.now in
    let i : ℕ = c.loop-start.start-index in
    let b = behind xs i c.loop-start-test.true in
    record {
      within = subst (λ (y : Meaning). get_or (take (length xs - 1) (drop 1 xs)) i 0 < y.count) (sym c.loop-start.invariant.1) (subst (λ (y : ℕ). y < m.count) (sym b.0) (each_within m xs s c.requires.some c.requires.reached (i + 1) b.1));
      reached = subst (λ (y : Meaning). Reached y (get_or (take (length xs - 1) (drop 1 xs)) i 0) xs) (sym c.loop-start.invariant.1) (subst (λ (y : ℕ). Reached m y xs) (sym b.0) (each_reached m xs s c.requires.some c.requires.reached (i + 1) b.1));
    }

pub loop-start-preserved : goal.loop-start-preserved
loop-start-preserved g c =
    let m : Meaning = g.O.DistanceOracle.meaning c.args.o.now in
    let xs : List ℕ = c.args.chosen.now in
    let i : ℕ = c.loop-start.start-index in
    let b = behind xs i c.loop-start-test.true in
    let u = c.measure.result in
    let grown : TellsGrown m (get_or xs (i + 1) 0) xs u = subst (λ (y : ℕ). TellsGrown m y xs u) b.0 (subst (λ (y : Meaning). TellsGrown y (get_or (take (length xs - 1) (drop 1 xs)) i 0) xs u) c.loop-start.invariant.1 c.measure.ensures.trunk) in (
      subst (TellsLightest m xs (i + 1 + 1)) (sym c.lighter-best.ensures) (light_more m xs (i + 1) c.loop-start.best u c.loop-start.invariant.0 grown),
      c.measure.ensures.same ∙ c.loop-start.invariant.1,
    )
