use Rattle.std.proofs.Common.{◌≡◌, ◌<◌, List, [], ◌∷◌, ◌++◌, map, Some, vec_items, unwrap_or, sym, refl, ap, ◌∙◌, subst}
use Rattle.std.proofs.lemmas.List.{map_push}
use Rattle.std.proofs.lemmas.Result.{err_from_is_err_and}
use Rattle.ways.specs.Way.{Hop}
use Rattle.oracle.specs.Meaning.{Meaning, far}
use Rattle.oracle.specs.Walked.{hop_of, Walk}
use Rattle.oracle.proofs.Walks.{Walking, Farther, begins, goes_on, arrives}
use Rattle.oracle.proofs.walk.walk.Given as given
use Rattle.oracle.proofs.walk.walk.Goals as goal

pub loop-leg-init : goal.loop-leg-init
loop-leg-init g c =
    let o = c.distance.new.self in
    let m : Meaning = g.O.DistanceOracle.meaning o in
    let said = c.in_ok-distance.ensures in
    let same : m ≡ g.O.DistanceOracle.meaning c.args.o.now = g.met.O.DistanceOracle.kept_meaning c.args.o.now o said.kept in
    let u-in : c.args.u < m.count = subst (λ (k : Meaning). c.args.u < k.count) (sym same) said.value.0 in
    let v-in : c.args.v < m.count = subst (λ (k : Meaning). c.args.v < k.count) (sym same) said.value.1 in
    let here : far m c.args.u c.args.v ≡ Some c.in-Some.field-0 = cc in
    (subst (λ (hs : List Hop). Walking m c.args.u c.args.v hs c.args.u) (sym (ap (map hop_of) c.new-legs.ensures.items)) (begins m c.args.u c.args.v c.in-Some.field-0 u-in here), v-in, refl, λ x k. k)

pub returns-in_err-push : goal.returns-in_err-push
returns-in_err-push g c =
    let p = err_from_is_err_and c.from_residual-in_err-push.result c.from_residual-in_err-push.ensures.1 in
    let said = c.in_ok-distance.ensures in
    record {
      value = rw (p.1, p.2) (said.value.0, said.value.1);
      kept = g.met.O.DistanceOracle.kept_on _ _ _ (c.loop-leg.invariant.3 c.args.o.now said.kept) c.in-Some-leg_from.ensures.kept;
    }

-- one leg more, by the meaning that the turn began with
farther : (g : given.Over) (c : goal.In_ok-push g) → Farther (g.O.DistanceOracle.meaning c.loop-leg.o) c.args.u c.args.v (map hop_of (vec_items c.loop-leg.legs)) c.loop-leg.at c.in-Some-leg_from.leg
farther g c =
    goes_on (g.O.DistanceOracle.meaning c.loop-leg.o) c.args.u c.args.v c.loop-leg.at (map hop_of (vec_items c.loop-leg.legs)) c.in-Some-leg_from.leg (g.met.O.DistanceOracle.sound c.loop-leg.o) c.loop-leg.invariant.1 c.loop-leg.invariant.0 (sym (c.in-Some-leg_from.ensures.value.0 c.loop-leg.invariant.0.inside c.loop-leg.invariant.1))

pub loop-leg-smaller : goal.loop-leg-smaller
loop-leg-smaller g c =
    let same = g.met.O.DistanceOracle.kept_meaning c.loop-leg.o c.leg_from.new.o c.in-Some-leg_from.ensures.kept in
    subst (λ (k : Meaning). unwrap_or (far k c.in-Some-leg_from.leg.place c.args.v) 0 < unwrap_or (far (g.O.DistanceOracle.meaning c.loop-leg.o) c.loop-leg.at c.args.v) 0) (sym same) (farther g c).1

pub loop-leg-preserved : goal.loop-leg-preserved
loop-leg-preserved g c =
    let kept = c.in-Some-leg_from.ensures.kept in
    let same = g.met.O.DistanceOracle.kept_meaning c.loop-leg.o c.leg_from.new.o kept in
    let l = c.in-Some-leg_from.leg in
    let items : map hop_of (vec_items c.push.new.self) ≡ map hop_of (vec_items c.loop-leg.legs) ++ (hop_of l ∷ []) = ap (map hop_of) c.in_ok-push.ensures.items ∙ map_push hop_of (vec_items c.loop-leg.legs) l in (
      subst (λ (k : Meaning). Walking k c.args.u c.args.v (map hop_of (vec_items c.push.new.self)) l.place) (sym same)
          (subst (λ (hs : List Hop). Walking (g.O.DistanceOracle.meaning c.loop-leg.o) c.args.u c.args.v hs l.place) (sym items) (farther g c).0),
      subst (λ (k : Meaning). c.args.v < k.count) (sym same) c.loop-leg.invariant.1,
      same ∙ c.loop-leg.invariant.2,
      λ x k. g.met.O.DistanceOracle.kept_on x _ _ (c.loop-leg.invariant.3 x k) kept,
    )

pub returns : goal.returns
returns g c =
    let said = c.in_ok-distance.ensures in
    let last = c.in_default-leg_from.ensures in
    let o = c.loop-leg.o in
    let hs : List Hop = map hop_of (vec_items c.loop-leg.legs) in
    let whole : Walk (g.O.DistanceOracle.meaning o) c.args.u c.args.v hs = arrives (g.O.DistanceOracle.meaning o) c.args.u c.args.v c.loop-leg.at hs (g.met.O.DistanceOracle.sound o) c.loop-leg.invariant.1 c.loop-leg.invariant.0 (sym (last.value.0 c.loop-leg.invariant.0.inside c.loop-leg.invariant.1)) in
    let same = c.loop-leg.invariant.2 ∙ g.met.O.DistanceOracle.kept_meaning c.args.o.now c.distance.new.self said.kept in
    record {
      value = (said.value.0, said.value.1, subst (λ (k : Meaning). Walk k c.args.u c.args.v hs) same whole);
      kept = g.met.O.DistanceOracle.kept_on _ _ _ (c.loop-leg.invariant.3 c.args.o.now said.kept) last.kept;
    }
