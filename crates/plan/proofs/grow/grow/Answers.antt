use Rattle.std.proofs.Common.{◌≡◌, ℕ, ◌+◌, ◌<◌, Bool, List, Some, Option, set, sym, refl, ap, ◌∙◌, subst, arith}
use Rattle.ways.specs.Nearest.{with_place}
use Rattle.ways.specs.declared.row.Row.{Row}
use Rattle.oracle.specs.declared.walk.Leg.{Leg}
use Rattle.oracle.specs.Asked.{LegFrom}
use Rattle.oracle.specs.Meaning.{Meaning}
use Rattle.plan.specs.declared.trunk.Trunk.{Trunk}
use Rattle.plan.proofs.Walking.{Hopped, few_laid, missed_trunk, some_leg, place_within, nearer, passes_on}
use Rattle.plan.proofs.Growing.{Growing, joinable, all_held, walks, joins}
use Rattle.plan.proofs.grow.grow.Given as given
use Rattle.plan.proofs.grow.grow.Goals as goal

-- from what the calls of one hop ensure
hop_of : (g : given.Over) {o o₁ o₂ o₃ : g.row.O.Denot} {rows rows' : List Row} {k at to : ℕ} {answer : Option Leg} {leg : Leg} {seen : Bool} → LegFrom (g.O.DistanceOracle.meaning o) at to answer → answer ≡ Some leg → g.O.DistanceOracle.kept o o₁ → rows' ≡ set rows k (record { first = at; second = leg.place; length = leg.length }) → g.O.GroupOracle.focused o₂ ≡ with_place at (g.O.GroupOracle.focused o₁) → g.O.DistanceOracle.meaning o₂ ≡ g.O.DistanceOracle.meaning o₁ → seen ≡ g.O.GroupOracle.focused o₂ leg.place → g.O.DistanceOracle.kept o₂ o₃ → Hopped (g.O.DistanceOracle.meaning o) (g.O.DistanceOracle.meaning o₃) (g.O.GroupOracle.focused o) (g.O.GroupOracle.focused o₃) rows rows' k at to leg seen
hop_of g {o = o} {o₁ = o₁} {o₂ = o₂} {o₃ = o₃} {at = at} {answer = answer} {leg = leg} asked is first put focus same seen last = record {
  answer = answer;
  asked = asked;
  is = is;
  meaning = g.met.O.DistanceOracle.kept_meaning o₂ o₃ last ∙ same ∙ g.met.O.DistanceOracle.kept_meaning o o₁ first;
  focus = g.met.O.GroupOracle.kept_focus o₂ o₃ last ∙ focus ∙ ap (with_place at) (g.met.O.GroupOracle.kept_focus o o₁ first);
  rows_are = put;
  looked = ap (λ (f : ℕ → Bool). f leg.place) (g.met.O.GroupOracle.kept_focus o₂ o₃ last) ∙ sym seen;
}

pub next_branch-requires : goal.next_branch-requires
next_branch-requires g c = joinable c.loop-branch.invariant

pub loop-place-init : goal.loop-place-init
loop-place-init g c =
    let said = c.in-Some.ensures in
    walks c.loop-branch.invariant said.same said.same_focus said.value

pub unreachable-requires : goal.unreachable-requires
unreachable-requires g c = some_leg c.loop-place.invariant.0 c.loop-place.invariant.1 c.leg_from.ensures.value c.in_default-leg_from.is

pub overflow_add-ducts : goal.overflow_add-ducts
overflow_add-ducts g c = omega (arith, few_laid c.loop-place.invariant.0)

pub in_focus-requires : goal.in_focus-requires
in_focus-requires g c =
    let p = c.loop-place.invariant in
    subst (λ (y : Meaning). c.in-Some-leg_from.field-0.place < y.count) (sym (c.bring-in-loop-place.ensures.same ∙ g.met.O.DistanceOracle.kept_meaning c.loop-place.o c.leg_from.new.o c.leg_from.ensures.kept)) (place_within p.0 p.1 c.leg_from.ensures.value c.in-Some-leg_from.is)

pub loop-place-smaller : goal.loop-place-smaller
loop-place-smaller g c =
    let h = hop_of g c.leg_from.ensures.value c.in-Some-leg_from.is c.leg_from.ensures.kept c.put.ensures c.bring-in-loop-place.ensures.focus c.bring-in-loop-place.ensures.same c.in_focus.ensures.value c.in_focus.ensures.kept in
    nearer c.loop-place.invariant.0 c.loop-place.invariant.1 h

pub loop-place-preserved : goal.loop-place-preserved
loop-place-preserved g c =
    let h = hop_of g c.leg_from.ensures.value c.in-Some-leg_from.is c.leg_from.ensures.kept c.put.ensures c.bring-in-loop-place.ensures.focus c.bring-in-loop-place.ensures.same c.in_focus.ensures.value c.in_focus.ensures.kept in
    let p = passes_on c.loop-place.invariant.0 c.loop-place.invariant.1 h in
    (p, missed_trunk p (h.looked ∙ c.if-in_focus.false))

pub walk_length-weight-requires : goal.walk_length-weight-requires
walk_length-weight-requires g c =
    let h = hop_of g c.leg_from.ensures.value c.in-Some-leg_from.is c.leg_from.ensures.kept c.put.ensures c.bring-in-loop-place.ensures.focus c.bring-in-loop-place.ensures.same c.in_focus.ensures.value c.in_focus.ensures.kept in
    let said = c.in-Some.ensures in
    let j = joins c.loop-branch.invariant said.same said.same_focus said.value (passes_on c.loop-place.invariant.0 c.loop-place.invariant.1 h) (h.looked ∙ c.if-in_focus.true) in
    j.meets

pub overflow_add-weight : goal.overflow_add-weight
overflow_add-weight g c =
    let h = hop_of g c.leg_from.ensures.value c.in-Some-leg_from.is c.leg_from.ensures.kept c.put.ensures c.bring-in-loop-place.ensures.focus c.bring-in-loop-place.ensures.same c.in_focus.ensures.value c.in_focus.ensures.kept in
    let said = c.in-Some.ensures in
    let j = joins c.loop-branch.invariant said.same said.same_focus said.value (passes_on c.loop-place.invariant.0 c.loop-place.invariant.1 h) (h.looked ∙ c.if-in_focus.true) in
    omega (arith, j.fits)

pub loop-branch-preserved : goal.loop-branch-preserved
loop-branch-preserved g c =
    let h = hop_of g c.leg_from.ensures.value c.in-Some-leg_from.is c.leg_from.ensures.kept c.put.ensures c.bring-in-loop-place.ensures.focus c.bring-in-loop-place.ensures.same c.in_focus.ensures.value c.in_focus.ensures.kept in
    let said = c.in-Some.ensures in
    let j = joins c.loop-branch.invariant said.same said.same_focus said.value (passes_on c.loop-place.invariant.0 c.loop-place.invariant.1 h) (h.looked ∙ c.if-in_focus.true) in
    subst (λ (w : ℕ). Growing (g.O.DistanceOracle.meaning c.args.o.now) c.args.start c.args.chosen.now c.args.rows.now (g.O.DistanceOracle.meaning c.in_focus.new.o) (g.O.GroupOracle.focused c.in_focus.new.o) c.put.new.rows (c.loop-place.ducts + 1) (c.loop-branch.weight + w)) (sym c.walk_length-weight.ensures) j.grown

pub returns-clause-trunk : goal.returns-clause-trunk
returns-clause-trunk g c =
    let said = c.in_default.ensures in
    let t : Trunk = record { start = c.args.start; ducts = c.loop-branch.ducts; weight = c.loop-branch.weight } in
    all_held c.loop-branch.invariant said.value t refl refl refl
