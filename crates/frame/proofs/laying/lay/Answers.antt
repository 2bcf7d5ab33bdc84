use Rattle.std.proofs.Common.{ℕ, ◌<◌, ◌≤◌, ◌≢◌, List, length, get_or, set, sym, subst, arith, get_or-set_other, get_or-set_same, below_more}
use native.Mathlib.Decide.{dec_le}
use Rattle.std.specs.List.Sorted.{IsNonDecreasingBy}
use Rattle.frame.specs.declared.arc.Arc.{Arc}
use Rattle.frame.specs.Fans.{arc_at, no_arc, Parted}
use Rattle.frame.proofs.laying.lay.Goals as goal

part : (arcs : List Arc) (v at r : ℕ) → IsNonDecreasingBy (λ (a : Arc). a.from) arcs → ((i : ℕ) → i < at → (arc_at arcs i).from < v) → r ≤ length arcs → ((i : ℕ) → at ≤ i → i < r → (arc_at arcs i).from < v) → (r < length arcs → v ≤ (arc_at arcs r).from) → Parted arcs v r
part arcs v at r up old high before after = (high, λ i l. go i l (dec_le at i), λ i l h. omega (arith, after (omega arith), up r i no_arc l h))
  where
    go : (i : ℕ) → i < r → Dec (at ≤ i) → (arc_at arcs i).from < v
    go i l (yes le) = before i le l
    go i l (no gt) = old i (omega arith)

pub loop-place-preserved : goal.loop-place-preserved
loop-place-preserved c =
    let arcs = c.args.arcs.now in
    let r = c.passed-at.result in
    let v = c.loop-place.place in
    let told = c.passed-at.ensures in
    let p : Parted arcs v r = part arcs v c.loop-place.at r c.requires c.loop-place.invariant.1 told.bound.1 told.before told.after in
    let lt : v < length c.loop-place.offsets = omega arith in (
      p.0,
      λ i l. omega (arith, p.1 i l),
      below_more (λ k. Parted arcs k (get_or (set c.loop-place.offsets v r) k 0)) v
          (λ k h. let ne : k ≢ v = omega arith in subst (Parted arcs k) (sym (get_or-set_other c.loop-place.offsets v k r 0 ne)) (c.loop-place.invariant.2 k h))
          (subst (Parted arcs v) (sym (get_or-set_same c.loop-place.offsets v r 0 lt)) p),
    )
