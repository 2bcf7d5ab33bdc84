use Rattle.std.proofs.Common.{ℕ, ◌-◌, ◌<◌, ◌≤◌, length}
use Rattle.frame.specs.Fans.{arc_at}
use Rattle.frame.proofs.laying.passed.Given as goal

abbrev pub invariant-loop-next : goal.invariant-loop-next
invariant-loop-next l = (l.at ≤ l.next) × (l.next ≤ length l.arcs) × ((i : ℕ) → l.at ≤ i → i < l.next → (arc_at l.arcs i).from < l.place)

abbrev pub decreases-loop-next : goal.decreases-loop-next
decreases-loop-next l = length l.arcs - l.next
