use Rattle.std.proofs.Common.{ℕ, ◌<◌, ◌≤◌, length, slice_index}
use Rattle.frame.specs.Fans.{arc_at, Parted}
use Rattle.frame.proofs.laying.lay.Given as goal

abbrev pub invariant-loop-place : goal.invariant-loop-place
invariant-loop-place l =
    (l.at ≤ length l.arcs)
    × ((i : ℕ) → i < l.at → (arc_at l.arcs i).from < l.place)
    × ((k : ℕ) → k < l.place → Parted l.arcs k (slice_index l.offsets k))
