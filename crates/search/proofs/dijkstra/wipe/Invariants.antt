use Rattle.std.proofs.Common.{◌≡◌, ℕ, ◌<◌, false, None}
use Rattle.search.specs.State.{known, done, lit}
use Rattle.search.proofs.dijkstra.wipe.Given as goal

abbrev pub invariant-loop-record : goal.invariant-loop-record
invariant-loop-record l =
    ((v : ℕ) → v < l.record-index → known l.records v ≡ None)
    × ((v : ℕ) → v < l.record-index → done l.records v ≡ false)
    × ((v : ℕ) → lit l.records v ≡ lit l.initial.records v)
