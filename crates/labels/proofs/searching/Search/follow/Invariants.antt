use Rattle.std.proofs.Common.{◌≡◌, ℕ, ◌+◌, ◌≤◌, List, length, Some, Option}
use Rattle.heap.specs.Of.{entries}
use Rattle.frame.specs.Neighbours.{Neighbours}
use Rattle.ways.specs.declared.row.Row.{Row}
use Rattle.labels.specs.Memory.{SameRound}
use Rattle.labels.specs.State.{known, done, got}
use Rattle.labels.specs.Steps.{Steady}
use Rattle.labels.specs.Pruning.{DueBut, Pruning}
use Rattle.labels.proofs.Marks.{Following}
use Rattle.labels.proofs.searching.Search.follow.Given as goal

abbrev pub invariant-loop-arc : goal.invariant-loop-arc
invariant-loop-arc l =
    let rs = l.initial.self.records.now in
    record {
      same : SameRound l.initial.self l.self;
      longer : length (entries l.self.queue.now) ≤ length (entries l.initial.self.queue.now) + l.arc-index;
      steady : Steady l.initial.self.round rs l.self.records.now;
      following : (ds : List Row) (tells : ℕ → Option ℕ) (s u : ℕ) → Neighbours ds u l.arcs → got l.initial.self.round rs u ≡ Some l.distance
          → Pruning ds (DueBut ds (got l.initial.self.round rs) u) tells s l.distance (known l.initial.self.round rs) (done l.initial.self.round rs) (got l.initial.self.round rs) (entries l.initial.self.queue.now)
          → Following ds tells l.initial.self.round l.arcs s u l.distance (got l.initial.self.round rs) l.arc-index l.self.records.now (entries l.self.queue.now);
    }
