use Rattle.labels.specs.Memory.{SameRound}
use Rattle.labels.proofs.Layouts.{Laying}
use Rattle.labels.proofs.searching.Search.lay.Given as goal

abbrev pub invariant-loop-e : goal.invariant-loop-e
invariant-loop-e l = record {
  round : SameRound l.initial.self l.self;
  laying : Laying l.initial.self.round l.initial.self.records.now l.row l.e-index l.self.records.now;
}
