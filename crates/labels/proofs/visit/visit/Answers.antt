use Rattle.std.proofs.Common.{ℕ, true, false, ◌∙◌, subst}
use Rattle.std.proofs.lemmas.Result.{err_from_is_err_and}
use Rattle.hubs.specs.Labels.{place}
use Rattle.labels.specs.Steps.{Chosen}
use Rattle.labels.proofs.Visits.{told_of, was_cut, overfull, was_hub}
use Rattle.labels.proofs.visit.visit.Goals as goal

pub returns-then-is_told-clause-visited : goal.returns-then-is_told-clause-visited
returns-then-is_told-clause-visited c = λ ds order row q z s.
    was_cut s c.requires.records c.requires.within c.settle.ensures.records c.settle.ensures.queue (told_of s c.requires.records c.requires.within c.args.search.now.round c.requires.round true c.row.result.now c.row.ensures c.if-is_told.ensures)

pub returns-in_err-push-clause-visited : goal.returns-in_err-push-clause-visited
returns-in_err-push-clause-visited c = λ ds order row q z s.
    let less = told_of s c.requires.records c.requires.within c.args.search.now.round c.requires.round false c.row.result.now c.row.ensures c.if-is_told.ensures in
    let full = c.in_err-push.ensures.pushed in
    let p = err_from_is_err_and c.from_residual.result c.from_residual.ensures.1 in
    rw p.1 (p.2 ∙ full.0, overfull s c.requires.records c.requires.within less full.1)

pub returns-clause-visited : goal.returns-clause-visited
returns-clause-visited c = λ ds order row q z s.
    let less = told_of s c.requires.records c.requires.within c.args.search.now.round c.requires.round false c.row.result.now c.row.ensures c.if-is_told.ensures in
    let chosen = subst (λ (y : ℕ). Chosen y c.args.search.now.records.now c.args.arcs.now (place order c.args.rank) c.args.popped.place c.args.popped.distance c.neighbour_of-neighbour.result) c.requires.round
    (subst (λ (y : ℕ). Chosen c.args.search.now.round c.args.search.now.records.now c.args.arcs.now y c.args.popped.place c.args.popped.distance c.neighbour_of-neighbour.result) z c.neighbour_of-neighbour.ensures) in
    was_hub s c.requires.records c.requires.within less c.neighbour_of-neighbour.result chosen c.push.new.self.counts.now c.push.new.self.entries.now c.in_ok-push.ensures.pushed c.settle-2.new.self.round (c.settle-2.ensures.same.round ∙ c.requires.round) c.settle-2.ensures.records c.settle-2.ensures.queue c.follow.ensures.steady c.follow.ensures.followed
