use Rattle.std.proofs.Common.{ℕ, ◌+◌, subst, ◌<◌, length, arith}
use Rattle.std.proofs.ByRecursion.{All-get_or}
use Rattle.heap.specs.Of.{entries}
use Rattle.frame.specs.Fans.{arc_at, no_arc}
use Rattle.ways.specs.Way.{Joined}
use Rattle.labels.specs.State.{got}
use Rattle.labels.specs.Steps.{Relaxed}
use Rattle.labels.proofs.Marks.{following_more, following_all, steady_more, steady_on}
use Rattle.labels.proofs.Tables.{round_on}
use Rattle.labels.proofs.searching.Search.follow.Goals as goal

pub loop-arc-preserved : goal.loop-arc-preserved
loop-arc-preserved c =
    let told = c.relax.ensures in
    let i = c.loop-arc.invariant in
    let j = c.loop-arc.arc-index in
    let was = c.loop-arc.self in
    let next = c.relax.new.self in
    let room : (arc_at c.args.arcs.now j).to < length was.records.now = omega (arith, (c.requires.arcs j no_arc c.loop-arc-test.true).0, i.same.room.records) in
    let relaxed = subst (λ (k : ℕ). Relaxed k was.records.now (entries was.queue.now) (arc_at c.args.arcs.now j).to (c.args.distance + (arc_at c.args.arcs.now j).length) next.records.now (entries next.queue.now)) i.same.round told.relaxed in
    record {
      same = round_on i.same told.same;
      longer = omega (arith, told.longer, i.longer);
      steady = steady_on c.args.self.now.round c.args.self.now.records.now was.records.now next.records.now i.steady (steady_more c.args.self.now.round was.records.now (entries was.queue.now) _ _ next.records.now (entries next.queue.now) room relaxed);
      following = λ ds tells s u nb at p.
          following_more ds tells c.args.self.now.round c.args.arcs.now s u c.args.distance (got c.args.self.now.round c.args.self.now.records.now) j was.records.now (entries was.queue.now) next.records.now (entries next.queue.now)
          (i.following ds tells s u nb at p) at (All-get_or (λ a. Joined ds u a.to a.length) c.args.arcs.now j no_arc c.loop-arc-test.true nb.joined) room relaxed;
    }

pub returns-clause-followed : goal.returns-clause-followed
returns-clause-followed c = λ ds tells s u nb at p.
    let f = c.loop-arc.invariant.following ds tells s u nb at p in
    (following_all ds tells c.args.self.now.round c.args.arcs.now s u c.args.distance (got c.args.self.now.round c.args.self.now.records.now) c.loop-arc.arc-index c.loop-arc.self.records.now (entries c.loop-arc.self.queue.now) nb at c.loop-arc-test.false f, f.same)
