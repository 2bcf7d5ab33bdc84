use Rattle.std.proofs.Common.{◌+◌, refl, ◌∙◌, arith}
use Rattle.heap.specs.Of.{entries}
use Rattle.frame.specs.Of.{rows_of, places_of}
use Rattle.frame.specs.Fans.{arc_at}
use Rattle.frame.proofs.Facts.{closed_lawful}
use Rattle.search.proofs.Follow.{Met, met, follow_more, follow_all}
use Rattle.search.proofs.Steps.{stepped}
use Rattle.search.proofs.Lends.{same_on}
use Rattle.search.proofs.dijkstra.Search.follow.Goals as goal

-- the arc of this turn
at : (c : goal.After-relax-arg-1) → Met (places_of c.args.frame.now) (rows_of c.args.frame.now) c.neighbours-arc-items.result.now c.args.place c.loop-arc.arc-index (arc_at c.neighbours-arc-items.result.now c.loop-arc.arc-index)
at c = met _ _ _ c.args.place c.loop-arc.arc-index _ (closed_lawful c.args.frame.now) c.neighbours-arc-items.ensures c.loop-arc-test.true refl

pub overflow_add-distance : goal.overflow_add-distance
overflow_add-distance c = omega (arith, (at c).short, c.requires.distance)

pub relax-requires-clause-within : goal.relax-requires-clause-within
relax-requires-clause-within c = omega (arith, (at c).inside, c.requires.records, c.loop-arc.invariant.same.size)

pub loop-arc-preserved : goal.loop-arc-preserved
loop-arc-preserved c =
    let l = c.loop-arc in
    let i = l.invariant in
    let was = l.self in
    let next = c.relax.new.self in
    let ls = c.neighbours-arc-items.result.now in
    let arc = arc_at ls l.arc-index in
    let a = met _ _ _ c.args.place l.arc-index arc (closed_lawful c.args.frame.now) c.neighbours-arc-items.ensures c.loop-arc-test.true refl in
    let told = c.relax.ensures in
    let st = stepped was.records.now (entries was.queue.now) arc.to (c.args.distance + arc.length) next.records.now (entries next.queue.now) (omega (arith, a.inside, c.requires.records, i.same.size)) told.relaxed in
    record {
      same = same_on i.same told.same;
      longer = omega (arith, told.longer, i.longer);
      steady = λ v. st.same v ∙ i.steady v;
      kept = λ t is k. follow_more _ _ ls c.args.place l.arc-index arc a c.args.distance t _ _ _ _ st (i.kept t is k);
    }

pub returns-clause-kept : goal.returns-clause-kept
returns-clause-kept c = λ t is k.
    follow_all _ c.neighbours-arc-items.result.now c.args.place c.args.distance t c.loop-arc.arc-index _ _ c.neighbours-arc-items.ensures c.loop-arc-test.false (c.loop-arc.invariant.kept t is k)
