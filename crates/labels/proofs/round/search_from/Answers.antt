use Rattle.std.proofs.Common.{◌≡◌, get_or, set, ℕ, ◌+◌, ◌<◌, List, length, Ok, Err, sym, refl, ◌∙◌, subst, arith}
use Rattle.std.proofs.ByRecursion.{All-get_or}
use Rattle.std.proofs.lemmas.Result.{err_from_is_err_and}
use Rattle.heap.specs.Of.{entries, capacity}
use Rattle.frame.specs.Of.{places_of, rows_of}
use Rattle.frame.proofs.Facts.{closed_few}
use Rattle.ways.specs.Way.{Joined}
use Rattle.ways.proofs.Graph.{to_in, no_longer}
use Rattle.hubs.specs.declared.entry.Entry.{Entry}
use Rattle.hubs.specs.Labels.{place, In, Rising}
use Rattle.hubs.proofs.Hubs.{place_in}
use Rattle.labels.specs.declared.record.Record.{Record}
use Rattle.labels.specs.Table.{row_in, Fits}
use Rattle.labels.specs.State.{blank, first_record, Laid}
use Rattle.labels.proofs.Sweeps.{Sweep, at_round, ranks_at, sweep_begins, turn, in_place, sweep_skips, is_short, room_now, ranks_now, visited, sweep_less, sweep_goes_on, advanced}
use Rattle.labels.proofs.Tables.{same_on, room_on}
use Rattle.labels.proofs.round.search_from.Goals as goal

pub row-requires : goal.row-requires
row-requires c = omega (arith, c.requires.counts, place_in (places_of c.args.frame.now) c.args.order.now c.requires.ready.ordered c.args.rank c.requires.ready.inside)

pub lay-requires-clause-rising : goal.lay-requires-clause-rising
lay-requires-clause-rising c = subst Rising (sym c.row.ensures) (c.requires.ready.exact.rising (place c.args.order.now c.args.rank) (place_in (places_of c.args.frame.now) c.args.order.now c.requires.ready.ordered c.args.rank c.requires.ready.inside))

pub lay-requires-clause-ranks : goal.lay-requires-clause-ranks
lay-requires-clause-ranks c =
    let s : ℕ = place c.args.order.now c.args.rank in
    let is : s < places_of c.args.frame.now = place_in (places_of c.args.frame.now) c.args.order.now c.requires.ready.ordered c.args.rank c.requires.ready.inside in
    ranks_at (length c.args.search.now.records.now) c.row.result.now (λ e i. omega (arith, c.requires.records, c.requires.ready.inside, (c.requires.ready.exact.only s e is (subst (In e) c.row.ensures i)).0))

pub begin-requires-clause-within : goal.begin-requires-clause-within
begin-requires-clause-within c = omega (arith, c.lay.ensures.round.room.records, c.requires.records, place_in (places_of c.args.frame.now) c.args.order.now c.requires.ready.ordered c.args.rank c.requires.ready.inside)

pub loop-popped-init : goal.loop-popped-init
loop-popped-init c =
    let n = places_of c.args.frame.now in
    let ds = rows_of c.args.frame.now in
    let b = c.begin.ensures in
    let rows = c.args.rows.now in
    let first = subst (λ (k : ℕ). c.begin.new.self.records.now ≡ set c.lay.new.self.records.now (place c.args.order.now c.args.rank) (first_record k (get_or c.lay.new.self.records.now (place c.args.order.now c.args.rank) blank))) c.lay.ensures.round.round b.records in
    record {
      round = b.same.round ∙ c.lay.ensures.round.round;
      room = record { records = refl; queue = refl };
      size = b.same.room.records ∙ c.lay.ensures.round.room.records ∙ c.requires.records;
      same = record { width = refl; entries = refl; counts = refl };
      sweep = subst (λ (rs : List Record). Sweep n ds c.args.order.now rows.width c.args.rank (row_in rows.width rows.counts.now rows.entries.now) (capacity c.begin.new.self.queue.now) rows.counts.now rows.entries.now rs (entries c.begin.new.self.queue.now)) (sym first)
          (sweep_begins n ds c.args.order.now rows.width c.args.rank rows.counts.now rows.entries.now c.args.search.now.records.now c.lay.new.self.records.now (entries c.begin.new.self.queue.now) (capacity c.begin.new.self.queue.now) c.requires.ready (omega (arith, c.lay.ensures.round.room.records, c.requires.records)) c.requires.upto c.lay.ensures.same c.lay.ensures.upto
          (subst (λ (ys : List Entry). Laid (c.args.rank + 1) c.lay.new.self.records.now ys (length ys)) c.row.ensures c.lay.ensures.laid) (subst (λ (m : ℕ). Fits m rows.width rows.counts.now rows.entries.now) c.requires.counts rows.fits) c.requires.behind b.bag b.few (omega (arith, b.same.room.queue, c.lay.ensures.round.room.queue, c.requires.room)));
    }

pub is_settled-requires : goal.is_settled-requires
is_settled-requires c =
    let i = c.loop-popped.invariant in
    omega (arith, i.size, in_place (turn i.sweep c.requires.ready (closed_few c.args.frame.now) i.size c.in-Some.ensures.bag c.loop-popped.search.queue.now.heaped))

pub visit-requires-clause-within : goal.visit-requires-clause-within
visit-requires-clause-within c =
    let i = c.loop-popped.invariant in
    omega (arith, i.sweep.searching.fits.counted, in_place (turn i.sweep c.requires.ready (closed_few c.args.frame.now) i.size c.in-Some.ensures.bag c.loop-popped.search.queue.now.heaped))

pub visit-requires-clause-ranks : goal.visit-requires-clause-ranks
visit-requires-clause-ranks c =
    let i = c.loop-popped.invariant in
    ranks_now (turn i.sweep c.requires.ready (closed_few c.args.frame.now) i.size c.in-Some.ensures.bag c.loop-popped.search.queue.now.heaped) (at_round c.loop-popped.search.records.now c.in-Some.popped.place i.round c.if-not-is_settled.ensures) c.loop-popped.rows.width i.same.width

pub visit-requires-clause-arcs : goal.visit-requires-clause-arcs
visit-requires-clause-arcs c = λ m d l.
    let n = places_of c.args.frame.now in
    let ds = rows_of c.args.frame.now in
    let j = All-get_or (λ a. Joined ds c.in-Some.popped.place a.to a.length) c.neighbours-arcs.result.now m d l c.neighbours-arcs.ensures.joined in
    (omega (arith, c.loop-popped.invariant.size, to_in n ds c.in-Some.popped.place _ _ c.requires.ready.lawful j), no_longer n ds c.in-Some.popped.place _ _ c.requires.ready.lawful j)

pub visit-requires-clause-short : goal.visit-requires-clause-short
visit-requires-clause-short c =
    let i = c.loop-popped.invariant in
    is_short (turn i.sweep c.requires.ready (closed_few c.args.frame.now) i.size c.in-Some.ensures.bag c.loop-popped.search.queue.now.heaped) (at_round c.loop-popped.search.records.now c.in-Some.popped.place i.round c.if-not-is_settled.ensures)

pub visit-requires-clause-room : goal.visit-requires-clause-room
visit-requires-clause-room c =
    let i = c.loop-popped.invariant in
    omega (arith, c.in-Some.ensures.room, i.room.queue, room_now (turn i.sweep c.requires.ready (closed_few c.args.frame.now) i.size c.in-Some.ensures.bag c.loop-popped.search.queue.now.heaped) (at_round c.loop-popped.search.records.now c.in-Some.popped.place i.round c.if-not-is_settled.ensures) c.neighbours-arcs.result.now c.neighbours-arcs.ensures)

pub loop-popped-smaller-in-Continue-1 : goal.loop-popped-smaller-in-Continue-1
loop-popped-smaller-in-Continue-1 c =
    let i = c.loop-popped.invariant in
    let t = turn i.sweep c.requires.ready (closed_few c.args.frame.now) i.size c.in-Some.ensures.bag c.loop-popped.search.queue.now.heaped in
    let waiting = at_round c.loop-popped.search.records.now c.in-Some.popped.place i.round c.if-not-is_settled.ensures in
    let nb = c.neighbours-arcs.ensures in
    let v = visited t waiting c.loop-popped.rows.width i.same.width c.neighbours-arcs.result.now nb c.visit.new.rows.counts.now c.visit.new.rows.entries.now c.visit.new.search.records.now (entries c.visit.new.search.queue.now) (Ok tt) (c.in_ok-visit.ensures.visited _ c.args.order.now _ _ refl) in
    sweep_less t waiting nb v.0 v.1 v.2 c.visit.ensures.longer

pub loop-popped-preserved-in-Continue-1 : goal.loop-popped-preserved-in-Continue-1
loop-popped-preserved-in-Continue-1 c =
    let i = c.loop-popped.invariant in
    let t = turn i.sweep c.requires.ready (closed_few c.args.frame.now) i.size c.in-Some.ensures.bag c.loop-popped.search.queue.now.heaped in
    let waiting = at_round c.loop-popped.search.records.now c.in-Some.popped.place i.round c.if-not-is_settled.ensures in
    let nb = c.neighbours-arcs.ensures in
    let v = visited t waiting c.loop-popped.rows.width i.same.width c.neighbours-arcs.result.now nb c.visit.new.rows.counts.now c.visit.new.rows.entries.now c.visit.new.search.records.now (entries c.visit.new.search.queue.now) (Ok tt) (c.in_ok-visit.ensures.visited _ c.args.order.now _ _ refl) in
    record {
      round = c.visit.ensures.round.round ∙ i.round;
      room = room_on (record { records = i.room.records; queue = c.in-Some.ensures.room ∙ i.room.queue }) c.visit.ensures.round.room;
      size = c.visit.ensures.round.room.records ∙ i.size;
      same = same_on i.same c.visit.ensures.same;
      sweep = sweep_goes_on t waiting nb v.0 v.1 v.2 c.visit.ensures.longer;
    }

pub returns-in_err-visit-clause-searched : goal.returns-in_err-visit-clause-searched
returns-in_err-visit-clause-searched c =
    let i = c.loop-popped.invariant in
    let t = turn i.sweep c.requires.ready (closed_few c.args.frame.now) i.size c.in-Some.ensures.bag c.loop-popped.search.queue.now.heaped in
    let waiting = at_round c.loop-popped.search.records.now c.in-Some.popped.place i.round c.if-not-is_settled.ensures in
    let v = visited t waiting c.loop-popped.rows.width i.same.width c.neighbours-arcs.result.now c.neighbours-arcs.ensures c.visit.new.rows.counts.now c.visit.new.rows.entries.now c.visit.new.search.records.now (entries c.visit.new.search.queue.now) (Err c.in_err-visit.field-0.0) (c.in_err-visit.ensures.visited _ c.args.order.now _ _ refl) in
    let p = err_from_is_err_and c.from_residual.result c.from_residual.ensures.1 in
    rw p.1 (p.2 ∙ v.0, v.1)

pub loop-popped-preserved : goal.loop-popped-preserved
loop-popped-preserved c =
    let i = c.loop-popped.invariant in
    record {
      round = i.round;
      room = record { records = i.room.records; queue = c.in-Some.ensures.room ∙ i.room.queue };
      size = i.size;
      same = i.same;
      sweep = sweep_skips (turn i.sweep c.requires.ready (closed_few c.args.frame.now) i.size c.in-Some.ensures.bag c.loop-popped.search.queue.now.heaped) (at_round c.loop-popped.search.records.now c.in-Some.popped.place i.round c.if-not-is_settled.ensures);
    }

pub returns-clause-searched : goal.returns-clause-searched
returns-clause-searched c = advanced c.loop-popped.invariant.sweep c.requires.ready c.in_default.ensures.bag.none
