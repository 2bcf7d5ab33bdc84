use Rattle.std.proofs.Common.{◌≡◌, ℕ, List, rules, true, false, length, refl, ◌∙◌, subst, arith, length-set}
use Rattle.std.proofs.lemmas.List.Sorted.{length_permutation}
use Rattle.heap.specs.Of.{entries}
use Rattle.ways.specs.Way.{Joined}
use Rattle.ways.specs.Distance.{IsDistance}
use Rattle.frame.specs.Of.{places_of, rows_of}
use Rattle.frame.specs.Neighbours.{degree, sum_below}
use Rattle.frame.proofs.Facts.{closed_lawful}
use Rattle.frame.proofs.Degrees.{degrees_sum}
use Rattle.search.specs.declared.record.Record.{Record}
use Rattle.search.specs.State.{known, done, Kept, left, settled_at}
use Rattle.search.proofs.Counts.{left_all, left_same}
use Rattle.search.proofs.Steps.{lit_same}
use Rattle.search.proofs.Theory.{begun, finished}
use Rattle.search.proofs.Visit.{turn}
use Rattle.search.proofs.dijkstra.run.Goals as goal

pub loop-entry-init : goal.loop-entry-init
loop-entry-init c =
    let b = c.begin.ensures in
    let f = c.args.frame.now in
    let ds = rows_of f in
    let rs = c.begin.new.self.records.now in
    let q = entries c.begin.new.self.queue.now in
    let all : left (degree ds) (done rs) (places_of f) ≡ sum_below (degree ds) (places_of f) = left_all (degree ds) (done rs) (places_of f) b.unsettled in
    let one : length q ≡ 1 = length_permutation _ _ b.bag in
    record {
      same = record { records = refl; queue = refl; size = refl; room = refl; focus = λ v. refl };
      fits = omega (arith, b.same.room, c.requires.room, degrees_sum (places_of f) ds (closed_lawful f));
      kept = (0, begun ds c.args.source (known rs) (done rs) q b.source b.others b.unsettled b.bag);
    }

pub bounds-search-at : goal.bounds-search-at
bounds-search-at c =
    let l = c.loop-entry in
    let v = turn c.args.frame.now l.search.records.now (l.invariant.same.size ∙ c.begin.ensures.same.size ∙ c.requires.records) c.args.source c.requires.within l.invariant.kept l.search.queue.now.heaped c.in-Some.ensures.bag in
    v.in_records

pub bounds-search-at-then-not-search-at : goal.bounds-search-at-then-not-search-at
bounds-search-at-then-not-search-at c =
    let l = c.loop-entry in
    let v = turn c.args.frame.now l.search.records.now (l.invariant.same.size ∙ c.begin.ensures.same.size ∙ c.requires.records) c.args.source c.requires.within l.invariant.kept l.search.queue.now.heaped c.in-Some.ensures.bag in
    v.in_records

pub follow-requires : goal.follow-requires
follow-requires c =
    let l = c.loop-entry in
    let rs = l.search.records.now in
    let told = c.in-Some.ensures in
    let size = l.invariant.same.size ∙ c.begin.ensures.same.size ∙ c.requires.records in
    let v = turn c.args.frame.now rs size c.args.source c.requires.within l.invariant.kept l.search.queue.now.heaped told.bag in
    let unsettled : done rs c.in-Some.entry.place ≡ false = c.if-not-search-at.true in
    record {
      records = length-set rs c.in-Some.entry.place _ ∙ size;
      distance = v.is_short unsettled;
      room = omega (arith, told.bag.shorter, told.room, v.lessens unsettled, l.invariant.fits);
    }

pub loop-entry-smaller-then-not-search-at : goal.loop-entry-smaller-then-not-search-at
loop-entry-smaller-then-not-search-at c =
    let f = c.args.frame.now in
    let l = c.loop-entry in
    let rs = l.search.records.now in
    let told = c.in-Some.ensures in
    let v = turn f rs (l.invariant.same.size ∙ c.begin.ensures.same.size ∙ c.requires.records) c.args.source c.requires.within l.invariant.kept l.search.queue.now.heaped told.bag in
    let unsettled : done rs c.in-Some.entry.place ≡ false = c.if-not-search-at.true in
    let next = c.follow.new.self.records.now in
    let same : left (degree (rows_of f)) (done next) (places_of f) ≡ left (degree (rows_of f)) (done (settled_at rs c.in-Some.entry.place)) (places_of f) =
    left_same (degree (rows_of f)) (done (settled_at rs c.in-Some.entry.place)) (done next) (places_of f) (λ w _. c.follow.ensures.steady w) in
    omega (arith, told.bag.shorter, v.lessens unsettled, c.follow.ensures.longer)

pub loop-entry-preserved-then-not-search-at : goal.loop-entry-preserved-then-not-search-at
loop-entry-preserved-then-not-search-at c =
    let f = c.args.frame.now in
    let l = c.loop-entry in
    let rs = l.search.records.now in
    let told = c.in-Some.ensures in
    let v = turn f rs (l.invariant.same.size ∙ c.begin.ensures.same.size ∙ c.requires.records) c.args.source c.requires.within l.invariant.kept l.search.queue.now.heaped told.bag in
    let unsettled : done rs c.in-Some.entry.place ≡ false = c.if-not-search-at.true in
    let next = c.follow.new.self.records.now in
    let same : left (degree (rows_of f)) (done next) (places_of f) ≡ left (degree (rows_of f)) (done (settled_at rs c.in-Some.entry.place)) (places_of f) =
    left_same (degree (rows_of f)) (done (settled_at rs c.in-Some.entry.place)) (done next) (places_of f) (λ w _. c.follow.ensures.steady w) in
    let i = l.invariant.same in
    let j = c.follow.ensures.same in
    record {
      same = record { records = j.records ∙ i.records; queue = j.queue ∙ i.queue; size = j.size ∙ length-set rs c.in-Some.entry.place _ ∙ i.size; room = j.room ∙ told.room ∙ i.room; focus = λ w. j.focus w ∙ lit_same rs c.in-Some.entry.place _ true v.in_records w ∙ i.focus w };
      fits = omega (arith, told.bag.shorter, told.room, v.lessens unsettled, c.follow.ensures.longer, j.room, l.invariant.fits);
      kept = (c.in-Some.entry.distance, c.follow.ensures.kept c.args.source (v.is_known unsettled) (v.settles unsettled));
    }

pub loop-entry-preserved : goal.loop-entry-preserved
loop-entry-preserved c =
    let l = c.loop-entry in
    let told = c.in-Some.ensures in
    let v = turn c.args.frame.now l.search.records.now (l.invariant.same.size ∙ c.begin.ensures.same.size ∙ c.requires.records) c.args.source c.requires.within l.invariant.kept l.search.queue.now.heaped told.bag in
    let i = l.invariant.same in
    record {
      same = record { records = i.records; queue = i.queue; size = i.size; room = told.room ∙ i.room; focus = i.focus };
      fits = omega (arith, told.bag.shorter, told.room, l.invariant.fits);
      kept = v.skips c.if-not-search-at.false;
    }

pub returns-clause-distances : goal.returns-clause-distances
returns-clause-distances c =
    let told = c.in_default.ensures in
    let ds = rows_of c.args.frame.now in
    let rs = c.loop-entry.search.records.now in
    let k = c.loop-entry.invariant.kept in
    subst (λ (l : List Record). (v : ℕ) → IsDistance ds c.args.source v (known l v)) (search rules)
    (finished ds c.args.source k.0 (known rs) (done rs) (subst (Kept ds (Joined ds) c.args.source k.0 (known rs) (done rs)) told.bag.none k.1))
