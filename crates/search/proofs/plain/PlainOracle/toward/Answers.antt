use Rattle.std.proofs.Common.{List, Some, None, vec_items, vec_len, rc_value, sym, ap, ◌∙◌, subst, arith}
use Rattle.heap.specs.Of.{capacity}
use Rattle.frame.specs.declared.frame.ClosedFrame.{ClosedFrame}
use Rattle.frame.specs.Of.{places_of, rows_of}
use Rattle.frame.specs.Neighbours.{Neighbours}
use Rattle.frame.proofs.Facts.{closed_lawful}
use Rattle.oracle.specs.Meaning.{Meaning}
use Rattle.oracle.specs.Answers.{step_of}
use Rattle.search.specs.declared.record.Record.{Record}
use Rattle.search.specs.Scan.{Chosen}
use Rattle.search.proofs.Told.{known_read, means_frame, tells_next, tells_none, tells_no_way}
use Rattle.search.proofs.plain.PlainOracle.toward.Goals as goal

pub returns-in_default-clause-value : goal.returns-in_default-clause-value
returns-in_default-clause-value c =
    let o = c.args.self.now in
    let f = rc_value o.frame in
    let rs = vec_items c.measure.new.self.records in
    let is = known_read rs c.args.u c.index.result.now (omega (arith, c.requires.from, c.measure.ensures.long, c.measure.new.self.records.ok.0)) c.index.ensures c.in_default.is in
    tells_no_way (places_of f) (rows_of f) c.args.u c.args.v (closed_lawful f) c.requires.from c.requires.goal c.requires.apart (sym (c.measure.ensures.found c.args.u) ∙ is)
    ∙ ap (λ (m : Meaning). step_of m c.args.u c.args.v) (sym (means_frame (places_of f) (rows_of f) (vec_len o.records) (capacity o.queue) c.requires.ready))

pub returns-in-Some-first_onward-clause-value : goal.returns-in-Some-first_onward-clause-value
returns-in-Some-first_onward-clause-value c =
    let o = c.args.self.now in
    let f = rc_value o.frame in
    let ls = c.neighbours.result.now in
    let rs = vec_items c.measure.new.self.records in
    let near : Neighbours (rows_of f) c.args.u ls = subst (λ (g : ClosedFrame). Neighbours (rows_of g) c.args.u ls) (c.deref-2.ensures ∙ ap rc_value c.measure.ensures.frame) c.neighbours.ensures in
    let is = known_read rs c.args.u c.index.result.now (omega (arith, c.requires.from, c.measure.ensures.long, c.measure.new.self.records.ok.0)) c.index.ensures c.in-Some.is in
    let chosen : Chosen rs ls c.in-Some.distance (Some c.in-Some-first_onward.arc) = subst (λ (l : List Record). Chosen l ls c.in-Some.distance (Some c.in-Some-first_onward.arc)) c.deref.ensures.value c.in-Some-first_onward.ensures in
    tells_next (places_of f) (rows_of f) (closed_lawful f) c.args.u c.args.v c.requires.from c.requires.goal c.requires.apart rs c.measure.ensures.found ls near c.in-Some.distance c.in-Some-first_onward.arc is chosen
    ∙ ap (λ (m : Meaning). step_of m c.args.u c.args.v) (sym (means_frame (places_of f) (rows_of f) (vec_len o.records) (capacity o.queue) c.requires.ready))

pub returns-in-None-clause-value : goal.returns-in-None-clause-value
returns-in-None-clause-value c =
    let o = c.args.self.now in
    let f = rc_value o.frame in
    let ls = c.neighbours.result.now in
    let rs = vec_items c.measure.new.self.records in
    let near : Neighbours (rows_of f) c.args.u ls = subst (λ (g : ClosedFrame). Neighbours (rows_of g) c.args.u ls) (c.deref-2.ensures ∙ ap rc_value c.measure.ensures.frame) c.neighbours.ensures in
    let is = known_read rs c.args.u c.index.result.now (omega (arith, c.requires.from, c.measure.ensures.long, c.measure.new.self.records.ok.0)) c.index.ensures c.in-Some.is in
    let chosen : Chosen rs ls c.in-Some.distance None = subst (λ (l : List Record). Chosen l ls c.in-Some.distance None) c.deref.ensures.value c.in-None.ensures in
    absurd (tells_none (places_of f) (rows_of f) (closed_lawful f) c.args.u c.args.v c.requires.from c.requires.goal c.requires.apart rs c.measure.ensures.found ls near c.in-Some.distance is chosen)
