use Rattle.std.proofs.Common.{◌≡◌, Some, Err, sym, refl, ap, arith, rules}
use Rattle.frame.specs.Of.{open_room}
use Rattle.ticket.proofs.Round.{is_text, reads_back}
use Rattle.ticket.specs.Steps.{opening}
use Rattle.ticket.specs.Runs.{answer_of}
use Rattle.ticket.proofs.Along.{along, stopped, closed, moved}
use Rattle.ticket.proofs.read.read.Goals as goal

pub loop-line-init : goal.loop-line-init
loop-line-init c =
    let e = c.empty.ensures in
    let b = c.begin.ensures in
    (record { state = opening; stands = record { holds = record { kept = refl; places = e.places; rows = e.rows; same = b.places; stands = b.stands }; due = refl; tame = tt }; few = omega arith; onward = λ end answer h. h }, refl, refl)

pub loop-line-preserved : goal.loop-line-preserved
loop-line-preserved c =
    let a = c.loop-line.invariant in
    let s = c.in-Some.ensures in
    let k = c.take.ensures.same in
    let n = k.at in
    (along c.args.bytes.now (open_room c.empty.new.self) c.loop-line.rest.now c.in-Some.line.now c.in-Some.after.now c.loop-line.reading _ c.in_ok-reading.field-0 a.0 s.0 s.1 (omega arith) refl (c.in_ok-reading.ensures.did (open_room c.empty.new.self) a.0.state a.0.stands), search rules, search rules)

pub returns-in_err-reading-clause-answers : goal.returns-in_err-reading-clause-answers
returns-in_err-reading-clause-answers c =
    let a = c.loop-line.invariant in
    let s = c.in-Some.ensures in
    let k = c.take.ensures.same in
    let fault = c.in_err-reading.field-0.0 in
    let e : c.from_residual.result ≡ Err fault = search rules in
    let t = c.take.new.self in
    moved c.args.bytes.now (open_room c.empty.new.self) (open_room c.args.frame.now) t.frame.now _ t.job.now _ (Some fault) (answer_of c.from_residual.result) c.empty.ensures.room (search rules) (search rules) (ap answer_of (sym e))
    (stopped c.args.bytes.now (open_room c.empty.new.self) c.loop-line.rest.now c.in-Some.line.now c.in-Some.after.now c.loop-line.reading t.frame.now t.job.now fault a.0 s.0 s.1 (c.in_err-reading.ensures.did (open_room c.empty.new.self) a.0.state a.0.stands))

pub returns-clause-answers : goal.returns-clause-answers
returns-clause-answers c =
    let r = c.loop-line.reading in
    let a = c.loop-line.invariant in
    moved c.args.bytes.now (open_room c.empty.new.self) (open_room c.args.frame.now) r.frame.now _ r.job.now _ (answer_of c.close.result) (answer_of c.close.result) c.empty.ensures.room (search rules) (search rules) refl
    (closed c.args.bytes.now (open_room c.empty.new.self) c.loop-line.rest.now r (answer_of c.close.result) a.0 c.in_default.ensures c.close.ensures)

pub returns-in_err-reading-clause-back : goal.returns-in_err-reading-clause-back
returns-in_err-reading-clause-back c = reads_back c.args.bytes.now (open_room c.args.frame.now) _ _ (answer_of c.from_residual.result) (returns-in_err-reading-clause-answers c)

pub returns-clause-text : goal.returns-clause-text
returns-clause-text c = is_text c.args.bytes.now (open_room c.args.frame.now) _ _ (answer_of c.close.result) (returns-clause-answers c)

pub returns-clause-back : goal.returns-clause-back
returns-clause-back c = reads_back c.args.bytes.now (open_room c.args.frame.now) _ _ (answer_of c.close.result) (returns-clause-answers c)
