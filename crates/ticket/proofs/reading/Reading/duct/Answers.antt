use Rattle.std.proofs.Common.{◌≡◌, Err, Result, sym, ◌∙◌, subst, arith, rules}
use Rattle.std.proofs.lemmas.Bool.{cond-true, cond-false}
use Rattle.frame.specs.declared.fault.FrameFault.{FrameFault}
use Rattle.lines.specs.Said.{duct}
use Rattle.ticket.specs.declared.due.Due.{Due}
use Rattle.ticket.specs.declared.fault.TicketFault.{TicketFault}
use Rattle.ticket.specs.declared.fault.TicketFault.TheVariants.{Frame}
use Rattle.ticket.specs.Runs.{Took}
use Rattle.ticket.proofs.Moves.{ok_unit, err_is}
use Rattle.ticket.proofs.Taken.{duct_taken, duct_refused}
use Rattle.ticket.proofs.reading.Reading.duct.Goals as goal

pub returns-in_err-map_err-clause-took : goal.returns-in_err-map_err-clause-took
returns-in_err-map_err-clause-took c room s a b l h p q w =
    let r = c.args.self.now in
    let v = c.add.ensures in
    let n = c.in_ok-check_duct.ensures in
    let k = n.fine in
    let o = c.in_err-map_err.ensures.variant in
    let x = err_is c.add.result o in
    let handed : (x : FrameFault) → c.add.result ≡ Err x → c.from_residual-in_err-map_err.result ≡ Err (Frame r.at x) = λ x e. search rules in
    subst (λ (y : Result Due TicketFault). Took room r.at s (duct a b l) c.add.new.self r.job.now y) (sym (handed x.0 x.1))
    (duct_refused room r.at c.in-DuctLines.left r.frame.now c.add.new.self r.job.now s r.due c.args.row a b l x.0 h.holds h.due c.in-DuctLines.is (omega arith) (omega arith) (omega arith) (n.finds a b l p q w) (sym x.1 ∙ v.value) (v.rows ∙ cond-false _ _ _ (sym o)) v.places v.room)

pub returns-clause-took : goal.returns-clause-took
returns-clause-took c room s a b l h p q w =
    let r = c.args.self.now in
    let v = c.add.ensures in
    let n = c.in_ok-check_duct.ensures in
    let k = n.fine in
    let o = c.in_ok-map_err.ensures.variant in
    duct_taken room r.at c.in-DuctLines.left r.frame.now c.add.new.self r.job.now s r.due c.args.row a b l h.holds h.due c.in-DuctLines.is (omega arith) (omega arith) (omega arith) (n.finds a b l p q w) (ok_unit c.add.result o ∙ v.value) (v.rows ∙ cond-true _ _ _ (sym o)) v.places v.room
