use Rattle.std.proofs.Common.{◌≡◌, ◌≤◌, Err, Result, sym, ◌∙◌, subst, arith, rules}
use Rattle.job.specs.Day.{adds}
use Rattle.job.specs.Held.{Did, Left, fault_of}
use Rattle.job.specs.declared.fault.JobFault.{JobFault}
use Rattle.lines.specs.Said.{fitting}
use Rattle.ticket.specs.declared.due.Due.{Due}
use Rattle.ticket.specs.declared.fault.TicketFault.{TicketFault}
use Rattle.ticket.specs.declared.fault.TicketFault.TheVariants.{Job}
use Rattle.ticket.specs.Runs.{Tame, Took}
use Rattle.ticket.proofs.Moves.{front_places, ok_unit, err_is}
use Rattle.ticket.proofs.Taken.{fitting_taken, fitting_refused}
use Rattle.ticket.proofs.reading.Reading.fitting.Goals as goal

pub returns-in_err-map_err-clause-took : goal.returns-in_err-map_err-clause-took
returns-in_err-map_err-clause-took c room s f k ps h p q l =
    let r = c.args.self.now in
    let n = c.in_ok-check_fitting.ensures in
    let g = n.fine in
    let m : c.in-FittingLines.least ≤ 64 = subst Tame c.in-FittingLines.is h.tame in
    let w = c.as_slice.ensures.value ∙ front_places c.args.fitting.now.places ps l (omega (arith, l.counted, l.short, g.3)) in
    let handed : (x : JobFault) → c.add.result ≡ Err x → c.from_residual-in_err-map_err.result ≡ Err (Job r.at x) = λ x e. search rules in
    let x = err_is c.add.result c.in_err-map_err.ensures.variant in
    let z' : c.from_residual-in_err-map_err.result ≡ Err (Job r.at x.0) = handed x.0 x.1 in
    subst (λ (y : Result Due TicketFault). Took room r.at s (fitting f k ps) r.frame.now c.add.new.self y) (sym z')
    (fitting_refused room r.at c.in-FittingLines.left c.in-FittingLines.least c.args.fitting.now.number f k r.frame.now r.job.now c.add.new.self s r.due _ ps x.0 h.holds h.due c.in-FittingLines.is (omega (arith, g.2)) w (n.finds f k ps p q l m)
    (subst (λ (y : Result (Unit {0}) JobFault). Did r.job.now (adds c.args.fitting.now.number c.as_slice.result.now) (fault_of y) c.add.new.self) x.1 c.add.ensures.did)
    (subst (λ (y : Result (Unit {0}) JobFault). Left y r.job.now c.add.new.self) x.1 c.add.ensures.left))

pub returns-clause-took : goal.returns-clause-took
returns-clause-took c room s f k ps h p q l =
    let r = c.args.self.now in
    let n = c.in_ok-check_fitting.ensures in
    let g = n.fine in
    let m : c.in-FittingLines.least ≤ 64 = subst Tame c.in-FittingLines.is h.tame in
    let w = c.as_slice.ensures.value ∙ front_places c.args.fitting.now.places ps l (omega (arith, l.counted, l.short, g.3)) in
    let o = ok_unit c.add.result c.in_ok-map_err.ensures.variant in
    fitting_taken room r.at c.in-FittingLines.left c.in-FittingLines.least c.args.fitting.now.number f k r.frame.now r.job.now c.add.new.self s r.due _ ps h.holds h.due c.in-FittingLines.is (omega (arith, g.2)) g.2 w (n.finds f k ps p q l m)
    (subst (λ (y : Result (Unit {0}) JobFault). Did r.job.now (adds c.args.fitting.now.number c.as_slice.result.now) (fault_of y) c.add.new.self) (sym o) c.add.ensures.did)
