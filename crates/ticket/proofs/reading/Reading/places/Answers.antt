use Rattle.std.proofs.Common.{sym, ◌∙◌, arith}
use Rattle.std.proofs.lemmas.Bool.{cond-true}
use Rattle.ticket.proofs.Moves.{ok_unit}
use Rattle.ticket.proofs.Taken.{places_taken}
use Rattle.ticket.proofs.reading.Reading.places.Goals as goal

pub returns-clause-took : goal.returns-clause-took
returns-clause-took c room s v h k =
    let r = c.args.self.now in
    let b = c.begin.ensures in
    let o = c.in_ok-map_err.ensures.variant in
    places_taken room r.at c.args.n v r.frame.now c.begin.new.self r.job.now c.begin-2.new.self s r.due h.holds h.due c.in-PlacesLine.is k (omega arith) (ok_unit c.begin.result o ∙ b.value) (b.places ∙ cond-true _ _ _ (sym o)) (b.rows ∙ cond-true _ _ _ (sym o)) b.room c.begin-2.ensures
