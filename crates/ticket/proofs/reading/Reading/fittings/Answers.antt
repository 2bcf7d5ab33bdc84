use Rattle.std.proofs.Common.{arith}
use Rattle.ticket.proofs.Taken.{fittings_taken}
use Rattle.ticket.proofs.reading.Reading.fittings.Goals as goal

pub returns : goal.returns
returns c room s v h k =
    let r = c.args.self.now in
    fittings_taken room r.at c.args.k v c.in-DuctLines-eq0.left r.frame.now r.job.now s r.due h.holds h.due c.in-DuctLines-eq0.is (omega arith) k (omega arith)
