use Rattle.std.proofs.Common.{arith}
use Rattle.ticket.proofs.Taken.{ducts_taken}
use Rattle.ticket.proofs.reading.Reading.ducts.Goals as goal

pub returns : goal.returns
returns c room s v h k =
    let r = c.args.self.now in
    ducts_taken room r.at c.args.m v r.frame.now r.job.now s r.due h.holds h.due c.in-DuctsLine.is k (omega arith)
