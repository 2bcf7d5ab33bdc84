use Rattle.std.proofs.Common.{arith}
use Rattle.ticket.specs.Tickets.{duct_text}
use Rattle.ticket.proofs.Pages.{adds_joined}
use Rattle.ticket.proofs.write.write_ducts.Goals as goal

pub loop-row-preserved : goal.loop-row-preserved
loop-row-preserved c = adds_joined duct_text c.args.page.now c.loop-row.page c.line.new.self c.args.rows.now c.loop-row.row-index _ (omega arith) c.loop-row.invariant c.line.ensures
