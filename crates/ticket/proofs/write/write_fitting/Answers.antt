use Rattle.job.specs.Held.{held}
use Rattle.ticket.proofs.Pages.{adds_absent}
use Rattle.ticket.proofs.write.write_fitting.Goals as goal

pub returns-in_default : goal.returns-in_default
returns-in_default c = adds_absent c.args.page.now c.args.number (held c.args.job.now c.args.number) c.in_default.ensures.value
