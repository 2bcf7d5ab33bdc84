use Rattle.std.proofs.Common.{List, sym, subst}
use Rattle.std.specs.List.{flat_map}
use Rattle.job.specs.Held.{held}
use Rattle.lines.specs.Pages.{Adds}
use Rattle.ticket.specs.Steps.{Fit}
use Rattle.ticket.specs.Tickets.{fit_text}
use Rattle.ticket.proofs.Pages.{adds_none, adds_fit, fits_none}
use Rattle.ticket.proofs.write.write_fittings.Goals as goal

pub loop-number-init : goal.loop-number-init
loop-number-init c = subst (λ (fs : List Fit). Adds c.args.page.now c.args.page.now (flat_map fit_text fs)) (sym (fits_none (held c.args.job.now))) (adds_none c.args.page.now)

pub loop-number-preserved : goal.loop-number-preserved
loop-number-preserved c = adds_fit c.args.page.now c.loop-number.page c.write_fitting.new.page (held c.args.job.now) c.loop-number.number c.loop-number.invariant c.write_fitting.ensures
