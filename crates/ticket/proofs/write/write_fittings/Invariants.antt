use Rattle.std.specs.List.{flat_map}
use Rattle.job.specs.Held.{held}
use Rattle.lines.specs.Pages.{Adds}
use Rattle.ticket.specs.Tickets.{fit_text, fits_below}
use Rattle.ticket.proofs.write.write_fittings.Given as goal

abbrev pub invariant-loop-number : goal.invariant-loop-number
invariant-loop-number l = Adds l.initial.page l.page (flat_map fit_text (fits_below l.number (held l.job)))
