use Rattle.std.proofs.Common.{take}
use Rattle.std.specs.List.{flat_map}
use Rattle.lines.specs.Pages.{Adds}
use Rattle.ticket.specs.Tickets.{duct_text}
use Rattle.ticket.proofs.write.write_ducts.Given as goal

abbrev pub invariant-loop-row : goal.invariant-loop-row
invariant-loop-row l = Adds l.initial.page l.page (flat_map duct_text (take l.row-index l.rows))
