use Rattle.std.proofs.Common.{take}
use Rattle.lines.specs.Pages.{Adds}
use Rattle.lines.proofs.page.Page.number.Given as goal

abbrev pub invariant-loop-digit : goal.invariant-loop-digit
invariant-loop-digit l = Adds l.initial.self l.self (take l.digit-index l.digit-items)
