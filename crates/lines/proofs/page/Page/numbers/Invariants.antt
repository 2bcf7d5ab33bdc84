use Rattle.std.proofs.Common.{take}
use Rattle.lines.specs.Pages.{Adds}
use Rattle.lines.specs.Text.{tail_text}
use Rattle.lines.proofs.page.Page.numbers.Given as goal

abbrev pub invariant-loop-n : goal.invariant-loop-n
invariant-loop-n l = Adds l.initial.self l.self (tail_text (take l.n-index l.numbers))
