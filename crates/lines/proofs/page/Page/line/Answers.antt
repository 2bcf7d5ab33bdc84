use Rattle.std.proofs.Common.{[], ◌∷◌}
use Rattle.lines.specs.Said.{line_text}
use Rattle.lines.specs.Pages.{said_of}
use Rattle.lines.proofs.Pages.{adds_more}
use Rattle.lines.proofs.page.Page.line.Goals as goal

pub returns : goal.returns
returns c = adds_more c.args.self.now c.text.new.self c.byte.new.self (line_text (said_of c.args.line)) (10 ∷ []) c.text.ensures c.byte.ensures
