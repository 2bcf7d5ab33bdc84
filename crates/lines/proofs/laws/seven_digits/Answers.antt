use Rattle.lines.proofs.Texts.{seven_digits}
use Rattle.lines.proofs.laws.seven_digits.Goals as goal

pub returns : goal.returns
returns c = seven_digits
