use Rattle.lines.proofs.Texts.{read_once}
use Rattle.lines.proofs.laws.read_once.Goals as goal

pub returns : goal.returns
returns c = read_once
