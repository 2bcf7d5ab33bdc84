use Rattle.lines.proofs.Texts.{read_writes}
use Rattle.lines.proofs.laws.read_writes.Goals as goal

pub returns : goal.returns
returns c = read_writes
