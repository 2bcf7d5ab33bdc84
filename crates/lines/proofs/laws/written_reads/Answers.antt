use Rattle.lines.proofs.Texts.{written_reads}
use Rattle.lines.proofs.laws.written_reads.Goals as goal

pub returns : goal.returns
returns c = written_reads
