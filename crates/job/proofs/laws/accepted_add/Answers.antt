use Rattle.job.proofs.Verdicts.{accepted_add}
use Rattle.job.proofs.laws.accepted_add.Goals as goal

pub returns : goal.returns
returns c = accepted_add
