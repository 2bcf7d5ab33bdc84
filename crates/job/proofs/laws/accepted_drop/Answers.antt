use Rattle.job.proofs.Verdicts.{accepted_drop}
use Rattle.job.proofs.laws.accepted_drop.Goals as goal

pub returns : goal.returns
returns c = accepted_drop
