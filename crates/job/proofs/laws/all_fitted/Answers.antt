use Rattle.job.proofs.Stood.{all_fitted}
use Rattle.job.proofs.laws.all_fitted.Goals as goal

pub returns : goal.returns
returns c = all_fitted
