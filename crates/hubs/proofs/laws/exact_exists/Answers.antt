use Rattle.hubs.proofs.Exists.{exact_exists}
use Rattle.hubs.proofs.laws.exact_exists.Goals as goal

pub returns : goal.returns
returns c = exact_exists
