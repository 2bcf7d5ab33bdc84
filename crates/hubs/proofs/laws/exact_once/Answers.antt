use Rattle.hubs.proofs.Exists.{exact_once}
use Rattle.hubs.proofs.laws.exact_once.Goals as goal

pub returns : goal.returns
returns c = exact_once
