use Rattle.hubs.proofs.Tables.{exact_right}
use Rattle.hubs.proofs.laws.exact_right.Goals as goal

pub returns : goal.returns
returns c = exact_right
