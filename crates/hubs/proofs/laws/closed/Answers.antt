use Rattle.hubs.proofs.Hubs.{closed}
use Rattle.hubs.proofs.laws.closed.Goals as goal

pub returns : goal.returns
returns c = closed
