use Rattle.hubs.proofs.Nearness.{right_nearest}
use Rattle.hubs.proofs.laws.right_nearest.Goals as goal

pub returns : goal.returns
returns c = right_nearest
