use Rattle.trees.proofs.Groups.{cost_bounded}
use Rattle.trees.proofs.cost_bounded.Goals as goal

pub returns : goal.returns
returns c = cost_bounded
