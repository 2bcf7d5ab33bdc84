use Rattle.trees.proofs.Groups.{least_cost_bounded}
use Rattle.trees.proofs.least_cost_bounded.Goals as goal

pub returns : goal.returns
returns c = least_cost_bounded
