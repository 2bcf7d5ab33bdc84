use Rattle.trees.proofs.Groups.{nearest_gap}
use Rattle.trees.proofs.nearest_gap.Goals as goal

pub returns : goal.returns
returns c = nearest_gap
