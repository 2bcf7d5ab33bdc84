use Rattle.trees.proofs.Weight.{way_in_weight}
use Rattle.trees.proofs.way_in_weight.Goals as goal

pub returns : goal.returns
returns c = way_in_weight
