use Rattle.trees.proofs.Sets.{distance_in_weight}
use Rattle.trees.proofs.distance_in_weight.Goals as goal

pub returns : goal.returns
returns c = distance_in_weight
