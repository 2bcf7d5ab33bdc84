use Rattle.trees.proofs.Sets.{tree_light}
use Rattle.trees.proofs.tree_light.Goals as goal

pub returns : goal.returns
returns c = tree_light
