use Rattle.trees.proofs.Growth.{tree_grows}
use Rattle.trees.proofs.tree_grows.Goals as goal

pub returns : goal.returns
returns c = tree_grows
