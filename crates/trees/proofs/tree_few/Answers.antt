use Rattle.trees.proofs.Sets.{tree_few}
use Rattle.trees.proofs.tree_few.Goals as goal

pub returns : goal.returns
returns c = tree_few
