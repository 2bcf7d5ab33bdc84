use Rattle.trees.proofs.Growth.{tree_starts}
use Rattle.trees.proofs.tree_starts.Goals as goal

pub returns : goal.returns
returns c = tree_starts
