use Rattle.ways.proofs.Graph.{unique}
use Rattle.ways.proofs.laws.distance_unique.Goals as goal

pub returns : goal.returns
returns c = unique
