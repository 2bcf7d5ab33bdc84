use Rattle.ways.proofs.Simple.{shortest_apart}
use Rattle.ways.proofs.laws.shortest_apart.Goals as goal

pub returns : goal.returns
returns c = shortest_apart
