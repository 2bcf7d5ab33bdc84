use Rattle.ways.proofs.Reaches.{distance_is}
use Rattle.ways.proofs.laws.distance_is.Goals as goal

pub returns : goal.returns
returns c = distance_is
