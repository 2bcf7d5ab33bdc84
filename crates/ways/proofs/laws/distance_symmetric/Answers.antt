use Rattle.ways.proofs.Metric.{distance_symmetric}
use Rattle.ways.proofs.laws.distance_symmetric.Goals as goal

pub returns : goal.returns
returns c = distance_symmetric
