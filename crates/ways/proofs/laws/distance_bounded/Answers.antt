use Rattle.ways.proofs.Metric.{distance_bounded}
use Rattle.ways.proofs.laws.distance_bounded.Goals as goal

pub returns : goal.returns
returns c = distance_bounded
