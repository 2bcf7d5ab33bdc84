use Rattle.ways.proofs.Metric.{distance_self}
use Rattle.ways.proofs.laws.distance_self.Goals as goal

pub returns : goal.returns
returns c = distance_self
