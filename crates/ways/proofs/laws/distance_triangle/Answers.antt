use Rattle.ways.proofs.Metric.{distance_triangle}
use Rattle.ways.proofs.laws.distance_triangle.Goals as goal

pub returns : goal.returns
returns c = distance_triangle
