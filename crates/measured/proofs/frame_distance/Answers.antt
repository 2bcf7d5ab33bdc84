use Rattle.std.proofs.Common.{refl}
use Rattle.ways.specs.Distance.{distance, reach}
use Rattle.measured.proofs.frame_distance.Goals as goal

pub returns : goal.returns
unfolding distance reach
returns c = refl
