use Rattle.std.proofs.Common.{refl}
use Rattle.ways.specs.Distance.{distance, reach}
use Rattle.jumper.specs.Jumped.{verdict, jumped}
use Rattle.measured.proofs.jumper_distances.Goals as goal

pub returns : goal.returns
unfolding distance reach verdict jumped
returns c = λ rule. (refl, refl)
