use Rattle.jumper.specs.Sounds.{three_sums}
use Rattle.jumper.proofs.laws.three_sums.Goals as goal

pub returns : goal.returns
returns c = three_sums
