use Rattle.jumper.specs.Sounds.{jumped_sound}
use Rattle.jumper.proofs.laws.jumped_sound.Goals as goal

pub returns : goal.returns
returns c = jumped_sound
