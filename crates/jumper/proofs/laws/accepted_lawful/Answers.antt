use Rattle.jumper.specs.Verdicts.{accepted_lawful}
use Rattle.jumper.proofs.laws.accepted_lawful.Goals as goal

pub returns : goal.returns
returns c = accepted_lawful
