use Rattle.oracle.proofs.Meanings.{far_is}
use Rattle.oracle.proofs.laws.far_is.Goals as goal

pub returns : goal.returns
returns c = far_is
