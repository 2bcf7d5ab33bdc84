use Rattle.plan.proofs.Meets.{walk_meets}
use Rattle.plan.proofs.laws.walk_meets.Goals as goal

pub returns : goal.returns
returns c = walk_meets
