use Rattle.plan.proofs.Pinned.{steps_unique}
use Rattle.plan.proofs.laws.steps_unique.Goals as goal

pub returns : goal.returns
returns c = steps_unique
