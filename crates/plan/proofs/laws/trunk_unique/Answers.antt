use Rattle.plan.proofs.Pinned.{trunk_unique}
use Rattle.plan.proofs.laws.trunk_unique.Goals as goal

pub returns : goal.returns
returns c = trunk_unique
