use Rattle.plan.proofs.Pinned.{laid_exactly}
use Rattle.plan.proofs.laws.laid_exactly.Goals as goal

pub returns : goal.returns
returns c = laid_exactly
