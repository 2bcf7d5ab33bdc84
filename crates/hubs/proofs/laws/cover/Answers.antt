use Rattle.hubs.proofs.Hubs.{cover}
use Rattle.hubs.proofs.laws.cover.Goals as goal

pub returns : goal.returns
returns c = cover
