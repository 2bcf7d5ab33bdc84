use Rattle.hubs.proofs.Merging.{merge_finds}
use Rattle.hubs.proofs.laws.merge_finds.Goals as goal

pub returns : goal.returns
returns c = merge_finds
