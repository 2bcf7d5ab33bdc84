use Rattle.hubs.proofs.Searching.{search_finds}
use Rattle.hubs.proofs.laws.search_finds.Goals as goal

pub returns : goal.returns
returns c = search_finds
