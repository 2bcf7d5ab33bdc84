use Rattle.hubs.proofs.Rules.{right_rule}
use Rattle.hubs.proofs.laws.right_rule.Goals as goal

pub returns : goal.returns
returns c = right_rule
