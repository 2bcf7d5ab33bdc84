use Rattle.oracle.proofs.Walks.{rule_leads}
use Rattle.oracle.proofs.laws.rule_leads.Goals as goal

pub returns : goal.returns
returns c = rule_leads
