use Rattle.hubs.proofs.Tables.{right_answers}
use Rattle.hubs.proofs.laws.right_answers.Goals as goal

pub returns : goal.returns
returns c = right_answers
