use Rattle.std.proofs.Common.{rules}
use Rattle.lines.proofs.Front.{digits_front}
use Rattle.lines.proofs.numeral.digits.Goals as goal

pub returns-clause-front : goal.returns-clause-front
returns-clause-front c = digits_front c.args.text.now c.unwrap_or.result (search rules) (λ k w. search rules)
