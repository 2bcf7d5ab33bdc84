use Rattle.std.proofs.Common.{arith}
use Rattle.labels.proofs.Orders.{ordered}
use Rattle.labels.proofs.order.check_order.Goals as goal

pub returns : goal.returns
returns c = ordered c.args.order.now (λ k l. c.loop-i.invariant.good k (omega arith))
