use Rattle.labels.proofs.Orders.{Listing}
use Rattle.labels.proofs.order.check_order.Given as goal

abbrev pub invariant-loop-i : goal.invariant-loop-i
invariant-loop-i l = Listing l.order l.i l.records
