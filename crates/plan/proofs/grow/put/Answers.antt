use Rattle.std.proofs.Common.{sym}
use Rattle.std.proofs.lemmas.List.{set_past}
use Rattle.plan.proofs.grow.put.Goals as goal

pub returns-else-index-rows : goal.returns-else-index-rows
returns-else-index-rows c = sym (set_past c.args.rows.now c.args.i c.args.row c.if-index-rows.false)
