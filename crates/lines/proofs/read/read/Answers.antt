use Rattle.std.proofs.Common.{arith}
use Rattle.lines.proofs.Forms.{no_number, two_first, places_read, ducts_read, fittings_read, duct_line, fitting_line}
use Rattle.lines.proofs.read.read.Goals as goal

pub returns-in_err-n : goal.returns-in_err-n
returns-in_err-n c = rw c.from_residual.ensures (no_number c.args.text.now _ _ (two_first c.args.text.now (omega arith)) c.in_err-n.ensures)

pub returns-in-P : goal.returns-in-P
returns-in-P c = places_read c.args.text.now _ c.in_ok-n.rest.now _ c.in_ok-n.n c.short_of-n.result (two_first c.args.text.now (omega arith)) (omega arith) c.in_ok-n.ensures c.short_of-n.ensures c.alone.result c.alone.ensures

pub returns-in-D : goal.returns-in-D
returns-in-D c = ducts_read c.args.text.now _ c.in_ok-n.rest.now _ c.in_ok-n.n c.short_of-n.result (two_first c.args.text.now (omega arith)) (omega arith) c.in_ok-n.ensures c.short_of-n.ensures c.alone-in-D.result c.alone-in-D.ensures

pub returns-in-d : goal.returns-in-d
returns-in-d c = duct_line c.args.text.now _ c.in_ok-n.rest.now _ c.in_ok-n.n c.short_of-n.result (two_first c.args.text.now (omega arith)) (omega arith) c.in_ok-n.ensures c.short_of-n.ensures c.duct.result c.duct.ensures

pub returns-in-F : goal.returns-in-F
returns-in-F c = fittings_read c.args.text.now _ c.in_ok-n.rest.now _ c.in_ok-n.n c.short_of-n.result (two_first c.args.text.now (omega arith)) (omega arith) c.in_ok-n.ensures c.short_of-n.ensures c.alone-in-F.result c.alone-in-F.ensures

pub returns-in-f : goal.returns-in-f
returns-in-f c = fitting_line c.args.text.now _ c.in_ok-n.rest.now _ c.in_ok-n.n c.short_of-n.result (two_first c.args.text.now (omega arith)) (omega arith) c.in_ok-n.ensures c.short_of-n.ensures c.fitting.result c.fitting.ensures
