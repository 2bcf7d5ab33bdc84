use Rattle.std.proofs.Common.{[], ◌∷◌}
use Rattle.lines.proofs.Forms.{no_first, second, duct_read}
use Rattle.lines.proofs.read.duct.Goals as goal

pub returns-in_err-second : goal.returns-in_err-second
returns-in_err-second c = rw c.from_residual.ensures (λ b l. no_first c.args.text.now c.in_err-second.ensures b (l ∷ []))

pub returns-in_err-length : goal.returns-in_err-length
returns-in_err-length c = rw c.from_residual-in_err-length.ensures (λ b l h.
    no_first c.in_ok-second.behind.now c.in_err-length.ensures l [] (second c.args.text.now c.in_ok-second.behind.now c.in_ok-second.second c.in_ok-second.ensures b (l ∷ []) h))

pub returns : goal.returns
returns c = duct_read c.args.text.now c.in_ok-second.behind.now c.in_ok-length.rest.now c.in_ok-second.second c.in_ok-length.length c.short_of.result c.short_of-2.result c.args.first c.in_ok-second.ensures c.in_ok-length.ensures c.short_of.ensures c.short_of-2.ensures c.alone.result c.alone.ensures
