use Rattle.std.proofs.Common.{ℕ, ap}
use Rattle.lines.specs.declared.line.Line.TheVariants.{Fitting}
use Rattle.lines.proofs.Forms.{no_first, second}
use Rattle.lines.proofs.read.fitting.Goals as goal

pub returns-in_err-count : goal.returns-in_err-count
returns-in_err-count c = rw c.from_residual.ensures (λ v ps. no_first c.args.text.now c.in_err-count.ensures v ps)

pub returns-in_err-places : goal.returns-in_err-places
returns-in_err-places c = rw c.from_residual-in_err-places.ensures (λ v ps h. c.in_err-places.ensures ps (second c.args.text.now c.in_ok-count.rest.now c.in_ok-count.count c.in_ok-count.ensures v ps h))

pub returns : goal.returns
returns c = let n = c.in_ok-count.ensures in let p = c.in_ok-places.ensures in (n.worth, p.0, c.in_ok-places.places, (c.in_ok-count.rest.now, n.opens, p.1), ap (λ (k : ℕ). Fitting record { number = c.args.number; count = k; places = c.in_ok-places.places }) n.number, p.2)
