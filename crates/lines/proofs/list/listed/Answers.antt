use Rattle.std.proofs.Common.{rules}
use Rattle.lines.proofs.Numbers.{along, none_behind, finished}
use Rattle.lines.proofs.list.listed.Goals as goal

pub returns-in_err-n : goal.returns-in_err-n
returns-in_err-n c = rw c.from_residual.ensures (λ ns h.
    let o = c.loop-rest.invariant.only ns h in
    none_behind c.loop-rest.rest.now c.in_err-n.ensures o.0 (search rules) o.2)

pub loop-rest-preserved : goal.loop-rest-preserved
loop-rest-preserved c = along c.args.text.now c.loop-rest.rest.now c.in_ok-n.after.now c.in_ok-n.n c.loop-rest.list c.push.new.self c.in_ok-n.ensures c.loop-rest.invariant c.push.ensures

pub returns : goal.returns
returns c = finished c.args.text.now c.loop-rest.rest.now c.loop-rest.list (search rules) c.loop-rest.invariant
