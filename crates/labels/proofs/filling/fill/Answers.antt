use Rattle.std.proofs.Common.{refl, ◌∙◌, arith}
use Rattle.std.proofs.lemmas.Result.{err_from_is_err_and}
use Rattle.frame.proofs.Facts.{closed_lawful}
use Rattle.labels.proofs.Fills.{filling_none, filling_all, some_longer}
use Rattle.labels.proofs.filling.fill.Goals as goal

pub loop-rank-init : goal.loop-rank-init
loop-rank-init c = record {
  room = record { records = refl; queue = refl };
  same = record { width = refl; entries = refl; counts = refl };
  filling = filling_none c.requires.counts c.args.rows.now.fits c.requires.zeroed c.requires.upto;
}

pub search_from-requires-clause-ready : goal.search_from-requires-clause-ready
search_from-requires-clause-ready c = record {
  lawful = closed_lawful c.args.frame.now;
  ordered = c.requires.ordered;
  inside = omega (arith, c.loop-rank-test.true, c.places-rank-end.ensures.value);
  exact = c.loop-rank.invariant.filling.exact;
}

pub returns-in_err-search_from-clause-filled : goal.returns-in_err-search_from-clause-filled
returns-in_err-search_from-clause-filled c =
    let i = c.loop-rank.invariant in
    let p = err_from_is_err_and c.from_residual.result c.from_residual.ensures.1 in
    let l = some_longer c.in_err-search_from.field-0.0 i.same.width i.filling c.in_err-search_from.ensures.searched in
    rw p.1 (p.2 ∙ l.0, l.1)

pub returns-clause-filled : goal.returns-clause-filled
returns-clause-filled c = filling_all c.loop-rank.invariant.same.width c.requires.ordered (omega (arith, c.loop-rank-test.false, c.loop-rank.auto.rank-end, c.places-rank-end.ensures.value)) c.loop-rank.invariant.filling
