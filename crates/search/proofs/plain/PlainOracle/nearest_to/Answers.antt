use Rattle.std.proofs.Common.{◌≡◌, List, length, vec_items, vec_len, rc_value, sym, ◌∙◌, subst}
use Rattle.heap.specs.Of.{capacity}
use Rattle.ways.specs.Nearest.{Nearest}
use Rattle.frame.specs.Of.{places_of, rows_of}
use Rattle.search.specs.declared.record.Record.{Record}
use Rattle.search.specs.State.{known, lit}
use Rattle.search.specs.Of.{focus_of}
use Rattle.search.proofs.Told.{tells_nearest}
use Rattle.search.proofs.plain.PlainOracle.nearest_to.Goals as goal

pub returns-clause-value : goal.returns-clause-value
returns-clause-value c =
    let o = c.args.self.now in
    let f = rc_value o.frame in
    let rs = vec_items c.measure.new.self.records in
    let long : length rs ≡ places_of f = sym c.measure.new.self.records.ok.0 ∙ c.measure.ensures.long in
    let near : Nearest (length rs) (lit rs) (known rs) c.nearest_lit.result = subst (λ (l : List Record). Nearest (length l) (lit l) (known l) c.nearest_lit.result) c.deref.ensures.value c.nearest_lit.ensures in
    tells_nearest (places_of f) (rows_of f) (vec_len o.records) (capacity o.queue) c.args.v rs (focus_of o) c.nearest_lit.result c.requires.ready c.measure.ensures.found long c.measure.ensures.focus near
