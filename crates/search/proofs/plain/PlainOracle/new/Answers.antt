use Rattle.std.proofs.Common.{vec_items, vec_len, replicate, ap, ◌∙◌}
use Rattle.search.specs.declared.record.Record.{Record}
use Rattle.search.proofs.Memory.{nothing_lit}
use Rattle.search.proofs.plain.PlainOracle.new.Goals as goal

pub returns-clause-focus : goal.returns-clause-focus
returns-clause-focus c =
    let n = vec_len c.truncate.new.self in
    let d = c.default.ensures in
    nothing_lit (vec_items c.fill.new.self) n
    (c.fill.ensures.items (λ y e. e) ∙ ap (λ (r : Record). replicate n r) (λ i. record { distance = d.0 i; settled = d.1.0 i; focused = d.1.1 i }))
