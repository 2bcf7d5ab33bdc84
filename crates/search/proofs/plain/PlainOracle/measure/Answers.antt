use Rattle.std.proofs.Common.{◌≡◌, List, length, vec_items, vec_len, rc_value, ap, ◌∙◌, subst}
use mathlib.Core.Path.{fun_ext}
use Rattle.std.specs.Vec.{with_items}
use Rattle.std.proofs.lemmas.List.{with_items_is}
use Rattle.ways.specs.Distance.{IsDistance, distance}
use Rattle.ways.proofs.Graph.{unique}
use Rattle.ways.proofs.Reaches.{distance_is}
use Rattle.frame.specs.declared.frame.ClosedFrame.{ClosedFrame}
use Rattle.frame.specs.Of.{places_of, rows_of}
use Rattle.frame.proofs.Facts.{closed_lawful}
use Rattle.search.specs.declared.record.Record.{Record}
use Rattle.search.specs.State.{known, lit}
use Rattle.search.proofs.plain.PlainOracle.measure.Goals as goal

pub returns-clause-found : goal.returns-clause-found
returns-clause-found c =
    let o = c.args.self.now in
    let f = rc_value o.frame in
    let s = c.args.source in
    let was = o.records in
    let ws = c.run.new.records in
    let size : length ws ≡ vec_len was = c.run.auto.records ∙ c.as_mut_slice.ensures.len in
    let is : vec_items (with_items was ws) ≡ ws = with_items_is was ws size in
    λ v. ap (λ (l : List Record). known l v) is
    ∙ unique (rows_of f) s v (known ws v) (distance (places_of f) (rows_of f) s v)
    (subst (λ (g : ClosedFrame). IsDistance (rows_of g) s v (known ws v)) c.deref.ensures (c.run.ensures.distances v))
    (distance_is (places_of f) (rows_of f) s v (closed_lawful f) c.requires.within)

pub returns-clause-focus : goal.returns-clause-focus
returns-clause-focus c =
    let was = c.args.self.now.records in
    let ws = c.run.new.records in
    let size : length ws ≡ vec_len was = c.run.auto.records ∙ c.as_mut_slice.ensures.len in
    let is : vec_items (with_items was ws) ≡ ws = with_items_is was ws size in
    fun_ext (λ x. ap (λ (l : List Record). lit l x) is ∙ c.run.ensures.focus x ∙ ap (λ (l : List Record). lit l x) c.as_mut_slice.ensures.value)
