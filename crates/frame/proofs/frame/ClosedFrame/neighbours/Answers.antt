use Rattle.std.proofs.Common.{◌≡◌, ◌+◌, ◌-◌, ◌<◌, List, length, take, drop, vec_items, sym, subst, arith, rules}
use Rattle.std.proofs.lemmas.List.{get_or_read}
use Rattle.frame.specs.declared.arc.Arc.{Arc}
use Rattle.frame.specs.Fans.{from_at}
use Rattle.frame.specs.Neighbours.{Neighbours}
use Rattle.frame.proofs.Facts.{closed_lawful}
use Rattle.frame.proofs.Fan.{unsealed}
use Rattle.frame.proofs.Near.{Span, span, no_neighbours, neighbours}
use Rattle.frame.proofs.frame.ClosedFrame.neighbours.Goals as goal
use Rattle.frame.proofs.frame.ClosedFrame.neighbours.Goals.{After-as_slice}

pub returns-then-place-self : goal.returns-then-place-self
returns-then-place-self c =
    let s = c.args.self.now in
    no_neighbours s.places (vec_items s.rows) c.args.place (closed_lawful s) (omega arith)

-- where the arcs of the place stand
known : (c : After-as_slice) → Span (vec_items c.args.self.now.offsets) (vec_items c.args.self.now.arcs) c.args.place c.index-start.result.now c.index-end.result.now
known c =
    let s = c.args.self.now in
    let offs = vec_items s.offsets in
    let f = unsealed _ _ _ _ s.fan in
    let in' : c.args.place < s.places = omega arith in
    let l : c.args.place + 1 < length offs = omega (arith, f.count) in
    let k : c.args.place < length offs = omega arith in
    let a : c.index-start.result.now ≡ from_at offs c.args.place = search (rules, get_or_read) in
    let b : c.index-end.result.now ≡ from_at offs (c.args.place + 1) = search (rules, get_or_read) in
    span _ _ _ _ f c.args.place in' _ _ a b

pub slice_bounds-result-count : goal.slice_bounds-result-count
slice_bounds-result-count c = (known c).rises

pub slice_bounds-result-start : goal.slice_bounds-result-start
slice_bounds-result-start c = (known c).rises

pub returns : goal.returns
returns c =
    let s = c.args.self.now in
    subst (λ (l : List Arc). Neighbours (vec_items s.rows) c.args.place (take (c.index-end.result.now - c.index-start.result.now) (drop c.index-start.result.now l))) (sym c.as_slice.ensures.value)
    (neighbours _ _ _ _ (unsealed _ _ _ _ s.fan) c.args.place c.if-place-self.false _ _ (known (goal.at.returns c).After-as_slice))
