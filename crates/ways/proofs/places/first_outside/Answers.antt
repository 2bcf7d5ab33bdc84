use Rattle.std.proofs.Common.{◌+◌, ◌<◌, ◌≤◌, ltb, length, get_or, drop, sym, ◌∙◌, arith}
use Rattle.std.proofs.lemmas.List.{at_drop_more, at_drop_all}
use Rattle.std.proofs.lemmas.Bool.{cond-true, cond-false, le-ltb, lt-ltb}
use Rattle.ways.specs.Places.{outside}
use Rattle.ways.proofs.places.first_outside.Goals as goal

pub returns-then-p-n : goal.returns-then-p-n
returns-then-p-n c =
    let xs = c.args.places.now in
    let i = c.loop-p.p-index in
    let n = c.args.n in
    let h : i < length xs = omega arith in
    let o : n ≤ get_or xs i 0 = omega arith in
    sym (cond-false (ltb (get_or xs i 0) n) (outside n (drop (i + 1) xs)) _ (le-ltb (get_or xs i 0) n o)) ∙ sym (at_drop_more (outside n) xs i 0 h) ∙ c.loop-p.invariant

pub loop-p-preserved : goal.loop-p-preserved
loop-p-preserved c =
    let xs = c.args.places.now in
    let i = c.loop-p.p-index in
    let n = c.args.n in
    let h : i < length xs = omega arith in
    let o : get_or xs i 0 < n = omega arith in
    sym (cond-true (ltb (get_or xs i 0) n) (outside n (drop (i + 1) xs)) _ (lt-ltb (get_or xs i 0) n o)) ∙ sym (at_drop_more (outside n) xs i 0 h) ∙ c.loop-p.invariant

pub returns : goal.returns
returns c =
    let xs = c.args.places.now in
    let i = c.loop-p.p-index in
    let h : length xs ≤ i = omega arith in
    sym (at_drop_all (outside c.args.n) xs i h) ∙ c.loop-p.invariant
