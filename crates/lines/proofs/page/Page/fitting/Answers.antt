use Rattle.std.proofs.Common.{ℕ, [], ◌∷◌, length, decimal, subst}
use Rattle.lines.specs.Text.{tail_text}
use Rattle.lines.specs.Pages.{Adds}
use Rattle.lines.proofs.Pages.{adds_more}
use Rattle.lines.proofs.page.Page.fitting.Goals as goal

pub returns : goal.returns
returns c =
    let n = c.args.fitting.number in
    let ps = c.args.fitting.places.now in
    let first : Adds c.byte.new.self c.next.new.self (32 ∷ decimal n) = subst (λ (k : ℕ). Adds c.byte.new.self c.next.new.self (32 ∷ decimal k)) c.from.ensures c.next.ensures in
    adds_more c.args.self.now c.byte.new.self c.numbers.new.self (102 ∷ []) (tail_text (n ∷ length ps ∷ ps)) c.byte.ensures
    (adds_more c.byte.new.self c.next.new.self c.numbers.new.self (32 ∷ decimal n) (tail_text (length ps ∷ ps)) first
    (adds_more c.next.new.self c.next-2.new.self c.numbers.new.self (32 ∷ decimal (length ps)) (tail_text ps) c.next-2.ensures c.numbers.ensures))
