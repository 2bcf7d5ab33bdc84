use Rattle.std.proofs.Common.{◌≡◌, ◌∙◌, fold, rules}
use Rattle.lines.proofs.Front.{one_more, held_all}
use Rattle.lines.proofs.numeral.value.Goals as goal

pub returns : goal.returns
returns c =
    let f : c.fold.result ≡ fold one_more 0 c.args.piece.now = search rules in
    f ∙ held_all c.args.piece.now c.requires
