use Rattle.std.proofs.Common.{◌≡◌, ◌<◌, length, vec_items, sym, subst, rules}
use Rattle.std.proofs.lemmas.List.{get_or_read}
use Rattle.frame.specs.Rows.{IsDuct, row_at}
use Rattle.frame.proofs.Facts.{closed_duct}
use Rattle.frame.proofs.frame.ClosedFrame.duct.Goals as goal

pub of_sound-requires : goal.of_sound-requires
of_sound-requires c =
    let s = c.args.self.now in
    let row = c.in_ok-row.row.now in
    let l : c.args.i < length (vec_items s.rows) = search rules in
    let e : row ≡ row_at (vec_items s.rows) c.args.i = search (rules, get_or_read) in
    subst IsDuct (sym e) (closed_duct s c.args.i l)
