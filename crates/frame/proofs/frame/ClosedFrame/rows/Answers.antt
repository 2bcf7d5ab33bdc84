use Rattle.std.proofs.Common.{sym, subst}
use Rattle.frame.specs.Rows.{Sound}
use Rattle.frame.proofs.Facts.{closed_sound}
use Rattle.frame.proofs.frame.ClosedFrame.rows.Goals as goal

pub returns-clause-sound : goal.returns-clause-sound
returns-clause-sound c = let s = c.args.self.now in subst (Sound s.places) (sym c.as_slice.ensures.value) (closed_sound s)
