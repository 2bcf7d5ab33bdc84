-- The merge of two rows at the end of the second. Assumes nothing.
use Rattle.std.proofs.Common.{◌≡◌, ◌<◌, List, [], ◌∷◌, length, Some, None, Option, refl, arith}
use Rattle.hubs.specs.declared.entry.Entry.{Entry}
use Rattle.hubs.specs.declared.meeting.Meeting.{Meeting}
use Rattle.hubs.specs.Merge.{merge, sooner}

pub ended : (a : Option Meeting) (xs ys : List Entry) → length ys < 1 → sooner a (merge xs ys) ≡ a
ended a xs (y ∷ ys) l = absurd (omega arith)
ended None [] [] l = refl
ended None (x ∷ xs) [] l = refl
ended (Some m) [] [] l = refl
ended (Some m) (x ∷ xs) [] l = refl
