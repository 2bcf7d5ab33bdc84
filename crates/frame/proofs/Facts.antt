-- What holds of every frame, for other crates. Assumes nothing.
use Rattle.std.proofs.Common.{ℕ, ◌<◌, ◌≤◌, length, vec_items}
use Rattle.ways.specs.Way.{Lawful}
use Rattle.frame.specs.declared.frame.OpenFrame.{OpenFrame}
use Rattle.frame.specs.declared.frame.ClosedFrame.{ClosedFrame}
use Rattle.frame.specs.Of.{open_places, open_rows, places_of, rows_of}
use Rattle.frame.specs.Rows.{IsDuct, row_at, Sound}
use Rattle.frame.proofs.Fan.{unsealed}
use Rattle.frame.proofs.Sounds.{duct_at, unkept}

-- what is kept while a frame is open
pub open_sound : (f : OpenFrame) → Sound (open_places f) (open_rows f)
open_sound f = unkept (open_places f) (open_rows f) f.sound

-- what holds of a closed frame
pub closed_sound : (f : ClosedFrame) → Sound (places_of f) (rows_of f)
closed_sound f = (unsealed (places_of f) (rows_of f) (vec_items f.offsets) (vec_items f.arcs) f.fan).frame

-- its ducts are lawful
pub closed_lawful : (f : ClosedFrame) → Lawful (places_of f) (rows_of f)
closed_lawful f = (closed_sound f).lawful

-- it has at most 4,096 places
pub closed_few : (f : ClosedFrame) → places_of f ≤ 4096
closed_few f = (closed_sound f).few

-- it has at most 16,384 ducts
pub closed_ducts : (f : ClosedFrame) → length (rows_of f) ≤ 16384
closed_ducts f = (closed_sound f).few_ducts

-- each row of it is a duct
pub closed_duct : (f : ClosedFrame) (i : ℕ) → i < length (rows_of f) → IsDuct (row_at (rows_of f) i)
closed_duct f i l = duct_at (places_of f) (rows_of f) i (closed_sound f) l
