-- What a clause reads of a duct and of a frame. Assumes nothing.
use Rattle.std.specs.Prelude.{ℕ, List, ◌++◌, codes, decimal, vec_items}
use Rattle.ways.specs.declared.row.Row.{Row}
use Rattle.frame.specs.declared.duct.Duct.{Duct}
use Rattle.frame.specs.declared.frame.OpenFrame.{OpenFrame}
use Rattle.frame.specs.declared.frame.ClosedFrame.{ClosedFrame}

-- the numbers of a duct, as a row
abbrev pub duct_row : Duct → Row
duct_row d = record { first = d.first; second = d.second; length = d.length }

-- what a duct prints: its ends, and its length in millimetres
abbrev pub duct_text : Duct → List ℕ
duct_text d = decimal d.first ++ codes "-" ++ decimal d.second ++ codes " " ++ decimal d.length ++ codes " mm"

-- how many places an open frame has
abbrev pub open_places : OpenFrame → ℕ
open_places f = f.places

-- how many ducts it has room for
abbrev pub open_room : OpenFrame → ℕ
open_room f = f.room

-- its ducts, as they were added
abbrev pub open_rows : OpenFrame → List Row
open_rows f = vec_items f.rows

-- how many places a closed frame has
abbrev pub places_of : ClosedFrame → ℕ
places_of f = f.places

-- its ducts, as they were added
abbrev pub rows_of : ClosedFrame → List Row
rows_of f = vec_items f.rows
