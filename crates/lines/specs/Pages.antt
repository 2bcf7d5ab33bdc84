-- Text that goes into the room of a vector. Assumes nothing.
use Rattle.std.specs.Prelude.{◌≡◌, ℕ, ◌+◌, List, ◌++◌, length, take, vec_items, vec_capacity, Vec}
use Rattle.std.specs.declared.alloc.Global.{Global}
use Rattle.lines.specs.declared.line.Line.{Line}
use Rattle.lines.specs.declared.line.Line.TheVariants.{Places, Ducts, Duct, Fittings, Fitting}
use Rattle.lines.specs.declared.line.WrittenFitting.{WrittenFitting}
use Rattle.lines.specs.declared.page.Page.{Page}
use Rattle.lines.specs.Said.{Said, places, ducts, duct, fittings, fitting}
use Rattle.lines.specs.Text.{held}

-- a text is appended as far as there is room, and the room stays
pub record Puts (old new : Vec ℕ Global) (text : List ℕ) : Type 0 where
  pub items : vec_items new ≡ take (vec_capacity old) (vec_items old ++ text)
  pub room : vec_capacity new ≡ vec_capacity old

-- a page in one vector has one more text, and counts it up to 64 bits
pub record Adds (old new : Page) (text : List ℕ) : Type 0 where
  pub same : new.out.ghost_name ≡ old.out.ghost_name
  pub puts : Puts old.out.now new.out.now text
  pub long : new.count ≡ held (old.count + length text)

-- what a line that is written says
abbrev pub said_of : Line WrittenFitting → Said
said_of (Places n) = places n
said_of (Ducts m) = ducts m
said_of (Duct row) = duct row.first row.second row.length
said_of (Fittings k) = fittings k
said_of (Fitting f) = fitting f.number (length f.places.now) f.places.now
