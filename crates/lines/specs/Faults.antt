-- The number and the spot of each fault of the reader. Assumes nothing.
use Rattle.std.specs.Prelude.{ℕ}
use Rattle.lines.specs.declared.fault.ReaderFault.{ReaderFault}
use Rattle.lines.specs.declared.fault.ReaderFault.TheVariants.{Form, Section, Limit, Memory, OtherPlaces}

-- the number of the broken rule
abbrev pub number_of : ReaderFault → ℕ
number_of (Form line) = 11
number_of (Section line) = 12
number_of (Limit which) = 13
number_of (Memory needed) = 31
number_of (OtherPlaces places) = 35

-- the line, which number of it, the bytes needed, or the frame's number of places
abbrev pub spot_of : ReaderFault → ℕ
spot_of (Form line) = line
spot_of (Section line) = line
spot_of (Limit which) = which
spot_of (Memory needed) = needed
spot_of (OtherPlaces places) = places
