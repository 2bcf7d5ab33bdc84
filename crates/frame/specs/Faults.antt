-- The number and the spot of each fault of a frame. Assumes nothing.
use Rattle.std.specs.Prelude.{ℕ}
use Rattle.frame.specs.declared.fault.FrameFault.{FrameFault}
use Rattle.frame.specs.declared.fault.FrameFault.TheVariants.{Places, Length, NoRoom, NoPlace, Ends, Order, Entries}

-- the number of the broken rule
abbrev pub number_of : FrameFault → ℕ
number_of Places = 13
number_of Length = 13
number_of (NoRoom needed) = 31
number_of (NoPlace place) = 15
number_of (Ends first) = 14
number_of (Order needed) = 31
number_of (Entries needed) = 31

-- which number of the line, the entries needed, the place, or the first end
abbrev pub spot_of : FrameFault → ℕ
spot_of Places = 1
spot_of Length = 3
spot_of (NoRoom needed) = needed
spot_of (NoPlace place) = place
spot_of (Ends first) = first
spot_of (Order needed) = needed
spot_of (Entries needed) = needed
