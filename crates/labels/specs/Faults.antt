-- The number and the spot of each fault of labels. Assumes nothing.
use Rattle.std.specs.Prelude.{ℕ}
use Rattle.labels.specs.declared.fault.LabelsFault.{LabelsFault}
use Rattle.labels.specs.declared.fault.LabelsFault.TheVariants.{Width, Rows, Counts, Places, Records, Entries, Order, TooLong, NotRight}

-- the number of the broken rule
abbrev pub number_of : LabelsFault → ℕ
number_of Width = 13
number_of (Rows needed) = 31
number_of (Counts needed) = 31
number_of (Places needed) = 31
number_of (Records needed) = 31
number_of (Entries needed) = 31
number_of (Order position) = 17
number_of (TooLong width) = 36
number_of NotRight = 37

-- which number of the call, the entries needed, the position, the width, or nothing
abbrev pub spot_of : LabelsFault → ℕ
spot_of Width = 1
spot_of (Rows needed) = needed
spot_of (Counts needed) = needed
spot_of (Places needed) = needed
spot_of (Records needed) = needed
spot_of (Entries needed) = needed
spot_of (Order position) = position
spot_of (TooLong width) = width
spot_of NotRight = 0
