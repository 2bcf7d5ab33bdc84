-- The number and the spot of each fault of an oracle. Assumes nothing.
use Rattle.std.specs.Prelude.{ℕ}
use Rattle.oracle.specs.declared.fault.OracleFault.{OracleFault}
use Rattle.oracle.specs.declared.fault.OracleFault.TheVariants.{Limit, EqualEnds, NoPlace, Records, Entries}

-- the number of the broken rule
abbrev pub number_of : OracleFault → ℕ
number_of (Limit which) = 13
number_of (EqualEnds end) = 14
number_of (NoPlace place) = 15
number_of (Records needed) = 31
number_of (Entries needed) = 31

-- which number of the call, the end, the place, or the entries needed
abbrev pub spot_of : OracleFault → ℕ
spot_of (Limit which) = which
spot_of (EqualEnds end) = end
spot_of (NoPlace place) = place
spot_of (Records needed) = needed
spot_of (Entries needed) = needed
