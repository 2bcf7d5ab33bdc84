-- What a frame answers to a number of places or a row: the first check that fails, or acceptance. Assumes nothing.
use Rattle.std.specs.Prelude.{ℕ, ◌+◌, Bool, List, length, Ok, Err, Result, nat_le, nat_lt}
use Rattle.ways.specs.declared.row.Row.{Row}
use Rattle.ways.specs.Options.{pick}
use Rattle.frame.specs.declared.fault.FrameFault.{FrameFault}
use Rattle.frame.specs.declared.fault.FrameFault.TheVariants.{Places, Length, NoRoom, NoPlace, Ends}
use Rattle.frame.specs.Rows.{paired}

-- accepted, or refused with a fault
abbrev pub Verdict : Type 0
Verdict = Result (Unit {0}) FrameFault

-- no check fails
abbrev pub accepted : Verdict
accepted = Ok tt

-- refused with the fault where the test holds, else what follows
abbrev pub refuse : Bool → FrameFault → Verdict → Verdict
refuse test fault onward = pick test (Err fault) onward

-- 1 to 4,096 places
abbrev pub places_verdict : ℕ → Verdict
places_verdict n = refuse (nat_lt n 1) Places (refuse (nat_lt 4096 n) Places accepted)

-- 1 to 1,000,000 mm, and then what follows
abbrev pub length_verdict : ℕ → Verdict → Verdict
length_verdict len onward = refuse (nat_lt len 1) Length (refuse (nat_lt 1000000 len) Length onward)

-- a row by itself: its length, then its ends
abbrev pub duct_verdict : Row → Verdict
duct_verdict row = length_verdict row.length (refuse (nat_le row.second row.first) (Ends row.first) accepted)

-- a row for a frame of n places with room for so many rows, which has these: length, room, places, ends
abbrev pub verdict : ℕ → ℕ → List Row → Row → Verdict
verdict n room rows row =
    length_verdict row.length
    (refuse (nat_le room (length rows)) (NoRoom (length rows + 1))
    (refuse (nat_le n row.first) (NoPlace row.first)
    (refuse (nat_le n row.second) (NoPlace row.second)
    (refuse (nat_le row.second row.first) (Ends row.first)
    (refuse (paired rows row.first row.second) (Ends row.first) accepted)))))
