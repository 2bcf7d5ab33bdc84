-- The number and the spot of each fault of a job. Assumes nothing.
use Rattle.std.specs.Prelude.{ℕ}
use Rattle.job.specs.declared.fault.JobFault.{JobFault}
use Rattle.job.specs.declared.fault.JobFault.TheVariants.{Number, Places, NoPlace, Stands, Absent, NoneStanding, OtherPlaces, Trunk, NoSet}

-- the number of the broken rule
abbrev pub number_of : JobFault → ℕ
number_of Number = 13
number_of (Places fitting) = 16
number_of (NoPlace place) = 15
number_of (Stands fitting) = 32
number_of (Absent fitting) = 33
number_of NoneStanding = 34
number_of (OtherPlaces places) = 35
number_of (Trunk needed) = 31
number_of (NoSet fittings) = 38

-- which number of the call, the fitting, the place, the oracle's places, the entries needed, or how many fittings stand
abbrev pub spot_of : JobFault → ℕ
spot_of Number = 1
spot_of (Places fitting) = fitting
spot_of (NoPlace place) = place
spot_of (Stands fitting) = fitting
spot_of (Absent fitting) = fitting
spot_of NoneStanding = 0
spot_of (OtherPlaces places) = places
spot_of (Trunk needed) = needed
spot_of (NoSet fittings) = fittings
