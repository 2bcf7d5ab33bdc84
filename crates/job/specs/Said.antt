-- What the calls of a program say. Assumes nothing.
use Rattle.job.specs.declared.call.Call.{Call}
use Rattle.job.specs.declared.call.Call.TheVariants.{Add, Drop, Plan, Focus, Clear}
use Rattle.job.specs.Day.{Act, adds, drops, plans, focuses, clears}

-- what a call says
abbrev pub said : Call → Act
said (Add fitting places) = adds fitting places.now
said (Drop fitting) = drops fitting
said Plan = plans
said (Focus place) = focuses place
said Clear = clears
