use Rattle.std.proofs.Common.{◌≡◌, length}
use Rattle.frame.specs.Of.{open_room}
use Rattle.ticket.proofs.Along.{Along}
use Rattle.ticket.proofs.read.read.Given as goal

abbrev pub invariant-loop-line : goal.invariant-loop-line
invariant-loop-line l = Along l.bytes (open_room l.initial.reading.frame.now) l.rest l.reading × (l.reading.frame.ghost_name ≡ l.initial.reading.frame.ghost_name) × (l.reading.job.ghost_name ≡ l.initial.reading.job.ghost_name)

abbrev pub decreases-loop-line : goal.decreases-loop-line
decreases-loop-line l = length l.rest
