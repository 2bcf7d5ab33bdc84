-- The number, the layer, the spot and the line of each fault of a ticket. Assumes nothing.
use Rattle.std.specs.Prelude.{ℕ}
use Rattle.faults.specs.declared.layer.Layer.{Layer}
use Rattle.faults.specs.declared.layer.Layer.TheVariants.{Reader as ReaderLayer, Frame as FrameLayer, Job as JobLayer}
use Rattle.lines.specs.declared.fault.ReaderFault.TheVariants.{Form, Section, Limit}
use Rattle.lines.specs.Faults as lines
use Rattle.frame.specs.Faults as frame
use Rattle.job.specs.Faults as job
use Rattle.ticket.specs.declared.fault.TicketFault.{TicketFault}
use Rattle.ticket.specs.declared.fault.TicketFault.TheVariants.{Reader, Frame, Job}

-- the number of the broken rule
abbrev pub number_of : TicketFault → ℕ
number_of (Reader line fault) = lines.number_of fault
number_of (Frame line fault) = frame.number_of fault
number_of (Job line fault) = job.number_of fault

-- who refused
abbrev pub layer_of : TicketFault → Layer
layer_of (Reader line fault) = ReaderLayer
layer_of (Frame line fault) = FrameLayer
layer_of (Job line fault) = JobLayer

-- the inner fault's own spot
abbrev pub spot_of : TicketFault → ℕ
spot_of (Reader line fault) = lines.spot_of fault
spot_of (Frame line fault) = frame.spot_of fault
spot_of (Job line fault) = job.spot_of fault

-- the line that was refused
abbrev pub line_of : TicketFault → ℕ
line_of (Reader line fault) = line
line_of (Frame line fault) = line
line_of (Job line fault) = line

-- 11 at a line
abbrev pub form : ℕ → TicketFault
form at = Reader at (Form at)

-- 12 at a line
abbrev pub section : ℕ → TicketFault
section at = Reader at (Section at)

-- 13 at a line, of one of its numbers
abbrev pub limit : ℕ → ℕ → TicketFault
limit at which = Reader at (Limit which)
