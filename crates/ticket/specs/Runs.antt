-- What a byte string is as a ticket: its lines, and the first of them that is refused. Assumes nothing.
use Rattle.std.specs.Prelude.{◌≡◌, ℕ, ◌+◌, ◌≤◌, cond, List, [], ◌∷◌, Some, None, Ok, Err, Option, Result, ◌==◌}
use Rattle.frame.specs.declared.frame.OpenFrame.{OpenFrame}
use Rattle.frame.specs.Of.{open_places, open_room, open_rows}
use Rattle.job.specs.declared.job.Job.{Job}
use Rattle.job.specs.Held.{held}
use Rattle.lines.specs.Said.{Said, Formed, Formless}
use Rattle.ticket.specs.declared.due.Due.{Due}
use Rattle.ticket.specs.declared.due.Due.TheVariants.{PlacesLine, DuctsLine, DuctLines, FittingLines}
use Rattle.ticket.specs.declared.fault.TicketFault.{TicketFault}
use Rattle.ticket.specs.declared.reading.Reading.{Reading}
use Rattle.ticket.specs.Faults.{form, section}
use Rattle.ticket.specs.Steps.{State, Step, opening, standing, step}

-- bytes as lines without their ends, and the piece after the last end
pub record Cut : Type 0 where
  pub lines : List (List ℕ)
  pub loose : List ℕ

-- one more byte in front of the first line, or of the piece where no line ends
abbrev pub onto : ℕ → List (List ℕ) → List ℕ → Cut
onto c [] loose = record { lines = []; loose = c ∷ loose }
onto c (l ∷ ls) loose = record { lines = (c ∷ l) ∷ ls; loose = loose }

-- each byte 10 ends a line
abbrev pub cut : List ℕ → Cut
cut [] = record { lines = []; loose = [] }
cut (c ∷ cs) = cond (c == 10) (record { lines = [] ∷ (cut cs).lines; loose = (cut cs).loose }) (onto c (cut cs).lines (cut cs).loose)

-- the answer where no line is left: a loose piece breaks the form, and a line that is due is missing
abbrev pub closing : ℕ → Due → List ℕ → Option TicketFault
closing at due (c ∷ cs) = Some (form at)
closing at PlacesLine [] = Some (section at)
closing at DuctsLine [] = Some (section at)
closing at (DuctLines left) [] = Some (section at)
closing at (FittingLines left least) [] = cond (left == 0) None (Some (section at))

-- a line that is refused ends the reading, and any other is followed by the rest
abbrev pub After : Step → (State → Type 0) → State → State → Option TicketFault → Type 0
After (Ok t) onward s end answer = onward t
After (Err fault) onward s end answer = (end ≡ s) × (answer ≡ Some fault)

-- a line by what it says, if it is lawful in form
abbrev pub Told : List ℕ → Option Said → Type 0
Told line (Some d) = Formed line d
Told line None = Formless line

-- the same, with the fault of the form
abbrev pub step_told : ℕ → ℕ → State → Option Said → Step
step_told room at s (Some d) = step room at s d
step_told room at s None = Err (form at)

-- lines from the number `at` on, read from a state with room for so many ducts, come to this end and this answer
abbrev pub Ends : ℕ → ℕ → State → List (List ℕ) → List ℕ → State → Option TicketFault → Type 0
Ends room at s [] loose end answer = (end ≡ s) × (answer ≡ closing at s.due loose)
Ends room at s (l ∷ ls) loose end answer =
    (o : Option Said) × Told l o × After (step_told room at s o) (λ t. Ends room (at + 1) t ls loose end answer) s end answer

-- a frame and a job hold what is read so far
pub record Holds (room : ℕ) (frame : OpenFrame) (job : Job) (s : State) : Type 0 where
  pub kept : open_room frame ≡ room
  pub places : open_places frame ≡ s.n
  pub rows : open_rows frame ≡ s.rows
  pub same : job.heading.places ≡ s.n
  pub stands : held job ≡ standing s.fits

-- a fitting's number is due to rise from at most 64
abbrev pub Tame : Due → Type 0
Tame PlacesLine = Unit {0}
Tame DuctsLine = Unit {0}
Tame (DuctLines left) = Unit {0}
Tame (FittingLines left least) = least ≤ 64

-- a reading holds what is read so far, and the same line is due
pub record Stands (room : ℕ) (reading : Reading) (s : State) : Type 0 where
  pub holds : Holds room reading.frame.now reading.job.now s
  pub due : s.due ≡ reading.due
  pub tame : Tame reading.due

-- a reading stands at the same line, and reads into the same frame and job
pub record Same (old new : Reading) : Type 0 where
  pub at : new.at ≡ old.at
  pub due : new.due ≡ old.due
  pub frame : new.frame.ghost_name ≡ old.frame.ghost_name
  pub job : new.job.ghost_name ≡ old.job.ghost_name

-- what a line did: the step of its kind, and what frame and job hold then
abbrev pub Took : ℕ → ℕ → State → Said → OpenFrame → Job → Result Due TicketFault → Type 0
Took room at s d frame job (Ok due) = (t : State) × (step room at s d ≡ Ok t) × (t.due ≡ due) × Tame due × Holds room frame job t
Took room at s d frame job (Err fault) = (step room at s d ≡ Err fault) × Holds room frame job s

-- what a line's text did
abbrev pub Did : ℕ → ℕ → State → List ℕ → OpenFrame → Job → Result Due TicketFault → Type 0
Did room at s text frame job (Ok due) = (o : Option Said) × Told text o × ((t : State) × (step_told room at s o ≡ Ok t) × (t.due ≡ due) × Tame due × Holds room frame job t)
Did room at s text frame job (Err fault) = (o : Option Said) × Told text o × (step_told room at s o ≡ Err fault) × Holds room frame job s

-- the fault of an answer, if it is one
abbrev pub answer_of : {X : Type 0} → Result X TicketFault → Option TicketFault
answer_of (Ok x) = None
answer_of (Err fault) = Some fault

-- what reading a byte string comes to, with what frame and job hold then
pub record Answers (bytes : List ℕ) (room : ℕ) (frame : OpenFrame) (job : Job) (answer : Option TicketFault) : Type 0 where
  pub end : State
  pub ends : Ends room 1 opening (cut bytes).lines (cut bytes).loose end answer
  pub holds : Holds room frame job end
