-- What a line of a ticket does where it stands: the rule's checks in their order, or the state after it. Assumes nothing.
use Rattle.std.specs.Prelude.{◌≡◌, ℕ, ◌+◌, ◌-◌, Bool, cond, not, List, [], ◌∷◌, ◌++◌, length, Some, None, Ok, Err, Option, Result, ◌==◌, nat_lt}
use Rattle.ways.specs.declared.row.Row.{Row}
use Rattle.frame.specs.Verdict.{Verdict, places_verdict, verdict}
use Rattle.job.specs.declared.fault.JobFault.{JobFault}
use Rattle.job.specs.declared.fault.JobFault.TheVariants.{Number}
use Rattle.job.specs.Day.{Standing, adds}
use Rattle.job.specs.Day as day
use Rattle.lines.specs.Said.{Said, places, ducts, duct, fittings, fitting, shorts}
use Rattle.ticket.specs.declared.due.Due.{Due}
use Rattle.ticket.specs.declared.due.Due.TheVariants.{PlacesLine, DuctsLine, DuctLines, FittingLines}
use Rattle.ticket.specs.declared.fault.TicketFault.{TicketFault}
use Rattle.ticket.specs.declared.fault.TicketFault.TheVariants.{Frame, Job}
use Rattle.ticket.specs.Faults.{section, limit}

-- a fitting as a ticket lists it
pub record Fit : Type 0 where
  pub number : ℕ
  pub places : List ℕ

-- which places each listed fitting stands with
abbrev pub standing : List Fit → Standing
standing [] k = None
standing (f ∷ fs) k = cond (k == f.number) (Some f.places) (standing fs k)

-- what is read so far, and which line is due
pub record State : Type 0 where
  pub n : ℕ
  pub rows : List Row
  pub fits : List Fit
  pub due : Due

-- before the first line
abbrev pub opening : State
opening = record { n = 0; rows = []; fits = []; due = PlacesLine }

-- a state after a line, or why the line is refused
abbrev pub Step : Type 0
Step = Result State TicketFault

-- refused with the fault where the test holds, else what follows
abbrev pub refuse : Bool → TicketFault → Step → Step
refuse test fault onward = cond test (Err fault) onward

-- what the frame says, and the state after it
abbrev pub by_frame : ℕ → Verdict → State → Step
by_frame at (Ok u) t = Ok t
by_frame at (Err fault) t = Err (Frame at fault)

-- what the job says, and the state after it
abbrev pub by_job : ℕ → Option JobFault → State → Step
by_job at None t = Ok t
by_job at (Some fault) t = Err (Job at fault)

-- the number of places
abbrev pub places_step : ℕ → Due → ℕ → Step
places_step at PlacesLine v = refuse (nat_lt 9999999 v) (limit at 1) (by_frame at (places_verdict v) (record { n = v; rows = []; fits = []; due = DuctsLine }))
places_step at DuctsLine v = Err (section at)
places_step at (DuctLines left) v = Err (section at)
places_step at (FittingLines left least) v = Err (section at)

-- the number of ducts: 0 to 16,384
abbrev pub ducts_step : ℕ → State → Due → ℕ → Step
ducts_step at s DuctsLine v = refuse (nat_lt 16384 v) (limit at 1) (Ok (record { n = s.n; rows = s.rows; fits = s.fits; due = DuctLines v }))
ducts_step at s PlacesLine v = Err (section at)
ducts_step at s (DuctLines left) v = Err (section at)
ducts_step at s (FittingLines left least) v = Err (section at)

-- the checks of a duct's line before what the frame says: one is due, and no number has more than seven digits
abbrev pub duct_checks : ℕ → ℕ → ℕ → ℕ → ℕ → Step → Step
duct_checks at left a b l onward =
    refuse (left == 0) (section at)
    (refuse (nat_lt 9999999 a) (limit at 1)
    (refuse (nat_lt 9999999 b) (limit at 2)
    (refuse (nat_lt 9999999 l) (limit at 3) onward)))

-- a duct
abbrev pub duct_step : ℕ → ℕ → State → Due → ℕ → ℕ → ℕ → Step
duct_step room at s (DuctLines left) a b l =
    duct_checks at left a b l
    (by_frame at (verdict s.n room s.rows (record { first = a; second = b; length = l }))
    (record { n = s.n; rows = s.rows ++ record { first = a; second = b; length = l } ∷ []; fits = s.fits; due = DuctLines (left - 1) }))
duct_step room at s PlacesLine a b l = Err (section at)
duct_step room at s DuctsLine a b l = Err (section at)
duct_step room at s (FittingLines left least) a b l = Err (section at)

-- the number of fittings, 0 to 64, where no duct is due any more
abbrev pub fittings_step : ℕ → State → Due → ℕ → Step
fittings_step at s (DuctLines left) v =
    refuse (not (left == 0)) (section at)
    (refuse (nat_lt 64 v) (limit at 1) (Ok (record { n = s.n; rows = s.rows; fits = s.fits; due = FittingLines v 0 })))
fittings_step at s PlacesLine v = Err (section at)
fittings_step at s DuctsLine v = Err (section at)
fittings_step at s (FittingLines left least) v = Err (section at)

-- the checks of a fitting's line before what the job says: one is due, its count and its number's rise, then its numbers' limits
abbrev pub fitting_checks : ℕ → ℕ → ℕ → ℕ → ℕ → List ℕ → Step → Step
fitting_checks at left least f c ps onward =
    refuse (left == 0) (section at)
    (refuse (not (c == length ps)) (section at)
    (refuse (nat_lt f least) (section at)
    (refuse (nat_lt 9999999 f) (limit at 1)
    (refuse (nat_lt 63 f) (Job at Number)
    (refuse (nat_lt 9999999 c) (limit at 2)
    (refuse (nat_lt (shorts ps) (length ps)) (limit at (shorts ps + 3)) onward))))))

-- a fitting
abbrev pub fitting_step : ℕ → State → Due → ℕ → ℕ → List ℕ → Step
fitting_step at s (FittingLines left least) f c ps =
    fitting_checks at left least f c ps
    (by_job at (day.verdict s.n (standing s.fits) (adds f ps))
    (record { n = s.n; rows = s.rows; fits = s.fits ++ record { number = f; places = ps } ∷ []; due = FittingLines (left - 1) (f + 1) }))
fitting_step at s PlacesLine f c ps = Err (section at)
fitting_step at s DuctsLine f c ps = Err (section at)
fitting_step at s (DuctLines left) f c ps = Err (section at)

-- a fault that checks find, or none
abbrev pub Finds : Option TicketFault → (Step → Step) → Type 0
Finds None checks = (onward : Step) → checks onward ≡ onward
Finds (Some fault) checks = (onward : Step) → checks onward ≡ Err fault

-- a line of any kind, with room for so many ducts
abbrev pub step : ℕ → ℕ → State → Said → Step
step room at s (places v) = places_step at s.due v
step room at s (ducts v) = ducts_step at s s.due v
step room at s (duct a b l) = duct_step room at s s.due a b l
step room at s (fittings v) = fittings_step at s s.due v
step room at s (fitting f c ps) = fitting_step at s s.due f c ps
