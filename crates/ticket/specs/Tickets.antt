-- The text of a ticket. Assumes nothing.
use Rattle.std.specs.Prelude.{◌≡◌, ℕ, zero, suc, ◌+◌, ◌<◌, ◌≤◌, cond, not, ◌||◌, List, [], ◌∷◌, ◌++◌, length, Some, None, Ok, Err, Option, Result, Vec, ◌==◌, nat_lt}
use Rattle.std.specs.List.{flat_map, AllByRecursion}
use Rattle.std.specs.declared.alloc.Global.{Global}
use Rattle.ways.specs.declared.row.Row.{Row}
use Rattle.frame.specs.declared.frame.ClosedFrame.{ClosedFrame}
use Rattle.frame.specs.Of.{open_places, open_rows, places_of, rows_of}
use Rattle.job.specs.declared.job.Job.{Job}
use Rattle.job.specs.Day.{Standing}
use Rattle.job.specs.Held as kept
use Rattle.lines.specs.Pages.{Puts}
use Rattle.lines.specs.Said.{Said, places, ducts, duct, fittings, fitting, line_text}
use Rattle.lines.specs.Text.{held}
use Rattle.lines.specs.declared.fault.ReaderFault.{ReaderFault}
use Rattle.lines.specs.declared.fault.ReaderFault.TheVariants.{OtherPlaces, Memory}
use Rattle.job.specs.Places.{Fitted}
use Rattle.frame.specs.Rows.{Sound}
use Rattle.frame.specs.declared.frame.OpenFrame.{OpenFrame}
use Rattle.ticket.specs.declared.fault.TicketFault.{TicketFault}
use Rattle.ticket.specs.Steps.{Fit, standing}

-- a line with its end
abbrev pub ended : Said → List ℕ
ended s = line_text s ++ 10 ∷ []

-- the line of a duct
abbrev pub duct_text : Row → List ℕ
duct_text row = ended (duct row.first row.second row.length)

-- the line of a fitting
abbrev pub fit_text : Fit → List ℕ
fit_text f = ended (fitting f.number (length f.places) f.places)

-- the ticket of places, ducts in order and fittings in order
unfoldable pub ticket_text : ℕ → List Row → List Fit → List ℕ
ticket_text n rows fits =
    ended (places n) ++ (ended (ducts (length rows)) ++ (flat_map duct_text rows ++ (ended (fittings (length fits)) ++ flat_map fit_text fits)))

-- a fitting, if it stands
abbrev pub entry : ℕ → Option (List ℕ) → List Fit
entry k None = []
entry k (Some ps) = record { number = k; places = ps } ∷ []

-- the standing fittings below k, in rising order of their numbers
unfoldable pub fits_below : ℕ → Standing → List Fit
fits_below zero on = []
fits_below (suc k) on = fits_below k on ++ entry k (on k)

-- fittings from a number on, below 64, each above the one before
abbrev pub Climbs : ℕ → List Fit → Type 0
Climbs least [] = Unit {0}
Climbs least (f ∷ fs) = (least ≤ f.number) × (f.number < 64) × Climbs (f.number + 1) fs

-- the fittings that a job lists
abbrev pub fits_of : Job → List Fit
fits_of job = fits_below 64 (kept.held job)

-- the ticket of a frame and a job
abbrev pub text_of : ClosedFrame → Job → List ℕ
text_of frame job = ticket_text (places_of frame) (rows_of frame) (fits_of job)

-- a text is appended as far as there is room, and its length is told up to 64 bits
pub record Wrote (old new : Vec ℕ Global) (count : ℕ) (text : List ℕ) : Type 0 where
  pub puts : Puts old new text
  pub long : count ≡ held (length text)

-- why a ticket of n places is not written: the job has another number of them, or none; or the room is too short for the text
abbrev pub write_verdict : ℕ → ℕ → ℕ → ℕ → Result (Unit {0}) ReaderFault
write_verdict n m room needed =
    cond (n == 0 || not (n == m)) (Err (OtherPlaces n)) (cond (nat_lt room needed) (Err (Memory needed)) (Ok tt))

-- what a ticket may hold, with room for so many ducts: a frame of some places, and fittings of these
pub record LawfulTicket (room n : ℕ) (rows : List Row) (fits : List Fit) : Type 0 where
  pub some : 1 ≤ n
  pub sound : Sound n rows
  pub inside : length rows ≤ room
  pub climbs : Climbs 0 fits
  pub fitted : AllByRecursion (λ f. Fitted n f.places) fits

-- an accepted byte string is the text of what was read
abbrev pub IsText : List ℕ → OpenFrame → Job → Option TicketFault → Type 0
IsText bytes frame job None = bytes ≡ ticket_text (open_places frame) (open_rows frame) (fits_of job)
IsText bytes frame job (Some fault) = Unit {0}

-- the text of what a ticket may hold is accepted, and read as just that
abbrev pub ReadsBack : List ℕ → ℕ → OpenFrame → Job → Option TicketFault → Type 0
ReadsBack bytes room frame job answer =
    (n : ℕ) (rows : List Row) (fits : List Fit) → LawfulTicket room n rows fits → bytes ≡ ticket_text n rows fits → (answer ≡ None) × (open_places frame ≡ n) × (open_rows frame ≡ rows) × (kept.held job ≡ standing fits)

-- a written ticket can be read into a frame that has room for its ducts, and its fittings are those of the job
abbrev pub Readable : ClosedFrame → Job → Result (Unit {0}) ReaderFault → Type 0
Readable frame job (Ok u) = ((room : ℕ) → length (rows_of frame) ≤ room → LawfulTicket room (places_of frame) (rows_of frame) (fits_of job)) × (standing (fits_of job) ≡ kept.held job)
Readable frame job (Err fault) = Unit {0}
