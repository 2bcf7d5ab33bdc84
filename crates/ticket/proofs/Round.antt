-- From what a reading comes to, to the text that it is. Assumes nothing.
use Rattle.std.proofs.Common.{◌≡◌, ℕ, List, length, IfSome, Some, None, Ok, Option, sym, ap, ◌∙◌, subst, arith}
use Rattle.frame.specs.declared.frame.OpenFrame.{OpenFrame}
use Rattle.frame.specs.Of.{open_places, open_rows, places_of, rows_of}
use Rattle.job.specs.declared.job.Job.{Job}
use Rattle.job.specs.Day.{Standing}
use Rattle.job.specs.Held.{held}
use Rattle.ticket.specs.declared.fault.TicketFault.{TicketFault}
use Rattle.ticket.specs.Steps.{standing}
use Rattle.std.specs.List.{AllByRecursion}
use Rattle.frame.specs.declared.frame.ClosedFrame.{ClosedFrame}
use Rattle.frame.specs.Rows.{Sound}
use Rattle.job.specs.Places.{Fitted}
use Rattle.job.proofs.Listings.{held_fitted}
use Rattle.ticket.specs.Runs.{cut, Answers}
use Rattle.ticket.specs.Tickets.{ticket_text, fits_below, fits_of, IsText, ReadsBack, Readable, text_of}
use Rattle.ticket.proofs.Accepts.{accept_all, glued_cut}
use Rattle.ticket.proofs.Lists.{listed_again, below_climbs, all_listed, standing_again, held_none}
use Rattle.ticket.proofs.Returns.{ticket_return}
use Rattle.ticket.proofs.Sizes.{length_ticket}
use Rattle.lines.specs.Text.{held as told}

pub is_text : (bytes : List ℕ) (room : ℕ) (frame : OpenFrame) (job : Job) (answer : Option TicketFault) → Answers bytes room frame job answer → IsText bytes frame job answer
is_text bytes room frame job (Some fault) a = tt
is_text bytes room frame job None a =
    let h = a.holds in
    let w = accept_all room a.end (cut bytes).lines (cut bytes).loose a.ends in
    let f : fits_of job ≡ a.end.fits = ap (λ (on : Standing). fits_below 64 on) h.stands ∙ listed_again a.end.fits w.climbs in
    let e : ticket_text (open_places frame) (open_rows frame) (fits_of job) ≡ ticket_text a.end.n a.end.rows a.end.fits = λ i. ticket_text (h.places i) (h.rows i) (f i) in
    sym (glued_cut bytes) ∙ (w.text ∙ sym e)

pub reads_back : (bytes : List ℕ) (room : ℕ) (frame : OpenFrame) (job : Job) (answer : Option TicketFault) → Answers bytes room frame job answer → ReadsBack bytes room frame job answer
reads_back bytes room frame job answer a n rows fits k b =
    let h = a.holds in
    let c = ticket_return room a.end n rows fits bytes answer k b a.ends in
    (c.accepted, h.places ∙ c.n_is, h.rows ∙ c.rows_are, h.stands ∙ ap standing c.fits_are)

-- what a frame and a job of the same places write can be read
pub readable : (frame : ClosedFrame) (job : Job) → (places_of frame ≡ 0 → ⊥) → places_of frame ≡ job.heading.places → Sound (places_of frame) (rows_of frame) → Readable frame job (Ok tt)
readable frame job z e s =
    let fit : AllByRecursion (λ f. Fitted (places_of frame) f.places) (fits_of job) = all_listed (Fitted (places_of frame)) 64 (held job) (subst (λ (n : ℕ). (j : ℕ) → IfSome (held job j) (Fitted n)) (sym e) (held_fitted job)) in (
      λ room l. record { some = omega arith; sound = s; inside = l; climbs = below_climbs (held job); fitted = fit },
      standing_again (held job) (held_none job),
    )

-- its length is told exactly
pub exactly : (frame : ClosedFrame) (job : Job) (needed : ℕ) → (places_of frame ≡ 0 → ⊥) → places_of frame ≡ job.heading.places → Sound (places_of frame) (rows_of frame) → needed ≡ told (length (text_of frame job)) → needed ≡ length (text_of frame job)
exactly frame job needed z e s l =
    omega (arith, length_ticket (length (rows_of frame)) (places_of frame) (rows_of frame) (fits_of job) ((readable frame job z e s).0 (length (rows_of frame)) (omega arith)))
