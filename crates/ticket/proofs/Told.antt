-- From what a line is told as to what it says. Assumes nothing.
use Rattle.std.proofs.Common.{◌≡◌, ℕ, List, Some, Ok, Err, Result, sym, ap, subst}
use Rattle.frame.specs.declared.frame.OpenFrame.{OpenFrame}
use Rattle.job.specs.declared.job.Job.{Job}
use Rattle.lines.specs.Said.{Said, places, ducts, duct, fittings, fitting, Formed, Tells, ReadsAt, capped, Lists}
use Rattle.ways.specs.declared.row.Row.{Row}
use Rattle.lines.specs.declared.line.Line.{Line}
use Rattle.lines.specs.declared.line.Line.TheVariants.{Places, Ducts, Duct, Fittings, Fitting}
use Rattle.lines.specs.declared.line.ReadFitting.{ReadFitting}
use Rattle.lines.specs.Text.{held}
use Rattle.ticket.specs.declared.due.Due.{Due}
use Rattle.ticket.specs.declared.fault.TicketFault.{TicketFault}
use Rattle.ticket.specs.Steps.{State}
use Rattle.ticket.specs.Runs.{Took, Did}

-- a line's step is the step of its text
pub took_did : (room at : ℕ) (s : State) (d : Said) (text : List ℕ) (frame : OpenFrame) (job : Job) (r : Result Due TicketFault) → Formed text d → Took room at s d frame job r → Did room at s text frame job r
took_did room at s d text frame job (Ok due) f t = (Some d, f, t)
took_did room at s d text frame job (Err fault) f t = (Some d, f, t.0, t.1)

pub places_did : (room at : ℕ) (s : State) (text : List ℕ) (frame : OpenFrame) (job : Job) (r : Result Due TicketFault) (line : Line ReadFitting) (n : ℕ) → line ≡ Places n → ReadsAt text at (Ok line) → ((v : ℕ) → n ≡ capped v → Took room at s (places v) frame job r) → Did room at s text frame job r
places_did room at s text frame job r line n e h k = go h.0 h.1 h.2
  where
    go : (d : Said) → Formed text d → Tells line d → Did room at s text frame job r
    go (places v) f t = took_did room at s (places v) text frame job r f (k v cc)
    go (ducts v) f t = cc
    go (duct a b l) f t = cc
    go (fittings v) f t = cc
    go (fitting a b ps) f t = let u = t.1 in cc

pub ducts_did : (room at : ℕ) (s : State) (text : List ℕ) (frame : OpenFrame) (job : Job) (r : Result Due TicketFault) (line : Line ReadFitting) (n : ℕ) → line ≡ Ducts n → ReadsAt text at (Ok line) → ((v : ℕ) → n ≡ capped v → Took room at s (ducts v) frame job r) → Did room at s text frame job r
ducts_did room at s text frame job r line n e h k = go h.0 h.1 h.2
  where
    go : (d : Said) → Formed text d → Tells line d → Did room at s text frame job r
    go (ducts v) f t = took_did room at s (ducts v) text frame job r f (k v cc)
    go (places v) f t = cc
    go (duct a b l) f t = cc
    go (fittings v) f t = cc
    go (fitting a b ps) f t = let u = t.1 in cc

pub duct_did : (room at : ℕ) (s : State) (text : List ℕ) (frame : OpenFrame) (job : Job) (r : Result Due TicketFault) (line : Line ReadFitting) (row : Row) → line ≡ Duct row → ReadsAt text at (Ok line) → ((a b l : ℕ) → row.first ≡ capped a → row.second ≡ capped b → row.length ≡ capped l → Took room at s (duct a b l) frame job r) → Did room at s text frame job r
duct_did room at s text frame job r line row e h k = go h.0 h.1 h.2
  where
    go : (d : Said) → Formed text d → Tells line d → Did room at s text frame job r
    go (duct a b l) f t =
        let w : row ≡ record { first = capped a; second = capped b; length = capped l } = cc in
        took_did room at s (duct a b l) text frame job r f (k a b l (ap (λ (y : Row). y.first) w) (ap (λ (y : Row). y.second) w) (ap (λ (y : Row). y.length) w))
    go (places v) f t = cc
    go (ducts v) f t = cc
    go (fittings v) f t = cc
    go (fitting a b ps) f t = let u = t.1 in cc

pub fittings_did : (room at : ℕ) (s : State) (text : List ℕ) (frame : OpenFrame) (job : Job) (r : Result Due TicketFault) (line : Line ReadFitting) (n : ℕ) → line ≡ Fittings n → ReadsAt text at (Ok line) → ((v : ℕ) → n ≡ capped v → Took room at s (fittings v) frame job r) → Did room at s text frame job r
fittings_did room at s text frame job r line n e h k = go h.0 h.1 h.2
  where
    go : (d : Said) → Formed text d → Tells line d → Did room at s text frame job r
    go (fittings v) f t = took_did room at s (fittings v) text frame job r f (k v cc)
    go (places v) f t = cc
    go (ducts v) f t = cc
    go (duct a b l) f t = cc
    go (fitting a b ps) f t = let u = t.1 in cc

pub fitting_did : (room at : ℕ) (s : State) (text : List ℕ) (frame : OpenFrame) (job : Job) (r : Result Due TicketFault) (line : Line ReadFitting) (x : ReadFitting) → line ≡ Fitting x → ReadsAt text at (Ok line) → ((f c : ℕ) (ps : List ℕ) → x.number ≡ capped f → x.count ≡ held c → Lists x.places ps → Took room at s (fitting f c ps) frame job r) → Did room at s text frame job r
fitting_did room at s text frame job r line x e h k = go h.0 h.1 h.2
  where
    go : (d : Said) → Formed text d → Tells line d → Did room at s text frame job r
    go (fitting a b ps) f t =
        let u = t.1 in
        let w : record { number = capped a; count = held b; places = t.0 } ≡ x = cc in
        took_did room at s (fitting a b ps) text frame job r f (k a b ps (ap (λ (y : ReadFitting). y.number) (sym w)) (ap (λ (y : ReadFitting). y.count) (sym w)) (subst (λ (y : ReadFitting). Lists y.places ps) w t.2))
    go (places v) f t = cc
    go (ducts v) f t = cc
    go (duct a b l) f t = cc
    go (fittings v) f t = cc
