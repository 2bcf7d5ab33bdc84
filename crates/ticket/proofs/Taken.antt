-- What each kind of line does, from what the checks, the frame and the job say. Assumes nothing.
use Rattle.std.proofs.Common.{◌≡◌, ℕ, ◌+◌, ◌-◌, ◌<◌, ◌≤◌, true, not, eqb, ltb, List, [], ◌∷◌, ◌++◌, length, take, Some, None, Ok, Err, Option, sym, refl, ap, ◌∙◌, subst, arith}
use Rattle.std.proofs.lemmas.Bool.{le-ltb, leb-true, eq-eqb, not_from_true, and_parts}
use Rattle.std.proofs.lemmas.List.{take_all}
use Rattle.ways.specs.declared.row.Row.{Row}
use Rattle.frame.specs.declared.frame.OpenFrame.{OpenFrame}
use Rattle.frame.specs.declared.fault.FrameFault.{FrameFault}
use Rattle.frame.specs.Of.{open_places, open_room, open_rows}
use Rattle.frame.specs.Verdict.{Verdict, places_verdict, verdict}
use Rattle.job.specs.declared.job.Job.{Job}
use Rattle.job.specs.declared.fault.JobFault.{JobFault}
use Rattle.job.specs.Day.{adds, put}
use Rattle.job.specs.Day as day
use Rattle.job.specs.Held.{held}
use Rattle.job.specs.Held as kept
use Rattle.job.specs.Places.{formed}
use Rattle.job.proofs.Verdicts.{add_checks}
use Rattle.lines.specs.Said.{places, ducts, duct, fittings, fitting, capped}
use Rattle.ticket.specs.declared.due.Due.{Due}
use Rattle.ticket.specs.declared.due.Due.TheVariants.{PlacesLine, DuctsLine, DuctLines, FittingLines}
use Rattle.ticket.specs.declared.fault.TicketFault.TheVariants.{Frame, Job as JobOn}
use Rattle.ticket.specs.Faults.{section, limit}
use Rattle.ticket.specs.Steps.{standing, State, by_frame, by_job, places_step, ducts_step, duct_step, fittings_step, fitting_step, duct_checks, fitting_checks, Finds}
use Rattle.ticket.specs.Runs.{Holds, Took}
use Rattle.ticket.proofs.Moves.{not_refused, standing_push, first_places}

pub places_taken : (room at n v : ℕ) (frame frame' : OpenFrame) (job job' : Job) (s : State) (due : Due) → Holds room frame job s → s.due ≡ due → due ≡ PlacesLine → n ≡ capped v → n < 10000000 → Ok tt ≡ places_verdict n → open_places frame' ≡ n → open_rows frame' ≡ [] → open_room frame' ≡ open_room frame → kept.Agrees n [] job' → Took room at s (places v) frame' job' (Ok DuctsLine)
places_taken room at n v frame frame' job job' s due h e d c l w p r k a =
    let q : n ≡ v = omega arith in
    let t : State = record { n = v; rows = []; fits = []; due = DuctsLine } in
    let x : places_step at PlacesLine v ≡ Ok t = not_refused (ltb 9999999 v) (limit at 1) (by_frame at (places_verdict v) t) (Ok t) (le-ltb 9999999 v (omega arith)) (ap (λ (y : Verdict). by_frame at y t) (ap places_verdict (sym q) ∙ sym w)) in
    (t, subst (λ (y : Due). places_step at y v ≡ Ok t) (sym (e ∙ d)) x, refl, tt, record { kept = k ∙ h.kept; places = p ∙ q; rows = r; same = a.places ∙ q; stands = a.stands })

pub ducts_taken : (room at m v : ℕ) (frame : OpenFrame) (job : Job) (s : State) (due : Due) → Holds room frame job s → s.due ≡ due → due ≡ DuctsLine → m ≡ capped v → m ≤ 16384 → Took room at s (ducts v) frame job (Ok (DuctLines m))
ducts_taken room at m v frame job s due h e d c l =
    let q : v ≡ m = omega arith in
    let t : State = record { n = s.n; rows = s.rows; fits = s.fits; due = DuctLines v } in
    let x : ducts_step at s DuctsLine v ≡ Ok t = not_refused (ltb 16384 v) (limit at 1) (Ok t) (Ok t) (le-ltb 16384 v (omega arith)) refl in
    (t, subst (λ (y : Due). ducts_step at s y v ≡ Ok t) (sym (e ∙ d)) x, ap (λ (y : ℕ). DuctLines y) q, tt, record { kept = h.kept; places = h.places; rows = h.rows; same = h.same; stands = h.stands })

pub fittings_taken : (room at m v left : ℕ) (frame : OpenFrame) (job : Job) (s : State) (due : Due) → Holds room frame job s → s.due ≡ due → due ≡ DuctLines left → left ≤ 0 → m ≡ capped v → m ≤ 64 → Took room at s (fittings v) frame job (Ok (FittingLines m 0))
fittings_taken room at m v left frame job s due h e d z c l =
    let q : v ≡ m = omega arith in
    let t : State = record { n = s.n; rows = s.rows; fits = s.fits; due = FittingLines v 0 } in
    let x : fittings_step at s (DuctLines left) v ≡ Ok t =
    not_refused (not (eqb left 0)) (section at) _ (Ok t) (not_from_true (eqb left 0) (eq-eqb left 0 (omega arith)))
    (not_refused (ltb 64 v) (limit at 1) (Ok t) (Ok t) (le-ltb 64 v (omega arith)) refl) in
    (t, subst (λ (y : Due). fittings_step at s y v ≡ Ok t) (sym (e ∙ d)) x, ap (λ (y : ℕ). FittingLines y 0) q, omega arith, record { kept = h.kept; places = h.places; rows = h.rows; same = h.same; stands = h.stands })

-- what the frame says of a row, in the words of the state
verdict_at : (room : ℕ) (frame : OpenFrame) (job : Job) (s : State) (row : Row) (a b l : ℕ) (r : Verdict) → Holds room frame job s → row.first ≡ a → row.second ≡ b → row.length ≡ l → r ≡ verdict (open_places frame) (open_room frame) (open_rows frame) row → verdict s.n room s.rows (record { first = a; second = b; length = l }) ≡ r
verdict_at room frame job s row a b l r h p q w e =
    let y : verdict (open_places frame) (open_room frame) (open_rows frame) row ≡ verdict s.n room s.rows (record { first = a; second = b; length = l }) = λ i. verdict (h.places i) (h.kept i) (h.rows i) (record { first = p i; second = q i; length = w i }) in
    sym (e ∙ y)

-- a duct's line that the frame was asked about
duct_asked : (room at left : ℕ) (frame : OpenFrame) (job : Job) (s : State) (due : Due) (row : Row) (a b l : ℕ) (r : Verdict) → Holds room frame job s → s.due ≡ due → due ≡ DuctLines left → row.first ≡ a → row.second ≡ b → row.length ≡ l → Finds None (duct_checks at left a b l) → r ≡ verdict (open_places frame) (open_room frame) (open_rows frame) row → duct_step room at s s.due a b l ≡ by_frame at r (record { n = s.n; rows = s.rows ++ record { first = a; second = b; length = l } ∷ []; fits = s.fits; due = DuctLines (left - 1) })
duct_asked room at left frame job s due row a b l r h e d p q w f v =
    let t : State = record { n = s.n; rows = s.rows ++ record { first = a; second = b; length = l } ∷ []; fits = s.fits; due = DuctLines (left - 1) } in
    let x = verdict_at room frame job s row a b l r h p q w v in
    let y : duct_step room at s (DuctLines left) a b l ≡ by_frame at r t = f _ ∙ ap (λ (z : Verdict). by_frame at z t) x in
    subst (λ (z : Due). duct_step room at s z a b l ≡ by_frame at r t) (sym (e ∙ d)) y

pub duct_taken : (room at left : ℕ) (frame frame' : OpenFrame) (job : Job) (s : State) (due : Due) (row : Row) (a b l : ℕ) → Holds room frame job s → s.due ≡ due → due ≡ DuctLines left → row.first ≡ a → row.second ≡ b → row.length ≡ l → Finds None (duct_checks at left a b l) → Ok tt ≡ verdict (open_places frame) (open_room frame) (open_rows frame) row → open_rows frame' ≡ open_rows frame ++ row ∷ [] → open_places frame' ≡ open_places frame → open_room frame' ≡ open_room frame → Took room at s (duct a b l) frame' job (Ok (DuctLines (left - 1)))
duct_taken room at left frame frame' job s due row a b l h e d p q w f v r n k =
    let t : State = record { n = s.n; rows = s.rows ++ record { first = a; second = b; length = l } ∷ []; fits = s.fits; due = DuctLines (left - 1) } in
    let y : open_rows frame ++ row ∷ [] ≡ t.rows = λ i. h.rows i ++ record { first = p i; second = q i; length = w i } ∷ [] in
    (t, duct_asked room at left frame job s due row a b l (Ok tt) h e d p q w f v, refl, tt, record { kept = k ∙ h.kept; places = n ∙ h.places; rows = r ∙ y; same = h.same; stands = h.stands })

pub duct_refused : (room at left : ℕ) (frame frame' : OpenFrame) (job : Job) (s : State) (due : Due) (row : Row) (a b l : ℕ) (x : FrameFault) → Holds room frame job s → s.due ≡ due → due ≡ DuctLines left → row.first ≡ a → row.second ≡ b → row.length ≡ l → Finds None (duct_checks at left a b l) → Err x ≡ verdict (open_places frame) (open_room frame) (open_rows frame) row → open_rows frame' ≡ open_rows frame → open_places frame' ≡ open_places frame → open_room frame' ≡ open_room frame → Took room at s (duct a b l) frame' job (Err (Frame at x))
duct_refused room at left frame frame' job s due row a b l x h e d p q w f v r n k =
    (duct_asked room at left frame job s due row a b l (Err x) h e d p q w f v, record { kept = k ∙ h.kept; places = n ∙ h.places; rows = r ∙ h.rows; same = h.same; stands = h.stands })

-- what the job says of a fitting, in the words of the state
job_at : (room number f : ℕ) (frame : OpenFrame) (job : Job) (s : State) (slice ps : List ℕ) (r : Option JobFault) → Holds room frame job s → number ≡ f → slice ≡ take 17 ps → r ≡ day.verdict job.heading.places (held job) (adds number slice) → day.verdict s.n (standing s.fits) (adds f ps) ≡ r
job_at room number f frame job s slice ps r h p q e =
    let y : day.verdict job.heading.places (held job) (adds number slice) ≡ day.verdict s.n (standing s.fits) (adds f (take 17 ps)) = λ i. day.verdict (h.same i) (h.stands i) (adds (p i) (q i)) in
    sym (e ∙ (y ∙ first_places s.n (standing s.fits) f ps))

-- a fitting's line that the job was asked about
fitting_asked : (at left least f c : ℕ) (s : State) (due : Due) (ps : List ℕ) (r : Option JobFault) → s.due ≡ due → due ≡ FittingLines left least → Finds None (fitting_checks at left least f c ps) → day.verdict s.n (standing s.fits) (adds f ps) ≡ r → fitting_step at s s.due f c ps ≡ by_job at r (record { n = s.n; rows = s.rows; fits = s.fits ++ record { number = f; places = ps } ∷ []; due = FittingLines (left - 1) (f + 1) })
fitting_asked at left least f c s due ps r e d g x =
    let t : State = record { n = s.n; rows = s.rows; fits = s.fits ++ record { number = f; places = ps } ∷ []; due = FittingLines (left - 1) (f + 1) } in
    let y : fitting_step at s (FittingLines left least) f c ps ≡ by_job at r t = g _ ∙ ap (λ (z : Option JobFault). by_job at z t) x in
    subst (λ (z : Due). fitting_step at s z f c ps ≡ by_job at r t) (sym (e ∙ d)) y

formed_few : (ps : List ℕ) → formed ps ≡ true → length ps ≤ 16
formed_few [] e = omega arith
formed_few (p ∷ ps) e = omega (arith, leb-true (length ps) 15 (and_parts _ _ e).0)

pub fitting_taken : (room at left least number f c : ℕ) (frame : OpenFrame) (job job' : Job) (s : State) (due : Due) (slice ps : List ℕ) → Holds room frame job s → s.due ≡ due → due ≡ FittingLines left least → number ≡ f → number ≤ 63 → slice ≡ take 17 ps → Finds None (fitting_checks at left least f c ps) → kept.Did job (adds number slice) None job' → Took room at s (fitting f c ps) frame job' (Ok (FittingLines (left - 1) (number + 1)))
fitting_taken room at left least number f c frame job job' s due slice ps h e d p m q g w =
    let v = job_at room number f frame job s slice ps None h p q w.answers in
    let k = add_checks s.n (standing s.fits) f ps v in
    let all : slice ≡ ps = q ∙ take_all 17 ps (omega (arith, formed_few ps k.1)) in
    let new : held job' ≡ put (held job) number (Some slice) = w.holds ∙ ap (λ (o : Option JobFault). day.changed o (adds number slice) (held job)) (sym w.answers) in
    let over : put (held job) number (Some slice) ≡ put (standing s.fits) f (Some ps) = λ i. put (h.stands i) (p i) (Some (all i)) in
    let listed : standing (s.fits ++ record { number = f; places = ps } ∷ []) ≡ put (standing s.fits) f (Some ps) = λ i j. standing_push s.fits f ps k.3 j i in (
      record { n = s.n; rows = s.rows; fits = s.fits ++ record { number = f; places = ps } ∷ []; due = FittingLines (left - 1) (f + 1) },
      fitting_asked at left least f c s due ps None e d g v,
      ap (λ (y : ℕ). FittingLines (left - 1) (y + 1)) (sym p),
      omega arith,
      record { kept = h.kept; places = h.places; rows = h.rows; same = w.places ∙ h.same; stands = new ∙ (over ∙ sym listed) },
    )

pub fitting_refused : (room at left least number f c : ℕ) (frame : OpenFrame) (job job' : Job) (s : State) (due : Due) (slice ps : List ℕ) (x : JobFault) → Holds room frame job s → s.due ≡ due → due ≡ FittingLines left least → number ≡ f → slice ≡ take 17 ps → Finds None (fitting_checks at left least f c ps) → kept.Did job (adds number slice) (Some x) job' → job' ≡ job → Took room at s (fitting f c ps) frame job' (Err (JobOn at x))
fitting_refused room at left least number f c frame job job' s due slice ps x h e d p q g w z =
    let v = job_at room number f frame job s slice ps (Some x) h p q w.answers in
    (fitting_asked at left least f c s due ps (Some x) e d g v, record { kept = h.kept; places = h.places; rows = h.rows; same = ap (λ (j : Job). j.heading.places) z ∙ h.same; stands = ap held z ∙ h.stands })
