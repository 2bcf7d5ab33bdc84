-- An accepted byte string is the text of what was read. Assumes nothing.
use Rattle.std.proofs.Common.{◌≡◌, ℕ, ◌+◌, ◌-◌, ◌<◌, ◌≤◌, Bool, true, false, cond, not, eqb, ltb, ◌⊎◌, List, [], ◌∷◌, ◌++◌, length, Some, None, Ok, Err, Option, sym, refl, ap, ◌∙◌, subst, inl, inr, arith}
use Rattle.std.proofs.lemmas.List.{append_assoc, append-nil}
use Rattle.std.proofs.lemmas.Bool.{ltb-true, ltb-false, eqb-true, eqb-false, not-false}
use Rattle.std.specs.List.{flat_map}
use Rattle.ways.specs.declared.row.Row.{Row}
use Rattle.frame.specs.Verdict.{Verdict}
use Rattle.job.specs.declared.fault.JobFault.{JobFault}
use Rattle.job.specs.declared.fault.JobFault.TheVariants.{Number}
use Rattle.lines.specs.Said.{Said, places, ducts, duct, fittings, fitting, Formed, line_text, shorts}
use Rattle.lines.specs.Text.{Short}
use Rattle.lines.proofs.Texts.{read_writes}
use Rattle.ticket.specs.declared.due.Due.{Due}
use Rattle.ticket.specs.declared.due.Due.TheVariants.{DuctsLine, DuctLines, FittingLines}
use Rattle.ticket.specs.declared.fault.TicketFault.{TicketFault}
use Rattle.ticket.specs.declared.fault.TicketFault.TheVariants.{Job}
use Rattle.ticket.specs.Faults.{section, limit, form}
use Rattle.ticket.specs.Steps.{Fit, State, Step, opening, refuse, by_frame, by_job, places_step, ducts_step, duct_step, fittings_step, fitting_step, step}
use Rattle.ticket.specs.Runs.{onto, cut, closing, After, Ends}
use Rattle.ticket.specs.Tickets.{ended, duct_text, fit_text, ticket_text, Climbs}

-- a step that is taken passed each check
passed : (b : Bool) (e : TicketFault) (o : Step) (t : State) → refuse b e o ≡ Ok t → (b ≡ false) × (o ≡ Ok t)
passed true e o t h = cc
passed false e o t h = (refl, h)

by_frame_ok : (at : ℕ) (r : Verdict) (t u : State) → by_frame at r t ≡ Ok u → (r ≡ Ok tt) × (t ≡ u)
by_frame_ok at (Ok x) t u h = (refl, cc)
by_frame_ok at (Err e) t u h = cc

by_job_ok : (at : ℕ) (r : Option JobFault) (t u : State) → by_job at r t ≡ Ok u → (r ≡ None) × (t ≡ u)
by_job_ok at None t u h = (refl, cc)
by_job_ok at (Some e) t u h = cc

not_section : (at : ℕ) (t : State) → ◌≡◌ {A = Step} (Err (section at)) (Ok t) → ⊥
not_section at t h = let z : ◌≡◌ {A = ℕ} 0 1 = cc in omega arith

-- nothing but short numbers
pub shorts_all : (ps : List ℕ) → length ps ≤ shorts ps → Short ps
shorts_all [] l = tt
shorts_all (p ∷ ps) l = go (ltb p 10000000) refl l (shorts_all ps)
  where
    go : (b : Bool) → ltb p 10000000 ≡ b → length (p ∷ ps) ≤ cond b (1 + shorts ps) 0 → (length ps ≤ shorts ps → Short ps) → Short (p ∷ ps)
    go true e h i = (ltb-true p 10000000 e, i (omega arith))
    go false e h i = absurd (omega arith)

-- a line that is taken where fittings are due
pub record FitStep (at : ℕ) (s : State) (d : Said) (t : State) (left least : ℕ) : Type 0 where
  pub fit : Fit
  pub said : d ≡ fitting fit.number (length fit.places) fit.places
  pub after : t ≡ record { n = s.n; rows = s.rows; fits = s.fits ++ fit ∷ []; due = FittingLines (left - 1) (fit.number + 1) }
  pub short : Short (fit.number ∷ length fit.places ∷ fit.places)
  pub rises : least ≤ fit.number
  pub few : fit.number < 64
  pub some : 0 < left

fit_step : (room at : ℕ) (s : State) (d : Said) (t : State) (left least : ℕ) → s.due ≡ FittingLines left least → step room at s d ≡ Ok t → FitStep at s d t left least
fit_step room at s (places v) t left least e h = absurd (not_section at t (subst (λ (x : Due). places_step at x v ≡ Ok t) e h))
fit_step room at s (ducts v) t left least e h = absurd (not_section at t (subst (λ (x : Due). ducts_step at s x v ≡ Ok t) e h))
fit_step room at s (duct a b l) t left least e h = absurd (not_section at t (subst (λ (x : Due). duct_step room at s x a b l ≡ Ok t) e h))
fit_step room at s (fittings v) t left least e h = absurd (not_section at t (subst (λ (x : Due). fittings_step at s x v ≡ Ok t) e h))
fit_step room at s (fitting f c ps) t left least e h =
    let k0 = subst (λ (x : Due). fitting_step at s x f c ps ≡ Ok t) e h in
    let k1 = passed (eqb left 0) (section at) _ t k0 in
    let k2 = passed (not (eqb c (length ps))) (section at) _ t k1.1 in
    let k3 = passed (ltb f least) (section at) _ t k2.1 in
    let k4 = passed (ltb 9999999 f) (limit at 1) _ t k3.1 in
    let k5 = passed (ltb 63 f) (Job at Number) _ t k4.1 in
    let k6 = passed (ltb 9999999 c) (limit at 2) _ t k5.1 in
    let k7 = passed (ltb (shorts ps) (length ps)) (limit at (shorts ps + 3)) _ t k6.1 in
    let k8 = by_job_ok at _ _ t k7.1 in
    let q : c ≡ length ps = eqb-true c (length ps) (not-false (eqb c (length ps)) k2.0) in
    let s1 = ltb-false 9999999 f k4.0 in
    let s2 = ltb-false 9999999 c k6.0 in
    let z : left ≡ 0 → ⊥ = eqb-false left 0 k1.0 in
    record {
      fit = record { number = f; places = ps };
      said = ap (λ (x : ℕ). fitting f x ps) q;
      after = sym k8.1;
      short = (omega arith, (omega arith, shorts_all ps (ltb-false (shorts ps) (length ps) k7.0)));
      rises = ltb-false f least k3.0;
      few = omega (arith, ltb-false 63 f k5.0);
      some = omega arith;
    }

-- lines with their ends, and a loose piece
abbrev pub glued : List (List ℕ) → List ℕ → List ℕ
glued lines loose = flat_map (λ l. l ++ 10 ∷ []) lines ++ loose

-- one line in front
glued_more : (l : List ℕ) (ls : List (List ℕ)) (loose t u : List ℕ) → l ≡ t → glued ls loose ≡ u → glued (l ∷ ls) loose ≡ (t ++ 10 ∷ []) ++ u
glued_more l ls loose t u e h =
    let a = append_assoc (l ++ 10 ∷ []) (flat_map (λ (x : List ℕ). x ++ 10 ∷ []) ls) loose in
    a ∙ (λ i. (e i ++ 10 ∷ []) ++ h i)

-- what follows where fittings are due
pub record FitsRead (s end : State) (lines : List (List ℕ)) (loose : List ℕ) (left least : ℕ) : Type 0 where
  pub fits : List Fit
  pub many : length fits ≡ left
  pub text : glued lines loose ≡ flat_map fit_text fits
  pub n : end.n ≡ s.n
  pub rows : end.rows ≡ s.rows
  pub listed : end.fits ≡ s.fits ++ fits
  pub climbs : Climbs least fits

no_answer : (x : TicketFault) → ◌≡◌ {A = Option TicketFault} None (Some x) → ⊥
no_answer x h = let z : ◌≡◌ {A = ℕ} 0 1 = cc in omega arith

fits_end : (s end : State) (at left least : ℕ) (loose : List ℕ) → end ≡ s → None ≡ closing at (FittingLines left least) loose → FitsRead s end [] loose left least
fits_end s end at left least (c ∷ cs) e h = absurd (no_answer (form at) h)
fits_end s end at left least [] e h = go (eqb left 0) refl h
  where
    go : (b : Bool) → eqb left 0 ≡ b → None ≡ cond b None (Some (section at)) → FitsRead s end [] [] left least
    go true q k = record { fits = []; many = sym (eqb-true left 0 q); text = refl; n = ap (λ (x : State). x.n) e; rows = ap (λ (x : State). x.rows) e; listed = ap (λ (x : State). x.fits) e ∙ sym (append-nil s.fits); climbs = tt }
    go false q k = absurd (no_answer (section at) k)

fits_on : (room at : ℕ) (s end t : State) (l : List ℕ) (ls : List (List ℕ)) (loose : List ℕ) (d : Said) (left least : ℕ) → Formed l d → (k : FitStep at s d t left least) → FitsRead t end ls loose (left - 1) (k.fit.number + 1) → FitsRead s end (l ∷ ls) loose left least
fits_on room at s end t l ls loose d left least f k r =
    let g : Formed l (fitting k.fit.number (length k.fit.places) k.fit.places) = subst (Formed l) k.said f in
    let w = read_writes l (fitting k.fit.number (length k.fit.places) k.fit.places) g k.short in
    let a = k.after in
    let b = append_assoc s.fits (k.fit ∷ []) r.fits in
    record {
      fits = k.fit ∷ r.fits;
      many = omega (arith, r.many, k.some);
      text = glued_more l ls loose (line_text (fitting k.fit.number (length k.fit.places) k.fit.places)) (flat_map fit_text r.fits) w r.text;
      n = r.n ∙ ap (λ (x : State). x.n) a;
      rows = r.rows ∙ ap (λ (x : State). x.rows) a;
      listed = r.listed ∙ (ap (λ (x : State). x.fits ++ r.fits) a ∙ b);
      climbs = (k.rises, k.few, r.climbs);
    }

pub accept_fits : (room at : ℕ) (s end : State) (lines : List (List ℕ)) (loose : List ℕ) (left least : ℕ) → s.due ≡ FittingLines left least → Ends room at s lines loose end None → FitsRead s end lines loose left least
accept_fits room at s end [] loose left least e h = fits_end s end at left least loose h.0 (h.1 ∙ ap (λ (x : Due). closing at x loose) e)
accept_fits room at s end (l ∷ ls) loose left least e (None, f, a) = absurd (no_answer (form at) a.1)
accept_fits room at s end (l ∷ ls) loose left least e (Some d, f, a) = go (step room at s d) refl a (λ t x y. accept_fits room (at + 1) t end ls loose x y)
  where
    go : (x : Step) → step room at s d ≡ x → After x (λ t. Ends room (at + 1) t ls loose end None) s end None → ((t : State) (p q : ℕ) → t.due ≡ FittingLines p q → Ends room (at + 1) t ls loose end None → FitsRead t end ls loose p q) → FitsRead s end (l ∷ ls) loose left least
    go (Ok t) q b rec =
        let k = fit_step room at s d t left least e q in
        fits_on room at s end t l ls loose d left least f k (rec t (left - 1) (k.fit.number + 1) (ap (λ (x : State). x.due) k.after) b)
    go (Err x) q b rec = absurd (no_answer x b.1)

-- a duct that is taken
pub record RowStep (s : State) (d : Said) (t : State) (left : ℕ) : Type 0 where
  pub row : Row
  pub said : d ≡ duct row.first row.second row.length
  pub after : t ≡ record { n = s.n; rows = s.rows ++ row ∷ []; fits = s.fits; due = DuctLines (left - 1) }
  pub short : Short (row.first ∷ row.second ∷ row.length ∷ [])
  pub some : 0 < left

-- a number of fittings that is taken
pub record CountStep (s : State) (d : Said) (t : State) (left : ℕ) : Type 0 where
  pub count : ℕ
  pub said : d ≡ fittings count
  pub after : t ≡ record { n = s.n; rows = s.rows; fits = s.fits; due = FittingLines count 0 }
  pub short : Short (count ∷ [])
  pub none : left ≡ 0

row_step : (room at : ℕ) (s : State) (d : Said) (t : State) (left : ℕ) → s.due ≡ DuctLines left → step room at s d ≡ Ok t → RowStep s d t left ⊎ CountStep s d t left
row_step room at s (places v) t left e h = absurd (not_section at t (subst (λ (x : Due). places_step at x v ≡ Ok t) e h))
row_step room at s (ducts v) t left e h = absurd (not_section at t (subst (λ (x : Due). ducts_step at s x v ≡ Ok t) e h))
row_step room at s (fitting f c ps) t left e h = absurd (not_section at t (subst (λ (x : Due). fitting_step at s x f c ps ≡ Ok t) e h))
row_step room at s (duct a b l) t left e h =
    let k0 = subst (λ (x : Due). duct_step room at s x a b l ≡ Ok t) e h in
    let k1 = passed (eqb left 0) (section at) _ t k0 in
    let k2 = passed (ltb 9999999 a) (limit at 1) _ t k1.1 in
    let k3 = passed (ltb 9999999 b) (limit at 2) _ t k2.1 in
    let k4 = passed (ltb 9999999 l) (limit at 3) _ t k3.1 in
    let k5 = by_frame_ok at _ _ t k4.1 in
    let s1 = ltb-false 9999999 a k2.0 in
    let s2 = ltb-false 9999999 b k3.0 in
    let s3 = ltb-false 9999999 l k4.0 in
    let z : left ≡ 0 → ⊥ = eqb-false left 0 k1.0 in
    inl (record { row = record { first = a; second = b; length = l }; said = refl; after = sym k5.1; short = (omega arith, (omega arith, (omega arith, tt))); some = omega arith })
row_step room at s (fittings v) t left e h =
    let k0 = subst (λ (x : Due). fittings_step at s x v ≡ Ok t) e h in
    let k1 = passed (not (eqb left 0)) (section at) _ t k0 in
    let k2 = passed (ltb 64 v) (limit at 1) _ t k1.1 in
    let s1 = ltb-false 64 v k2.0 in
    let w = k2.1 in
    inr (record { count = v; said = refl; after = cc; short = (omega arith, tt); none = eqb-true left 0 (not-false (eqb left 0) k1.0) })

-- what follows where ducts are due
pub record RowsRead (s end : State) (lines : List (List ℕ)) (loose : List ℕ) (left : ℕ) : Type 0 where
  pub laid : List Row
  pub fits : List Fit
  pub many : length laid ≡ left
  pub text : glued lines loose ≡ flat_map duct_text laid ++ (ended (fittings (length fits)) ++ flat_map fit_text fits)
  pub n : end.n ≡ s.n
  pub rows : end.rows ≡ s.rows ++ laid
  pub listed : end.fits ≡ s.fits ++ fits
  pub climbs : Climbs 0 fits

rows_on : (s end t : State) (l : List ℕ) (ls : List (List ℕ)) (loose : List ℕ) (d : Said) (left : ℕ) → Formed l d → RowStep s d t left → RowsRead t end ls loose (left - 1) → RowsRead s end (l ∷ ls) loose left
rows_on s end t l ls loose d left f k r =
    let row = k.row in
    let w = read_writes l (duct row.first row.second row.length) (subst (Formed l) k.said f) k.short in
    let a = k.after in
    let b = append_assoc s.rows (row ∷ []) r.laid in
    let tail = ended (fittings (length r.fits)) ++ flat_map fit_text r.fits in
    record {
      laid = row ∷ r.laid;
      fits = r.fits;
      many = omega (arith, r.many, k.some);
      text = glued_more l ls loose (line_text (duct row.first row.second row.length)) (flat_map duct_text r.laid ++ tail) w r.text ∙ sym (append_assoc (duct_text row) (flat_map duct_text r.laid) tail);
      n = r.n ∙ ap (λ (x : State). x.n) a;
      rows = r.rows ∙ (ap (λ (x : State). x.rows ++ r.laid) a ∙ b);
      listed = r.listed ∙ ap (λ (x : State). x.fits ++ r.fits) a;
      climbs = r.climbs;
    }

count_on : (s end t : State) (l : List ℕ) (ls : List (List ℕ)) (loose : List ℕ) (d : Said) (left : ℕ) → Formed l d → (k : CountStep s d t left) → FitsRead t end ls loose k.count 0 → RowsRead s end (l ∷ ls) loose left
count_on s end t l ls loose d left f k r =
    let w = read_writes l (fittings k.count) (subst (Formed l) k.said f) k.short in
    let a = k.after in
    let q : line_text (fittings k.count) ≡ line_text (fittings (length r.fits)) = ap (λ (x : ℕ). line_text (fittings x)) (sym r.many) in
    record {
      laid = [];
      fits = r.fits;
      many = sym k.none;
      text = glued_more l ls loose (line_text (fittings (length r.fits))) (flat_map fit_text r.fits) (w ∙ q) r.text;
      n = r.n ∙ ap (λ (x : State). x.n) a;
      rows = r.rows ∙ (ap (λ (x : State). x.rows) a ∙ sym (append-nil s.rows));
      listed = r.listed ∙ ap (λ (x : State). x.fits ++ r.fits) a;
      climbs = r.climbs;
    }

rows_end : (at left : ℕ) (loose : List ℕ) → None ≡ closing at (DuctLines left) loose → ⊥
rows_end at left [] h = no_answer (section at) h
rows_end at left (c ∷ cs) h = no_answer (form at) h

pub accept_rows : (room at : ℕ) (s end : State) (lines : List (List ℕ)) (loose : List ℕ) (left : ℕ) → s.due ≡ DuctLines left → Ends room at s lines loose end None → RowsRead s end lines loose left
accept_rows room at s end [] loose left e h = absurd (rows_end at left loose (h.1 ∙ ap (λ (x : Due). closing at x loose) e))
accept_rows room at s end (l ∷ ls) loose left e (None, f, a) = absurd (no_answer (form at) a.1)
accept_rows room at s end (l ∷ ls) loose left e (Some d, f, a) = go (step room at s d) refl a (λ t x. accept_rows room (at + 1) t end ls loose x)
  where
    by : (t : State) → RowStep s d t left ⊎ CountStep s d t left → Ends room (at + 1) t ls loose end None → ((u : State) (p : ℕ) → u.due ≡ DuctLines p → Ends room (at + 1) u ls loose end None → RowsRead u end ls loose p) → RowsRead s end (l ∷ ls) loose left
    by t (inl k) b rec = rows_on s end t l ls loose d left f k (rec t (left - 1) (ap (λ (x : State). x.due) k.after) b)
    by t (inr k) b rec = count_on s end t l ls loose d left f k (accept_fits room (at + 1) t end ls loose k.count 0 (ap (λ (x : State). x.due) k.after) b)

    go : (x : Step) → step room at s d ≡ x → After x (λ t. Ends room (at + 1) t ls loose end None) s end None → ((u : State) (p : ℕ) → u.due ≡ DuctLines p → Ends room (at + 1) u ls loose end None → RowsRead u end ls loose p) → RowsRead s end (l ∷ ls) loose left
    go (Ok t) q b rec = by t (row_step room at s d t left e q) b rec
    go (Err x) q b rec = absurd (no_answer x b.1)

-- the number of ducts that is taken
pub record DuctsStep (s : State) (d : Said) (t : State) : Type 0 where
  pub count : ℕ
  pub said : d ≡ ducts count
  pub after : t ≡ record { n = s.n; rows = s.rows; fits = s.fits; due = DuctLines count }
  pub short : Short (count ∷ [])

ducts_taken : (room at : ℕ) (s : State) (d : Said) (t : State) → s.due ≡ DuctsLine → step room at s d ≡ Ok t → DuctsStep s d t
ducts_taken room at s (places v) t e h = absurd (not_section at t (subst (λ (x : Due). places_step at x v ≡ Ok t) e h))
ducts_taken room at s (duct a b l) t e h = absurd (not_section at t (subst (λ (x : Due). duct_step room at s x a b l ≡ Ok t) e h))
ducts_taken room at s (fittings v) t e h = absurd (not_section at t (subst (λ (x : Due). fittings_step at s x v ≡ Ok t) e h))
ducts_taken room at s (fitting f c ps) t e h = absurd (not_section at t (subst (λ (x : Due). fitting_step at s x f c ps ≡ Ok t) e h))
ducts_taken room at s (ducts v) t e h =
    let k0 = subst (λ (x : Due). ducts_step at s x v ≡ Ok t) e h in
    let k1 = passed (ltb 16384 v) (limit at 1) _ t k0 in
    let s1 = ltb-false 16384 v k1.0 in
    let w = k1.1 in
    record { count = v; said = refl; after = cc; short = (omega arith, tt) }

-- the number of places that is taken
pub record PlacesStep (d : Said) (t : State) : Type 0 where
  pub count : ℕ
  pub said : d ≡ places count
  pub after : t ≡ record { n = count; rows = []; fits = []; due = DuctsLine }
  pub short : Short (count ∷ [])

places_taken : (room at : ℕ) (d : Said) (t : State) → step room at opening d ≡ Ok t → PlacesStep d t
places_taken room at (ducts v) t h = absurd (not_section at t h)
places_taken room at (duct a b l) t h = absurd (not_section at t h)
places_taken room at (fittings v) t h = absurd (not_section at t h)
places_taken room at (fitting f c ps) t h = absurd (not_section at t h)
places_taken room at (places v) t h =
    let k1 = passed (ltb 9999999 v) (limit at 1) _ t h in
    let k2 = by_frame_ok at _ _ t k1.1 in
    let s1 = ltb-false 9999999 v k1.0 in
    record { count = v; said = refl; after = sym k2.1; short = (omega arith, tt) }

-- what a whole ticket is
pub record Whole (end : State) (lines : List (List ℕ)) (loose : List ℕ) : Type 0 where
  pub text : glued lines loose ≡ ticket_text end.n end.rows end.fits
  pub climbs : Climbs 0 end.fits

-- behind the number of places
pub record Rest (s end : State) (lines : List (List ℕ)) (loose : List ℕ) : Type 0 where
  pub laid : List Row
  pub fits : List Fit
  pub text : glued lines loose ≡ ended (ducts (length laid)) ++ (flat_map duct_text laid ++ (ended (fittings (length fits)) ++ flat_map fit_text fits))
  pub n : end.n ≡ s.n
  pub rows : end.rows ≡ s.rows ++ laid
  pub listed : end.fits ≡ s.fits ++ fits
  pub climbs : Climbs 0 fits

accept_rest : (room at : ℕ) (s end : State) (lines : List (List ℕ)) (loose : List ℕ) → s.due ≡ DuctsLine → Ends room at s lines loose end None → Rest s end lines loose
accept_rest room at s end [] [] e h = absurd (no_answer (section at) (h.1 ∙ ap (λ (x : Due). closing at x []) e))
accept_rest room at s end [] (c ∷ cs) e h = absurd (no_answer (form at) (h.1 ∙ ap (λ (x : Due). closing at x (c ∷ cs)) e))
accept_rest room at s end (l ∷ ls) loose e (None, f, a) = absurd (no_answer (form at) a.1)
accept_rest room at s end (l ∷ ls) loose e (Some d, f, a) = go (step room at s d) refl a
  where
    on : (t : State) → DuctsStep s d t → Ends room (at + 1) t ls loose end None → Rest s end (l ∷ ls) loose
    on t k b =
        let w = read_writes l (ducts k.count) (subst (Formed l) k.said f) k.short in
        let r = accept_rows room (at + 1) t end ls loose k.count (ap (λ (x : State). x.due) k.after) b in
        let q : line_text (ducts k.count) ≡ line_text (ducts (length r.laid)) = ap (λ (x : ℕ). line_text (ducts x)) (sym r.many) in
        record {
          laid = r.laid;
          fits = r.fits;
          text = glued_more l ls loose (line_text (ducts (length r.laid))) (flat_map duct_text r.laid ++ (ended (fittings (length r.fits)) ++ flat_map fit_text r.fits)) (w ∙ q) r.text;
          n = r.n ∙ ap (λ (x : State). x.n) k.after;
          rows = r.rows ∙ ap (λ (x : State). x.rows ++ r.laid) k.after;
          listed = r.listed ∙ ap (λ (x : State). x.fits ++ r.fits) k.after;
          climbs = r.climbs;
        }

    go : (x : Step) → step room at s d ≡ x → After x (λ t. Ends room (at + 1) t ls loose end None) s end None → Rest s end (l ∷ ls) loose
    go (Ok t) q b = on t (ducts_taken room at s d t e q) b
    go (Err x) q b = absurd (no_answer x b.1)

pub accept_all : (room : ℕ) (end : State) (lines : List (List ℕ)) (loose : List ℕ) → Ends room 1 opening lines loose end None → Whole end lines loose
unfolding ticket_text
accept_all room end [] [] h = absurd (no_answer (section 1) h.1)
accept_all room end [] (c ∷ cs) h = absurd (no_answer (form 1) h.1)
accept_all room end (l ∷ ls) loose (None, f, a) = absurd (no_answer (form 1) a.1)
accept_all room end (l ∷ ls) loose (Some d, f, a) = go (step room 1 opening d) refl a
  where
    on : (t : State) → PlacesStep d t → Ends room (1 + 1) t ls loose end None → Whole end (l ∷ ls) loose
    on t k b =
        let w = read_writes l (places k.count) (subst (Formed l) k.said f) k.short in
        let r = accept_rest room (1 + 1) t end ls loose (ap (λ (x : State). x.due) k.after) b in
        let n : end.n ≡ k.count = r.n ∙ ap (λ (x : State). x.n) k.after in
        let rs : end.rows ≡ r.laid = r.rows ∙ ap (λ (x : State). x.rows ++ r.laid) k.after in
        let fs : end.fits ≡ r.fits = r.listed ∙ ap (λ (x : State). x.fits ++ r.fits) k.after in
        let e : ticket_text k.count r.laid r.fits ≡ ticket_text end.n end.rows end.fits = sym (λ i. ticket_text (n i) (rs i) (fs i)) in
        record {
          text = glued_more l ls loose (line_text (places k.count)) (ended (ducts (length r.laid)) ++ (flat_map duct_text r.laid ++ (ended (fittings (length r.fits)) ++ flat_map fit_text r.fits))) w r.text ∙ e;
          climbs = subst (Climbs 0) (sym fs) r.climbs;
        }

    go : (x : Step) → step room 1 opening d ≡ x → After x (λ t. Ends room (1 + 1) t ls loose end None) opening end None → Whole end (l ∷ ls) loose
    go (Ok t) q b = on t (places_taken room 1 d t q) b
    go (Err x) q b = absurd (no_answer x b.1)

-- lines and the loose piece are all the bytes
glued_onto : (c : ℕ) (lines : List (List ℕ)) (loose : List ℕ) → glued (onto c lines loose).lines (onto c lines loose).loose ≡ c ∷ glued lines loose
glued_onto c [] loose = refl
glued_onto c (l ∷ ls) loose = refl

pub glued_cut : (bytes : List ℕ) → glued (cut bytes).lines (cut bytes).loose ≡ bytes
glued_cut [] = refl
glued_cut (c ∷ cs) = go (eqb c 10) refl (glued_cut cs)
  where
    go : (b : Bool) → eqb c 10 ≡ b → glued (cut cs).lines (cut cs).loose ≡ cs → glued (cond b (record { lines = [] ∷ (cut cs).lines; loose = (cut cs).loose }) (onto c (cut cs).lines (cut cs).loose)).lines (cond b (record { lines = [] ∷ (cut cs).lines; loose = (cut cs).loose }) (onto c (cut cs).lines (cut cs).loose)).loose ≡ c ∷ cs
    go true e i = let q = eqb-true c 10 e in (ap (λ (x : List ℕ). 10 ∷ x) i ∙ ap (λ (x : ℕ). x ∷ cs) (sym q))
    go false e i = glued_onto c (cut cs).lines (cut cs).loose ∙ ap (λ (x : List ℕ). c ∷ x) i
