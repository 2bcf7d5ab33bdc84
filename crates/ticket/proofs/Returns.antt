-- The text of what a ticket may hold is accepted. Assumes nothing.
use Rattle.std.proofs.Common.{◌≡◌, ℕ, suc, ◌+◌, ◌-◌, ◌<◌, ◌≤◌, Bool, true, false, not, ◌&&◌, eqb, ltb, List, [], ◌∷◌, ◌++◌, length, Some, None, Ok, decimal, Option, sym, refl, ap, ◌∙◌, subst, arith}
use Rattle.std.proofs.lemmas.Fmt.{decimal_is_IsNumeral}
use Rattle.std.proofs.ByRecursion.{All-get_or, All-from_get_or, All-append}
use Rattle.std.proofs.lemmas.List.{append_assoc, append-nil, length-append, get_or_append_left, get_or_at}
use Rattle.std.proofs.lemmas.Str.Parse.{digit_at}
use Rattle.std.proofs.lemmas.Bool.{le-ltb, lt-ltb, lt-leb, eq-eqb, ne_eqb, eqb-true, not_from_true, or_from, cond-true, cond-false}
use Rattle.std.specs.List.{flat_map, AllByRecursion}
use Rattle.ways.specs.declared.row.Row.{Row}
use Rattle.ways.specs.Places.{AllBelow}
use Rattle.ways.specs.Way.{LawfulDuct, Lawful}
use Rattle.frame.specs.Rows.{no_row, row_at, paired, Sound}
use Rattle.frame.specs.Verdict.{Verdict, places_verdict, verdict}
use Rattle.job.specs.Day.{adds, put}
use Rattle.job.specs.Day as day
use Rattle.job.specs.Places.{Fitted}
use Rattle.job.proofs.Verdicts.{accepted_add}
use Rattle.lines.specs.Said.{Said, places, ducts, duct, fittings, fitting, letter_of, numbers_of, line_text, shorts}
use Rattle.lines.specs.Text.{Unbroken, Short, tail_text}
use Rattle.lines.proofs.Texts.{written_reads, read_once}
use Rattle.ticket.specs.declared.due.Due.{Due}
use Rattle.ticket.specs.declared.due.Due.TheVariants.{DuctsLine, DuctLines, FittingLines}
use Rattle.ticket.specs.declared.fault.TicketFault.{TicketFault}
use Rattle.ticket.specs.Faults.{section, limit}
use Rattle.ticket.specs.Steps.{Fit, standing, State, Step, opening, by_frame, by_job, duct_step, fittings_step, fitting_step, step}
use Rattle.ticket.specs.Runs.{Cut, cut, closing, After, Told, step_told, Ends}
use Rattle.ticket.specs.Tickets.{ended, duct_text, fit_text, ticket_text, Climbs, LawfulTicket}
use Rattle.ticket.proofs.Along.{cut_line}
use Rattle.ticket.proofs.Moves.{not_refused, standing_push}

-- no byte 10 in the text of a line
abbrev NoEnd : List ℕ → Type 0
NoEnd xs = AllByRecursion (λ c. c ≡ 10 → ⊥) xs

no_end_decimal : (n : ℕ) → n < 10000000 → NoEnd (decimal n)
no_end_decimal n l = All-from_get_or (λ (c : ℕ). c ≡ 10 → ⊥) (decimal n) 0 (λ k b e. omega (arith, digit_at (decimal n) k (decimal_is_IsNumeral n (omega arith)).0.1 b))

no_end_tail : (ns : List ℕ) → Short ns → NoEnd (tail_text ns)
no_end_tail [] s = tt
no_end_tail (n ∷ ns) s = (λ e. omega arith, All-append (λ (c : ℕ). c ≡ 10 → ⊥) (decimal n) (tail_text ns) (no_end_decimal n s.0) (no_end_tail ns s.1))

no_end_letter : (s : Said) → letter_of s ≡ 10 → ⊥
no_end_letter (places n) e = omega arith
no_end_letter (ducts n) e = omega arith
no_end_letter (duct a b l) e = omega arith
no_end_letter (fittings n) e = omega arith
no_end_letter (fitting f c ps) e = omega arith

unbroken : (s : Said) → Short (numbers_of s) → Unbroken (line_text s)
unbroken s h k b = All-get_or (λ (c : ℕ). c ≡ 10 → ⊥) (line_text s) k 0 b (no_end_letter s, no_end_tail (numbers_of s) h)

-- the first line of a text that begins with a line
cut_ended : (s : Said) (more : List ℕ) → Short (numbers_of s) → cut (ended s ++ more) ≡ record { lines = line_text s ∷ (cut more).lines; loose = (cut more).loose }
cut_ended s more h = ap cut (append_assoc (line_text s) (10 ∷ []) more) ∙ cut_line (line_text s) more (unbroken s h)

-- the text of a line says that line
told_is : (s : Said) (o : Option Said) → Short (numbers_of s) → Told (line_text s) o → o ≡ Some s
told_is s None h t = absurd (t s (written_reads s h))
told_is s (Some d) h t = ap (λ (x : Said). Some x) (read_once (line_text s) d s t (written_reads s h))

-- a line that is taken leads on
onward : (room at : ℕ) (s t end : State) (d : Said) (more bytes : List ℕ) (answer : Option TicketFault) → bytes ≡ ended d ++ more → Short (numbers_of d) → step room at s d ≡ Ok t → Ends room at s (cut bytes).lines (cut bytes).loose end answer → Ends room (at + 1) t (cut more).lines (cut more).loose end answer
onward room at s t end d more bytes answer e h q r =
    let c : cut bytes ≡ record { lines = line_text d ∷ (cut more).lines; loose = (cut more).loose } = ap cut e ∙ cut_ended d more h in
    let k : Ends room at s (line_text d ∷ (cut more).lines) (cut more).loose end answer = subst (λ (x : Cut). Ends room at s x.lines x.loose end answer) c r in
    let o : step_told room at s k.0 ≡ Ok t = ap (step_told room at s) (told_is d k.0 h k.1) ∙ q in
    subst (λ (x : Step). After x (λ u. Ends room (at + 1) u (cut more).lines (cut more).loose end answer) s end answer) o k.2

short_below : (n : ℕ) (ps : List ℕ) → n ≤ 4096 → AllBelow n ps → Short ps
short_below n [] l a = tt
short_below n (p ∷ ps) l a = (omega (arith, a.0), short_below n ps l a.1)

all_shorts : (ps : List ℕ) → Short ps → shorts ps ≡ length ps
all_shorts [] s = refl
all_shorts (p ∷ ps) s = cond-true (ltb p 10000000) (1 + shorts ps) 0 (lt-ltb p 10000000 s.0) ∙ omega (arith, all_shorts ps s.1)

-- what a reading came to
pub record Came (end : State) (answer : Option TicketFault) (n : ℕ) (rows : List Row) (fits : List Fit) : Type 0 where
  pub accepted : answer ≡ None
  pub n_is : end.n ≡ n
  pub rows_are : end.rows ≡ rows
  pub fits_are : end.fits ≡ fits

pub short_fit : (n : ℕ) (f : Fit) → n ≤ 4096 → f.number < 64 → Fitted n f.places → Short (f.number ∷ length f.places ∷ f.places)
short_fit n f l m k = (omega arith, (omega (arith, k.few), short_below n f.places l k.inside))

take_fit : (room at : ℕ) (s : State) (f : Fit) (left least : ℕ) → s.due ≡ FittingLines left least → (left ≡ 0 → ⊥) → least ≤ f.number → f.number < 64 → s.n ≤ 4096 → Fitted s.n f.places → standing s.fits f.number ≡ None → step room at s (fitting f.number (length f.places) f.places) ≡ Ok (record { n = s.n; rows = s.rows; fits = s.fits ++ f ∷ []; due = FittingLines (left - 1) (f.number + 1) })
take_fit room at s f left least e z r m l k u =
    let ps = f.places in
    let t : State = record { n = s.n; rows = s.rows; fits = s.fits ++ f ∷ []; due = FittingLines (left - 1) (f.number + 1) } in
    let sh = short_fit s.n f l m k in
    let v : day.verdict s.n (standing s.fits) (adds f.number ps) ≡ None = (accepted_add s.n (standing s.fits) f.number ps).1 (omega arith, k, u) in
    let a = all_shorts ps sh.1.1 in
    let x : fitting_step at s (FittingLines left least) f.number (length ps) ps ≡ Ok t =
    not_refused (eqb left 0) (section at) _ (Ok t) (ne_eqb left 0 z)
    (not_refused (not (eqb (length ps) (length ps))) (section at) _ (Ok t) (not_from_true (eqb (length ps) (length ps)) (eq-eqb (length ps) (length ps) refl))
    (not_refused (ltb f.number least) (section at) _ (Ok t) (le-ltb f.number least r)
    (not_refused (ltb 9999999 f.number) (limit at 1) _ (Ok t) (le-ltb 9999999 f.number (omega arith))
    (not_refused (ltb 63 f.number) _ _ (Ok t) (le-ltb 63 f.number (omega arith))
    (not_refused (ltb 9999999 (length ps)) (limit at 2) _ (Ok t) (le-ltb 9999999 (length ps) (omega (arith, k.few)))
    (not_refused (ltb (shorts ps) (length ps)) (limit at (shorts ps + 3)) _ (Ok t) (le-ltb (shorts ps) (length ps) (omega arith))
    (ap (λ y. by_job at y t) v))))))) in
    subst (λ (y : Due). fitting_step at s y f.number (length ps) ps ≡ Ok t) (sym e) x

still_free : (fs : List Fit) (f : Fit) (k : ℕ) → standing fs f.number ≡ None → standing fs k ≡ None → f.number < k → standing (fs ++ f ∷ []) k ≡ None
still_free fs f k a b l = standing_push fs f.number f.places a k ∙ (cond-false (eqb k f.number) (Some f.places) (standing fs k) (ne_eqb k f.number (λ e. omega arith)) ∙ b)

pub fits_return : (room at : ℕ) (s end : State) (gs : List Fit) (bytes : List ℕ) (left least : ℕ) (answer : Option TicketFault) → bytes ≡ flat_map fit_text gs → s.due ≡ FittingLines left least → left ≡ length gs → s.n ≤ 4096 → Climbs least gs → AllByRecursion (λ f. Fitted s.n f.places) gs → ((k : ℕ) → least ≤ k → standing s.fits k ≡ None) → Ends room at s (cut bytes).lines (cut bytes).loose end answer → Came end answer s.n s.rows (s.fits ++ gs)
fits_return room at s end [] bytes left least answer b e m l c w u r =
    let k : Ends room at s [] [] end answer = subst (λ (x : List ℕ). Ends room at s (cut x).lines (cut x).loose end answer) b r in
    let q : closing at s.due [] ≡ None = ap (λ (x : Due). closing at x []) e ∙ cond-true (eqb left 0) None (Some (section at)) (eq-eqb left 0 m) in
    record { accepted = k.1 ∙ q; n_is = ap (λ (x : State). x.n) k.0; rows_are = ap (λ (x : State). x.rows) k.0; fits_are = ap (λ (x : State). x.fits) k.0 ∙ sym (append-nil s.fits) }
fits_return room at s end (g ∷ gs) bytes left least answer b e m l c w u r =
    let t : State = record { n = s.n; rows = s.rows; fits = s.fits ++ g ∷ []; due = FittingLines (left - 1) (g.number + 1) } in
    let d = fitting g.number (length g.places) g.places in
    let q = take_fit room at s g left least e (λ z. omega arith) c.0 c.1 l w.0 (u g.number c.0) in
    let h = onward room at s t end d (flat_map fit_text gs) bytes answer b (short_fit s.n g l c.1 w.0) q r in
    let i = fits_return room (at + 1) t end gs (flat_map fit_text gs) (left - 1) (g.number + 1) answer refl refl (omega arith) l c.2 w.1 (λ k y. still_free s.fits g k (u g.number c.0) (u k (omega (arith, c.0))) (omega arith)) h in
    record { accepted = i.accepted; n_is = i.n_is; rows_are = i.rows_are; fits_are = i.fits_are ∙ append_assoc s.fits (g ∷ []) gs }

lawful_at : (n : ℕ) (pre : List Row) (r : Row) (post : List Row) → Lawful n (pre ++ r ∷ post) → LawfulDuct n r
lawful_at n [] r post l = l.0
lawful_at n (x ∷ pre) r post l = lawful_at n pre r post l.1

ordered_at : (pre : List Row) (r : Row) (post : List Row) → AllByRecursion (λ d. d.first < d.second) (pre ++ r ∷ post) → r.first < r.second
ordered_at [] r post l = l.0
ordered_at (x ∷ pre) r post l = ordered_at pre r post l.1

unpaired : (ds : List Row) (a b : ℕ) → ((i : ℕ) → i < length ds → (row_at ds i).first ≡ a → (row_at ds i).second ≡ b → ⊥) → paired ds a b ≡ false
unpaired [] a b f = refl
unpaired (d ∷ ds) a b f = or_from (eqb d.first a && eqb d.second b) (paired ds a b) (go (eqb d.first a) (eqb d.second b) refl refl) (unpaired ds a b (λ i l p q. f (suc i) (omega arith) p q))
  where
    go : (x y : Bool) → eqb d.first a ≡ x → eqb d.second b ≡ y → (x && y) ≡ false
    go false y p q = refl
    go true false p q = refl
    go true true p q = absurd (f 0 (omega arith) (eqb-true d.first a p) (eqb-true d.second b q))

-- a row of a sound list is accepted behind those before it
row_accepted : (n room : ℕ) (pre : List Row) (r : Row) (post : List Row) → Sound n (pre ++ r ∷ post) → length pre < room → verdict n room pre r ≡ Ok tt
row_accepted n room pre r post s l =
    let d = lawful_at n pre r post s.lawful in
    let o = ordered_at pre r post s.ordered in
    let all = pre ++ r ∷ post in
    let here : row_at all (length pre) ≡ r = get_or_at pre r post no_row (length pre) refl in
    let fresh : paired pre r.first r.second ≡ false = unpaired pre r.first r.second (λ i b p q.
    let x : row_at all i ≡ row_at pre i = get_or_append_left pre (r ∷ post) no_row i b in
    s.single i (length pre) b (omega (arith, length-append pre (r ∷ post))) (ap (λ (y : Row). y.first) x ∙ (p ∙ ap (λ (y : Row). y.first) (sym here))) (ap (λ (y : Row). y.second) x ∙ (q ∙ ap (λ (y : Row). y.second) (sym here)))) in
    let t1 = le-ltb r.length 1 d.some_length in
    let t2 = le-ltb 1000000 r.length d.no_longer in
    let t3 = lt-leb room (length pre) l in
    let t4 = lt-leb n r.first d.first_in in
    let t5 = lt-leb n r.second d.second_in in
    let t6 = lt-leb r.second r.first o in
    simp (t1, t2, t3, t4, t5, t6, fresh)

pub short_row : (n : ℕ) (r : Row) → n ≤ 4096 → LawfulDuct n r → Short (r.first ∷ r.second ∷ r.length ∷ [])
short_row n r l d = (omega (arith, d.first_in), (omega (arith, d.second_in), (omega (arith, d.no_longer), tt)))

take_row : (room at : ℕ) (s : State) (r : Row) (post : List Row) (left : ℕ) → s.due ≡ DuctLines left → (left ≡ 0 → ⊥) → Sound s.n (s.rows ++ r ∷ post) → length s.rows < room → step room at s (duct r.first r.second r.length) ≡ Ok (record { n = s.n; rows = s.rows ++ r ∷ []; fits = s.fits; due = DuctLines (left - 1) })
take_row room at s r post left e z k l =
    let t : State = record { n = s.n; rows = s.rows ++ r ∷ []; fits = s.fits; due = DuctLines (left - 1) } in
    let d = lawful_at s.n s.rows r post k.lawful in
    let f = k.few in
    let v = row_accepted s.n room s.rows r post k l in
    let x : duct_step room at s (DuctLines left) r.first r.second r.length ≡ Ok t =
    not_refused (eqb left 0) (section at) _ (Ok t) (ne_eqb left 0 z)
    (not_refused (ltb 9999999 r.first) (limit at 1) _ (Ok t) (le-ltb 9999999 r.first (omega (arith, d.first_in)))
    (not_refused (ltb 9999999 r.second) (limit at 2) _ (Ok t) (le-ltb 9999999 r.second (omega (arith, d.second_in)))
    (not_refused (ltb 9999999 r.length) (limit at 3) _ (Ok t) (le-ltb 9999999 r.length (omega (arith, d.no_longer)))
    (ap (λ (y : Verdict). by_frame at y t) v)))) in
    subst (λ (y : Due). duct_step room at s y r.first r.second r.length ≡ Ok t) (sym e) x

pub climbs_few : (l : ℕ) (fs : List Fit) → l ≤ 64 → Climbs l fs → l + length fs ≤ 64
climbs_few l [] h c = omega arith
climbs_few l (f ∷ fs) h c = omega (arith, climbs_few (f.number + 1) fs (omega (arith, c.1)) c.2, c.0)

-- behind the ducts
count_return : (room at : ℕ) (s end : State) (gs : List Fit) (bytes : List ℕ) (left : ℕ) (answer : Option TicketFault) → bytes ≡ ended (fittings (length gs)) ++ flat_map fit_text gs → s.due ≡ DuctLines left → left ≡ 0 → s.n ≤ 4096 → Climbs 0 gs → AllByRecursion (λ f. Fitted s.n f.places) gs → s.fits ≡ [] → Ends room at s (cut bytes).lines (cut bytes).loose end answer → Came end answer s.n s.rows gs
count_return room at s end gs bytes left answer b e z l c w u r =
    let few = climbs_few 0 gs (omega arith) c in
    let t : State = record { n = s.n; rows = s.rows; fits = s.fits; due = FittingLines (length gs) 0 } in
    let x : fittings_step at s (DuctLines left) (length gs) ≡ Ok t =
    not_refused (not (eqb left 0)) (section at) _ (Ok t) (not_from_true (eqb left 0) (eq-eqb left 0 z))
    (not_refused (ltb 64 (length gs)) (limit at 1) (Ok t) (Ok t) (le-ltb 64 (length gs) (omega arith)) refl) in
    let q : step room at s (fittings (length gs)) ≡ Ok t = subst (λ (y : Due). fittings_step at s y (length gs) ≡ Ok t) (sym e) x in
    let h = onward room at s t end (fittings (length gs)) (flat_map fit_text gs) bytes answer b (omega arith, tt) q r in
    let i = fits_return room (at + 1) t end gs (flat_map fit_text gs) (length gs) 0 answer refl refl refl l c w (λ k y. ap (λ (fs : List Fit). standing fs k) u) h in
    record { accepted = i.accepted; n_is = i.n_is; rows_are = i.rows_are; fits_are = i.fits_are ∙ ap (λ (fs : List Fit). fs ++ gs) u }

rows_return : (room at : ℕ) (s end : State) (rs : List Row) (gs : List Fit) (bytes : List ℕ) (left : ℕ) (answer : Option TicketFault) → bytes ≡ flat_map duct_text rs ++ (ended (fittings (length gs)) ++ flat_map fit_text gs) → s.due ≡ DuctLines left → left ≡ length rs → Sound s.n (s.rows ++ rs) → length (s.rows ++ rs) ≤ room → Climbs 0 gs → AllByRecursion (λ f. Fitted s.n f.places) gs → s.fits ≡ [] → Ends room at s (cut bytes).lines (cut bytes).loose end answer → Came end answer s.n (s.rows ++ rs) gs
rows_return room at s end [] gs bytes left answer b e m k l c w u r =
    let i = count_return room at s end gs bytes left answer b e m k.few c w u r in
    record { accepted = i.accepted; n_is = i.n_is; rows_are = i.rows_are ∙ sym (append-nil s.rows); fits_are = i.fits_are }
rows_return room at s end (x ∷ rs) gs bytes left answer b e m k l c w u r =
    let t : State = record { n = s.n; rows = s.rows ++ x ∷ []; fits = s.fits; due = DuctLines (left - 1) } in
    let tail = ended (fittings (length gs)) ++ flat_map fit_text gs in
    let one : (s.rows ++ x ∷ []) ++ rs ≡ s.rows ++ x ∷ rs = append_assoc s.rows (x ∷ []) rs in
    let q = take_row room at s x rs left e (λ z. omega arith) k (omega (arith, l, length-append s.rows (x ∷ rs))) in
    let h = onward room at s t end (duct x.first x.second x.length) (flat_map duct_text rs ++ tail) bytes answer (b ∙ append_assoc (duct_text x) (flat_map duct_text rs) tail) (short_row s.n x k.few (lawful_at s.n s.rows x rs k.lawful)) q r in
    let i = rows_return room (at + 1) t end rs gs (flat_map duct_text rs ++ tail) (left - 1) answer refl refl (omega arith) (subst (Sound s.n) (sym one) k) (omega (arith, l, ap length one)) c w u h in
    record { accepted = i.accepted; n_is = i.n_is; rows_are = i.rows_are ∙ one; fits_are = i.fits_are }

pub ticket_return : (room : ℕ) (end : State) (n : ℕ) (rows : List Row) (fits : List Fit) (bytes : List ℕ) (answer : Option TicketFault) → LawfulTicket room n rows fits → bytes ≡ ticket_text n rows fits → Ends room 1 opening (cut bytes).lines (cut bytes).loose end answer → Came end answer n rows fits
unfolding ticket_text
ticket_return room end n rows fits bytes answer k b r =
    let few = k.sound.few in
    let some = k.some in
    let many = k.sound.few_ducts in
    let rest = flat_map duct_text rows ++ (ended (fittings (length fits)) ++ flat_map fit_text fits) in
    let t1 : State = record { n = n; rows = []; fits = []; due = DuctsLine } in
    let t2 : State = record { n = n; rows = []; fits = []; due = DuctLines (length rows) } in
    let v : places_verdict n ≡ Ok tt = (let y1 = le-ltb n 1 some in let y2 = le-ltb 4096 n few in simp (y1, y2)) in
    let q1 : step room 1 opening (places n) ≡ Ok t1 = not_refused (ltb 9999999 n) (limit 1 1) _ (Ok t1) (le-ltb 9999999 n (omega arith)) (ap (λ (y : Verdict). by_frame 1 y t1) v) in
    let h1 = onward room 1 opening t1 end (places n) (ended (ducts (length rows)) ++ rest) bytes answer b (omega arith, tt) q1 r in
    let q2 : step room (1 + 1) t1 (ducts (length rows)) ≡ Ok t2 = not_refused (ltb 16384 (length rows)) (limit (1 + 1) 1) (Ok t2) (Ok t2) (le-ltb 16384 (length rows) many) refl in
    let h2 = onward room (1 + 1) t1 t2 end (ducts (length rows)) rest (ended (ducts (length rows)) ++ rest) answer refl (omega arith, tt) q2 h1 in
    rows_return room (1 + 1 + 1) t2 end rows fits rest (length rows) answer refl refl refl k.sound k.inside k.climbs k.fitted refl h2
