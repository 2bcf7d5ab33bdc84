-- How long the text of a ticket can be. Assumes nothing.
use Rattle.std.proofs.Common.{ℕ, ◌+◌, ◌*◌, ◌^◌, ◌<◌, ◌≤◌, List, [], ◌∷◌, ◌++◌, length, decimal, arith}
use Rattle.std.proofs.lemmas.Fmt.{length-decimal-le}
use Rattle.std.proofs.lemmas.List.{length-append, length_push}
use Rattle.std.specs.List.{flat_map, AllByRecursion}
use Rattle.ways.specs.declared.row.Row.{Row}
use Rattle.ways.specs.Way.{Lawful}
use Rattle.job.specs.Places.{Fitted}
use Rattle.lines.specs.Said.{Said, places, ducts, duct, fittings, fitting, numbers_of, line_text}
use Rattle.lines.specs.Text.{Short, tail_text}
use Rattle.ticket.specs.Steps.{Fit}
use Rattle.ticket.specs.Tickets.{ended, duct_text, fit_text, ticket_text, Climbs, LawfulTicket}
use Rattle.ticket.proofs.Returns.{short_row, short_fit, climbs_few}

-- a blank and at most seven digits for each number
length_tail : (ns : List ℕ) → Short ns → length (tail_text ns) ≤ 8 * length ns
length_tail [] s = omega arith
length_tail (n ∷ ns) s =
    omega (arith, length_tail ns s.1, length-append (decimal n) (tail_text ns), length-decimal-le 7 n (omega arith) s.0 (omega (arith, s.0)))

length_ended : (s : Said) → Short (numbers_of s) → length (ended s) ≤ 2 + 8 * length (numbers_of s)
length_ended s h = omega (arith, length_push (line_text s) 10, length_tail (numbers_of s) h)

length_rows : (n : ℕ) (rows : List Row) → n ≤ 4096 → Lawful n rows → length (flat_map duct_text rows) ≤ 26 * length rows
length_rows n [] l h = omega arith
length_rows n (r ∷ rs) l h =
    omega (arith, length_rows n rs l h.1, length-append (duct_text r) (flat_map duct_text rs), length_ended (duct r.first r.second r.length) (short_row n r l h.0))

length_fits : (n least : ℕ) (fits : List Fit) → n ≤ 4096 → Climbs least fits → AllByRecursion (λ f. Fitted n f.places) fits → length (flat_map fit_text fits) ≤ 146 * length fits
length_fits n least [] l c h = omega arith
length_fits n least (f ∷ fs) l c h =
    omega (arith, length_fits n (f.number + 1) fs l c.2 h.1, length-append (fit_text f) (flat_map fit_text fs), length_ended (fitting f.number (length f.places) f.places) (short_fit n f l c.1 h.0), h.0.few)

-- a ticket is no longer than 64 bits can tell
pub length_ticket : (room n : ℕ) (rows : List Row) (fits : List Fit) → LawfulTicket room n rows fits → length (ticket_text n rows fits) < 2 ^ 63
unfolding ticket_text
length_ticket room n rows fits k =
    let few = k.sound.few in
    let many = k.sound.few_ducts in
    let kinds = climbs_few 0 fits (omega arith) k.climbs in
    let p = length_ended (places n) (omega arith, tt) in
    let d = length_ended (ducts (length rows)) (omega arith, tt) in
    let f = length_ended (fittings (length fits)) (omega arith, tt) in
    let r = length_rows n rows few k.sound.lawful in
    let t = length_fits n 0 fits few k.climbs k.fitted in
    let a1 = length-append (ended (fittings (length fits))) (flat_map fit_text fits) in
    let a2 = length-append (flat_map duct_text rows) (ended (fittings (length fits)) ++ flat_map fit_text fits) in
    let a3 = length-append (ended (ducts (length rows))) (flat_map duct_text rows ++ (ended (fittings (length fits)) ++ flat_map fit_text fits)) in
    let a4 = length-append (ended (places n)) (ended (ducts (length rows)) ++ (flat_map duct_text rows ++ (ended (fittings (length fits)) ++ flat_map fit_text fits))) in
    omega arith
