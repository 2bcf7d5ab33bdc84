use Rattle.std.proofs.Common.{◌≡◌, ℕ, List, length, Vec, sym, ◌∙◌, subst, arith, rules}
use Rattle.std.specs.List.{flat_map}
use Rattle.std.specs.declared.alloc.Global.{Global}
use Rattle.ways.specs.declared.row.Row.{Row}
use Rattle.frame.specs.Of.{places_of, rows_of}
use Rattle.job.specs.Held.{held}
use Rattle.lines.specs.Pages.{Adds, Puts}
use Rattle.lines.specs.Said.{places, ducts, fittings}
use Rattle.ticket.specs.Tickets.{Wrote, ended, duct_text, fit_text, fits_of, ticket_text, text_of}
use Rattle.ticket.proofs.Pages.{adds_five, fits_count}
use Rattle.ticket.proofs.write.write_text.Goals as goal

pub returns-clause-wrote : goal.returns-clause-wrote
unfolding ticket_text
returns-clause-wrote c =
    let f = c.args.frame.now in
    let page0 = c.new-page.result in
    let page1 = c.line.new.self in
    let page2 = c.line-2.new.self in
    let page3 = c.write_ducts.new.page in
    let page4 = c.line-3.new.self in
    let page5 = c.write_fittings.new.page in
    let many : c.count.result ≡ length (fits_of c.args.job.now) = c.count.ensures.value ∙ sym (fits_count 64 (held c.args.job.now)) in
    let all = adds_five page0 page1 page2 page3 page4 page5
    (ended (places (places_of f))) (ended (ducts (length (rows_of f)))) (flat_map duct_text (rows_of f)) (ended (fittings (length (fits_of c.args.job.now)))) (flat_map fit_text (fits_of c.args.job.now))
    (subst (λ (n : ℕ). Adds page0 page1 (ended (places n))) c.places.ensures.value c.line.ensures)
    (subst (λ (n : ℕ). Adds page1 page2 (ended (ducts n))) c.len.ensures.value c.line-2.ensures)
    (subst (λ (rs : List Row). Adds page2 page3 (flat_map duct_text rs)) c.rows.ensures.value c.write_ducts.ensures)
    (subst (λ (n : ℕ). Adds page3 page4 (ended (fittings n))) many c.line-3.ensures)
    c.write_fittings.ensures in
    let puts = subst (λ (v : Vec ℕ Global). Puts v page5.out.now (text_of f c.args.job.now)) c.new-page.ensures.out all.puts in
    let same = all.same in
    let name = c.new-page.ensures.same in
    let wrote : Wrote c.args.out.now page5.out.now c.count-2.result (text_of f c.args.job.now) = record { puts = puts; long = omega (arith, all.long, c.new-page.ensures.count, c.count-2.ensures) } in
    subst (λ (v : Vec ℕ Global). Wrote c.args.out.now v c.count-2.result (text_of f c.args.job.now)) (search rules) wrote
