use Rattle.std.proofs.Common.{◌≡◌, ℕ, ◌<◌, ◌≤◌, length, take, drop, ap, ◌∙◌, arith}
use Rattle.std.proofs.lemmas.Grind.{common_steps}
use Rattle.std.proofs.lemmas.List.{length-take-le}
use Rattle.frame.specs.Of.{places_of, rows_of}
use Rattle.frame.proofs.Facts.{closed_lawful}
use Rattle.search.specs.State.{lit}
use Rattle.search.proofs.Parts.{found}
use Rattle.search.proofs.search.search.Goals as goal

pub returns-clause-searched : goal.returns-clause-searched
returns-clause-searched c =
    let f = c.args.frame.now in
    let old = c.args.records.now in
    let n : c.places-places.result ≡ places_of f = c.places-places.ensures.value in
    let few : c.places-places.result ≤ length old = grind (arith, common_steps) in
    let inside : c.args.source < places_of f = grind (arith, common_steps) in
    let long : length c.run.new.records ≡ places_of f = c.run.auto.records ∙ length-take-le c.places-places.result old few ∙ n in
    found (places_of f) (rows_of f) c.args.source old c.run.new.records (drop c.places-places.result old) long (ap (λ (i : ℕ). drop i old) n) (closed_lawful f) inside c.run.ensures.distances (λ v. c.run.ensures.focus v ∙ ap (λ (i : ℕ). lit (take i old) v) n)
