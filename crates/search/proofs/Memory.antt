-- What a plain oracle is made of. Assumes nothing.
use Rattle.std.proofs.Common.{◌≡◌, ℕ, zero, suc, ◌+◌, ◌-◌, ◌*◌, ◌<◌, ◌≤◌, Bool, true, false, ltb, leb, List, length, replicate, sym, refl, ap, ◌∙◌, arith, leb-false, leb-true}
use mathlib.Core.Path.{fun_ext}
use Rattle.ways.specs.Nearest.{no_place}
use Rattle.ways.specs.declared.row.Row.{Row}
use Rattle.search.specs.declared.record.Record.{Record}
use Rattle.search.specs.State.{blank, lit}
use Rattle.ways.specs.Options.{pick}
use Rattle.search.specs.Plain.{plain_rule, nowhere, plain_meaning}

none_lit : (n x : ℕ) → lit (replicate n blank) x ≡ false
none_lit zero x = refl
none_lit (suc n) zero = refl
none_lit (suc n) (suc x) = none_lit n x

-- blank records have nothing in focus
pub nothing_lit : (rs : List Record) (n : ℕ) → rs ≡ replicate n blank → (λ (x : ℕ). lit rs x) ≡ no_place
nothing_lit rs n e = fun_ext (λ x. ap (λ (l : List Record). lit l x) e ∙ none_lit n x)

-- more records than n are as good as n
cut_same : (n k l : ℕ) → k + (l - n) ≡ l → leb n k ≡ leb n l
cut_same n k l e = go (leb n k) refl (leb n l) refl
  where
    go : (a : Bool) → leb n k ≡ a → (b : Bool) → leb n l ≡ b → leb n k ≡ leb n l
    go true p true q = p ∙ sym q
    go false p false q = p ∙ sym q
    go true p false q = let x : n ≤ k = leb-true n k p in let y : l < n = leb-false n l q in absurd (omega arith)
    go false p true q = let x : k < n = leb-false n k p in let y : n ≤ l = leb-true n l q in absurd (omega arith)

pub cut_meaning : (n : ℕ) (ds : List Row) (k l room : ℕ) → k + (l - n) ≡ l → plain_meaning n ds k room ≡ plain_meaning n ds l room
cut_meaning n ds k l room e = λ i. pick (pick (cut_same n k l e i) (ltb (2 * length ds) room) false) (record { count = n; ducts = ds; rule = plain_rule n ds }) nowhere
