-- What a change of focus leaves. Assumes nothing.
use Rattle.std.proofs.Common.{◌≡◌, ℕ, ◌<◌, ◌≤◌, Bool, true, false, eqb, List, length, set, sym, ap, ◌∙◌, arith, get_or-set_other, get_or-set_same, eq-eqb, ne_eqb}
use mathlib.Core.Path.{fun_ext}
use native.Mathlib.Decide.{ℕ_discrete, dec_le}
use Rattle.std.proofs.lemmas.List.{get_or_past}
use Rattle.ways.specs.Options.{pick}
use Rattle.ways.specs.Nearest.{with_place}
use Rattle.search.specs.declared.record.Record.{Record}
use Rattle.search.specs.State.{blank, lit}

-- one record's mark changes
pub lit_at : (rs : List Record) (v : ℕ) (r : Record) → v < length rs → lit (set rs v r) v ≡ r.focused
lit_at rs v r l = ap (λ (x : Record). x.focused) (get_or-set_same rs v r blank l)

pub lit_else : (rs : List Record) (v : ℕ) (r : Record) (x : ℕ) → (x ≡ v → ⊥) → lit (set rs v r) x ≡ lit rs x
lit_else rs v r x ne = ap (λ (x : Record). x.focused) (get_or-set_other rs v x r blank ne)

-- one place more is in focus
pub lit_more : (rs : List Record) (v : ℕ) (r : Record) → v < length rs → r.focused ≡ true → (λ (x : ℕ). lit (set rs v r) x) ≡ with_place v (λ x. lit rs x)
lit_more rs v r l on = fun_ext (λ x. go x (ℕ_discrete x v))
  where
    go : (x : ℕ) → Dec (x ≡ v) → lit (set rs v r) x ≡ pick (eqb x v) true (lit rs x)
    go x (yes e) = ap (lit (set rs v r)) e ∙ lit_at rs v r l ∙ on ∙ sym (ap (λ (b : Bool). pick b true (lit rs x)) (eq-eqb x v e))
    go x (no ne) = lit_else rs v r x ne ∙ sym (ap (λ (b : Bool). pick b true (lit rs x)) (ne_eqb x v ne))

-- past the end nothing is in focus
pub lit_none : (rs : List Record) (i : ℕ) → length rs ≤ i → ((v : ℕ) → v < i → lit rs v ≡ false) → (v : ℕ) → lit rs v ≡ false
lit_none rs i le h v = go (dec_le (length rs) v)
  where
    go : Dec (length rs ≤ v) → lit rs v ≡ false
    go (yes p) = ap (λ (x : Record). x.focused) (get_or_past rs v blank p)
    go (no gt) = h v (omega arith)
