-- Ducts written into memory, one after another. Assumes nothing.
use Rattle.std.proofs.Common.{◌≡◌, ℕ, ◌+◌, ◌≤◌, List, [], ◌∷◌, ◌++◌, length, take, drop, set, sym, refl, ap, ◌∙◌, append_assoc, arith, length-set}
use Rattle.std.proofs.lemmas.List.{take_more_set, drop-set-lt, take-append-drop}
use Rattle.ways.specs.declared.row.Row.{Row}
use Rattle.plan.specs.Rows.{written}

pub written_append : (i : ℕ) (ds es rows : List Row) → written i (ds ++ es) rows ≡ written (i + length ds) es (written i ds rows)
written_append i [] es rows = ap (λ (k : ℕ). written k es rows) (omega arith)
written_append i (d ∷ ds) es rows = written_append (i + 1) ds es (set rows i d) ∙ ap (λ (k : ℕ). written k es (written (i + 1) ds (set rows i d))) (omega arith)

-- one more
pub written_push : (i k : ℕ) (ds rows : List Row) (d : Row) → k ≡ i + length ds → written i (ds ++ (d ∷ [])) rows ≡ set (written i ds rows) k d
written_push i k ds rows d e = written_append i ds (d ∷ []) rows ∙ ap (λ (j : ℕ). set (written i ds rows) j d) (sym e)

-- where there is room they stand one after another, and the rest is as it was
written_at : (i : ℕ) (ds rows : List Row) → i + length ds ≤ length rows → written i ds rows ≡ take i rows ++ (ds ++ drop (i + length ds) rows)
written_at i [] rows l = sym (take-append-drop i rows) ∙ ap (λ (k : ℕ). take i rows ++ drop k rows) (omega arith)
written_at i (d ∷ ds) rows l =
    let r : written (i + 1) ds (set rows i d) ≡ take (i + 1) (set rows i d) ++ (ds ++ drop (i + 1 + length ds) (set rows i d)) = written_at (i + 1) ds (set rows i d) (omega (arith, l, length-set rows i d)) in
    let h : take (i + 1) (set rows i d) ≡ take i rows ++ (d ∷ []) = take_more_set rows i d (omega (arith, l)) in
    let t : drop (i + 1 + length ds) (set rows i d) ≡ drop (i + length (d ∷ ds)) rows = drop-set-lt (i + 1 + length ds) rows i d (omega arith) ∙ ap (λ (k : ℕ). drop k rows) (omega arith) in
    r ∙ ap (λ (y : List Row). y ++ (ds ++ drop (i + 1 + length ds) (set rows i d))) h ∙ append_assoc (take i rows) (d ∷ []) (ds ++ drop (i + 1 + length ds) (set rows i d)) ∙ ap (λ (y : List Row). take i rows ++ (d ∷ (ds ++ y))) t

pub written_all : (ds rows : List Row) → length ds ≤ length rows → written 0 ds rows ≡ ds ++ drop (length ds) rows
written_all ds rows l = written_at 0 ds rows (omega arith) ∙ ap (λ (k : ℕ). ds ++ drop k rows) (omega arith)

pub written_nowhere : (i : ℕ) (ds : List Row) → written i ds [] ≡ []
written_nowhere i [] = refl
written_nowhere i (d ∷ ds) = written_nowhere (i + 1) ds
