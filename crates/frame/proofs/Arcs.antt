-- The arcs of a list of ducts: both ways along each. Assumes nothing.
use Rattle.std.proofs.Common.{◌≡◌, ℕ, ◌+◌, ◌*◌, List, [], ◌∷◌, ◌++◌, length, sym, refl, ap, ◌∙◌, arith}
use Rattle.std.proofs.lemmas.List.{append_assoc}
use Rattle.ways.specs.declared.row.Row.{Row}
use Rattle.frame.specs.declared.arc.Arc.{Arc}
use Rattle.frame.specs.Fans.{forth, back, arcs_from}

-- two for each duct
pub length_arcs : (k : ℕ) (ds : List Row) → length (arcs_from k ds) ≡ 2 * length ds
length_arcs k [] = refl
length_arcs k (d ∷ ds) = omega (arith, length_arcs (k + 1) ds)

-- one duct more
arcs_push : (k : ℕ) (ds : List Row) (d : Row) → arcs_from k (ds ++ d ∷ []) ≡ arcs_from k ds ++ (forth (k + length ds) d ∷ back (k + length ds) d ∷ [])
arcs_push k [] d = let e : k ≡ k + 0 = omega arith in λ i. forth (e i) d ∷ back (e i) d ∷ []
arcs_push k (x ∷ xs) d =
    let e : k + 1 + length xs ≡ k + length (x ∷ xs) = omega arith in
    ap (λ (l : List Arc). forth k x ∷ back k x ∷ l) (arcs_push (k + 1) xs d ∙ (λ i. arcs_from (k + 1) xs ++ (forth (e i) d ∷ back (e i) d ∷ [])))

-- one duct more, as two pushes of an arc
pub both_push : (ds ds' : List Row) (xs ys zs : List Arc) (d : Row) (k : ℕ) → xs ≡ arcs_from 0 ds → ys ≡ xs ++ forth k d ∷ [] → zs ≡ ys ++ back k d ∷ [] → ds' ≡ ds ++ d ∷ [] → k ≡ length ds → zs ≡ arcs_from 0 ds'
both_push ds ds' xs ys zs d k is one two more e =
    let n : k ≡ 0 + length ds = omega arith in
    two ∙ ap (λ (l : List Arc). l ++ back k d ∷ []) (one ∙ ap (λ (l : List Arc). l ++ forth k d ∷ []) is)
    ∙ append_assoc (arcs_from 0 ds) (forth k d ∷ []) (back k d ∷ [])
    ∙ (λ i. arcs_from 0 ds ++ (forth (n i) d ∷ back (n i) d ∷ []))
    ∙ sym (arcs_push 0 ds d) ∙ ap (arcs_from 0) (sym more)
