-- The checks of a call: places that are not below n. Assumes nothing.
use Rattle.std.proofs.Common.{◌≡◌, ℕ, ◌-◌, ◌<◌, ◌≤◌, Bool, true, false, cond, ltb, List, [], ◌∷◌, length, get_or, take, drop, Some, None, Option, sym, refl, ap, ◌∙◌, subst, arith, ltb-true}
use Rattle.std.proofs.lemmas.List.{take_all, length-map}
use Rattle.ways.specs.declared.few.Few.{Few}
use Rattle.ways.specs.Few.{members}
use Rattle.ways.specs.Places.{AllBelow, outside}
use Rattle.trees.specs.Groups.{GroupsBelow}
use Rattle.plan.specs.Groups.{lists}
use Rattle.plan.specs.Plans.{or_else, outside_groups, Admitted}

some_none : {A : Type 0} (p : ℕ) → ◌≡◌ {A = Option ℕ} (Some p) None → A
some_none p e = absurd (let z : ◌≡◌ {A = ℕ} 0 1 = cc in omega arith)

pub none_outside : (n : ℕ) (ps : List ℕ) → outside n ps ≡ None → AllBelow n ps
none_outside n [] e = tt
none_outside n (p ∷ ps) e = go (ltb p n) refl e (none_outside n ps)
  where
    go : (b : Bool) → ltb p n ≡ b → cond b (outside n ps) (Some p) ≡ None → (outside n ps ≡ None → AllBelow n ps) → (p < n) × AllBelow n ps
    go true t k r = (ltb-true p n t, r k)
    go false t k r = some_none p k

pub groups_inside : (n : ℕ) (gs : List (List ℕ)) → outside_groups n gs ≡ None → GroupsBelow n gs
groups_inside n [] e = tt
groups_inside n (g ∷ gs) e = go (outside n g) refl e (groups_inside n gs)
  where
    go : (o : Option ℕ) → outside n g ≡ o → or_else o (outside_groups n gs) ≡ None → (outside_groups n gs ≡ None → GroupsBelow n gs) → AllBelow n g × GroupsBelow n gs
    go None t k r = (none_outside n g t, r k)
    go (Some p) t k r = some_none p k

-- the first group, and the others
pub parts : (gs : List (Few ℕ 16)) (group : Few ℕ 16) → group ≡ get_or gs 0 group → 1 ≤ length gs → members group ∷ lists (take (length gs - 1) (drop 1 gs)) ≡ lists gs
parts [] group is l = absurd (omega arith)
parts (g ∷ gs) group is l = ap (λ (p : Few ℕ 16). members p ∷ lists (take (length (g ∷ gs) - 1) gs)) is ∙ ap (λ (y : List (Few ℕ 16)). members g ∷ lists y) (take_all (length (g ∷ gs) - 1) gs (omega arith))

-- their places are the oracle's, where the call can be planned
pub parts_below : (gs : List (Few ℕ 16)) {n n' room : ℕ} {group : Few ℕ 16} {first : List ℕ} → n' ≡ n → Admitted n' (lists gs) room → group ≡ get_or gs 0 group → first ≡ members group → GroupsBelow n (first ∷ lists (take (length gs - 1) (drop 1 gs)))
parts_below gs {n = n} {n' = n'} {room = room} {group = group} {first = first} e a is whose =
    subst (λ (k : ℕ). GroupsBelow k (first ∷ lists (take (length gs - 1) (drop 1 gs)))) e
    (subst (λ (p : List ℕ). GroupsBelow n' (p ∷ lists (take (length gs - 1) (drop 1 gs)))) (sym whose)
    (subst (GroupsBelow n') (sym (parts gs group is (omega (arith, a.few.0, length-map gs members)))) (groups_inside n' (lists gs) a.inside)))
