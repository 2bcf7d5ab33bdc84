-- The cost of a place, group by group. Assumes nothing.
use Rattle.std.proofs.Common.{◌≡◌, ℕ, ◌+◌, ◌<◌, List, [], ◌∷◌, ◌++◌, length, get_or, take, drop, Some, None, Option, sym, refl, ap, ◌∙◌, subst, arith}
use Rattle.std.proofs.lemmas.List.{take_more, at_drop_more, map-append}
use Rattle.ways.specs.declared.few.Few.{Few}
use Rattle.ways.specs.Few.{members}
use Rattle.ways.specs.Nearest.{Near, Nearest}
use Rattle.ways.specs.Options.{plus}
use Rattle.ways.specs.Places.{AllBelow}
use Rattle.oracle.specs.Meaning.{Meaning, far}
use Rattle.trees.specs.Groups.{gap, cost, focus_on, GroupsBelow}
use Rattle.trees.proofs.Groups.{nearest_gap}
use Rattle.plan.specs.Groups.{lists}

plus_turn : (p q r : Option ℕ) → plus p (plus q r) ≡ plus (plus p q) r
plus_turn None q r = refl
plus_turn (Some a) None r = refl
plus_turn (Some a) (Some b) None = refl
plus_turn (Some a) (Some b) (Some c) = ap Some (omega arith)

plus_some : (p q : Option ℕ) (w : ℕ) → plus p q ≡ Some w → (v : ℕ) × (q ≡ Some v)
plus_some None q w e = absurd (let z : ◌≡◌ {A = ℕ} 0 1 = cc in omega arith)
plus_some (Some a) None w e = absurd (let z : ◌≡◌ {A = ℕ} 0 1 = cc in omega arith)
plus_some (Some a) (Some b) w e = (b, refl)

-- the group at the index i has the places ps, which are below n
pub record Item (n : ℕ) (gs : List (Few ℕ 16)) (i : ℕ) (ps : List ℕ) : Type 0 where
  pub left : lists (drop i gs) ≡ ps ∷ lists (drop (i + 1) gs)
  pub taken : lists (take (i + 1) gs) ≡ lists (take i gs) ++ (ps ∷ [])
  pub inside : AllBelow n ps

pub item_of : {n : ℕ} (gs : List (Few ℕ 16)) (i : ℕ) {group : Few ℕ 16} {ps : List ℕ} → GroupsBelow n (lists (drop i gs)) → group ≡ get_or gs i group → ps ≡ members group → i < length gs → Item n gs i ps
item_of {n = n} gs i {group = group} {ps = ps} b is whose l = record {
  left = left;
  taken = ap lists (take_more gs i group l) ∙ map-append members (take i gs) (get_or gs i group ∷ []) ∙ ap (λ (y : List ℕ). lists (take i gs) ++ (y ∷ [])) here;
  inside = (subst (GroupsBelow n) left b).0;
}
  where
    here : members (get_or gs i group) ≡ ps
    here = ap members (sym is) ∙ sym whose

    left : lists (drop i gs) ≡ ps ∷ lists (drop (i + 1) gs)
    left = at_drop_more lists gs i group l ∙ ap (λ (y : List ℕ). y ∷ lists (drop (i + 1) gs)) here

module _ (m : Meaning) (v : ℕ) {gs : List (Few ℕ 16)} {i : ℕ} {ps : List ℕ} (t : Item m.count gs i ps) where
  splits : cost (far m) v (lists (drop i gs)) ≡ plus (gap (far m) v ps) (cost (far m) v (lists (drop (i + 1) gs)))
  splits = ap (cost (far m) v) t.left

  -- its distance is added
  pub item_more : (sum d : ℕ) (p : Near) → Nearest m.count (focus_on ps) (far m v) (Some p) → d ≡ p.distance → plus (Some (sum + d)) (cost (far m) v (lists (drop (i + 1) gs))) ≡ plus (Some sum) (cost (far m) v (lists (drop i gs)))
  item_more sum d p n e =
      let k : gap (far m) v ps ≡ Some d = nearest_gap m.count ps (far m) v (Some p) t.inside n ∙ ap Some (sym e) in
      sym (ap (plus (Some sum)) splits ∙ plus_turn (Some sum) (gap (far m) v ps) (cost (far m) v (lists (drop (i + 1) gs))) ∙ ap (λ (q : Option ℕ). plus (plus (Some sum) q) (cost (far m) v (lists (drop (i + 1) gs)))) k)

  -- no way leads to it
  pub item_lost : Nearest m.count (focus_on ps) (far m v) None → cost (far m) v (lists (drop i gs)) ≡ None
  item_lost n = splits ∙ ap (λ (q : Option ℕ). plus q (cost (far m) v (lists (drop (i + 1) gs)))) (nearest_gap m.count ps (far m) v None t.inside n)

  -- the groups after it have a cost too
  pub item_rest : (w : ℕ) → cost (far m) v (lists (drop i gs)) ≡ Some w → (u : ℕ) × (cost (far m) v (lists (drop (i + 1) gs)) ≡ Some u)
  item_rest w e = plus_some (gap (far m) v ps) (cost (far m) v (lists (drop (i + 1) gs))) w (sym splits ∙ e)
