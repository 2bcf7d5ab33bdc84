-- The place that costs least, and the places nearest to it. Assumes nothing.
use Rattle.std.proofs.Common.{◌≡◌, ℕ, ◌+◌, ◌<◌, ◌≤◌, Bool, true, false, List, [], ◌∷◌, ◌++◌, length, get_or, take, Some, None, Ok, Err, Option, Result, MatchResult, option_map, unwrap_or, sym, refl, ap, ◌∙◌, subst, inl, inr, arith}
use Rattle.std.proofs.lemmas.List.{take_more}
use Rattle.std.specs.declared.cmp.Ordering.{Ordering}
use Rattle.std.specs.Ordering.{nat_cmp, ordering_then}
use Rattle.std.specs.Ordering.{is_lt}
use Rattle.ways.specs.Lesser.{lesser_by}
use Rattle.ways.specs.Nearest.{Near, Later, Nearest}
use Rattle.ways.specs.Options.{pick, plus}
use Rattle.ways.specs.Places.{On}
use Rattle.oracle.specs.Meaning.{Meaning, far}
use Rattle.trees.specs.Groups.{gap, cost, focus_on, GroupsBelow}
use Rattle.trees.proofs.Places.{on_left, on_right}
use Rattle.trees.proofs.Groups.{nearest_gap}
use Rattle.plan.specs.Choices.{Least, near_cmp, Gathered, Around}
use Rattle.plan.specs.Trunks.{Reached}
use Rattle.plan.proofs.Nexts.{each_more}
use Rattle.plan.proofs.Orders.{less, not_less, less_last, not_less_last}
use Rattle.plan.proofs.Trunks.{sum_of}

module _ (costs : ℕ → Option ℕ) where
  later_trans : (f h : Near) (x : ℕ) (o : Option ℕ) → (f.distance ≤ h.distance) × (f.distance ≡ h.distance → f.place ≤ h.place) → Later h x o → Later f x o
  later_trans f h x None b q = tt
  later_trans f h x (Some e) b q = (omega (arith, b.0, q.0), λ z. omega (arith, b.1 (omega (arith, b.0, q.0)), q.1 (omega (arith, b.0, q.0))))

  own : (p : Near) → costs p.place ≡ Some p.distance → Later p p.place (costs p.place)
  own p e = subst (Later p p.place) (sym e) (omega arith, λ _. omega arith)

  dear_more : (vs : List ℕ) (best : Option Near) (v : ℕ) → Least vs costs best → costs v ≡ None → Least (vs ++ (v ∷ [])) costs (lesser_by near_cmp best None)
  dear_more vs None v n e = each_more (λ u. costs u ≡ None) vs v n e
  dear_more vs (Some p) v n e = (on_left p.place vs (v ∷ []) n.0, n.1, each_more (λ u. Later p u (costs u)) vs v n.2 (subst (Later p v) (sym e) tt))

  some_more : (vs : List ℕ) (best : Option Near) (q : Near) → Least vs costs best → costs q.place ≡ Some q.distance → Least (vs ++ (q.place ∷ [])) costs (lesser_by near_cmp best (Some q))
  some_more vs None q n e = (on_right q.place vs (q.place ∷ []) (inl refl), e, each_more (λ u. Later q u (costs u)) vs q.place (λ u o. subst (Later q u) (sym (n u o)) tt) (own q e))
  some_more vs (Some p) q n e = go (is_lt (near_cmp q p)) refl
    where
      before : is_lt (near_cmp q p) ≡ true → (q.distance ≤ p.distance) × (q.distance ≡ p.distance → q.place ≤ p.place)
      before t = let l = less q.distance p.distance (nat_cmp q.place p.place) t in (l.0, λ z. less_last q.place p.place (l.1 z))

      after : is_lt (near_cmp q p) ≡ false → (p.distance ≤ q.distance) × (p.distance ≡ q.distance → p.place ≤ q.place)
      after t = let l = not_less q.distance p.distance (nat_cmp q.place p.place) t in (l.0, λ z. not_less_last q.place p.place (l.1 z))

      go : (b : Bool) → is_lt (near_cmp q p) ≡ b → Least (vs ++ (q.place ∷ [])) costs (pick b (Some q) (Some p))
      go false t = (on_left p.place vs (q.place ∷ []) n.0, n.1, each_more (λ u. Later p u (costs u)) vs q.place n.2 (subst (Later p q.place) (sym e) (after t)))
      go true t =
          (on_right q.place vs (q.place ∷ []) (inl refl), e, each_more (λ u. Later q u (costs u)) vs q.place (λ u o. later_trans q p u (costs u) (before t) (n.2 u o)) (own q e))

  least_more : (vs : List ℕ) (best : Option Near) (v : ℕ) → Least vs costs best → (start : Option Near) → start ≡ option_map (λ d. record { place = v; distance = d }) (costs v) → Least (vs ++ (v ∷ [])) costs (lesser_by near_cmp best start)
  least_more vs best v n start is = go (costs v) refl is
    where
      go : (o : Option ℕ) → costs v ≡ o → start ≡ option_map (λ d. record { place = v; distance = d }) o → Least (vs ++ (v ∷ [])) costs (lesser_by near_cmp best start)
      go None e k = subst (λ (a : Option Near). Least (vs ++ (v ∷ [])) costs (lesser_by near_cmp best a)) (sym k) (dear_more vs best v n e)
      go (Some w) e k = subst (λ (a : Option Near). Least (vs ++ (v ∷ [])) costs (lesser_by near_cmp best a)) (sym k) (some_more vs best (record { place = v; distance = w }) n e)

  pub least_at : (xs : List ℕ) (i : ℕ) (best start r : Option Near) → i < length xs → Least (take i xs) costs best → start ≡ option_map (λ d. record { place = get_or xs i 0; distance = d }) (costs (get_or xs i 0)) → r ≡ lesser_by near_cmp best start → Least (take (i + 1) xs) costs r
  least_at xs i best start r l n is e =
      subst (Least (take (i + 1) xs) costs) (sym e)
      (subst (λ (ys : List ℕ). Least ys costs (lesser_by near_cmp best start)) (sym (take_more xs i 0 l)) (least_more (take i xs) best (get_or xs i 0) n start is))

gathered_push : (m : Meaning) (x : ℕ) (gs : List (List ℕ)) (g ps : List ℕ) (q : Near) → Gathered m x gs ps → Nearest m.count (focus_on g) (far m x) (Some q) → Gathered m x (gs ++ (g ∷ [])) (ps ++ (q.place ∷ []))
gathered_push m x [] g ps q k n = subst (λ (qs : List ℕ). Gathered m x (g ∷ []) (qs ++ (q.place ∷ []))) (sym k) ((q.distance, n), refl)
gathered_push m x (y ∷ gs) g [] q k n = absurd k
gathered_push m x (y ∷ gs) g (p ∷ ps) q k n = (k.0, gathered_push m x gs g ps q k.1 n)

-- where there is room, one more is put behind
pub put_behind : {E X : Type 0} (r : Result (Unit {0}) E) (xs ys : List X) (x : X) (n : ℕ) → MatchResult r (λ _. ys ≡ xs ++ (x ∷ [])) (λ _. (ys ≡ xs) × (length xs ≡ n)) → length xs < n → ys ≡ xs ++ (x ∷ [])
put_behind (Ok a) xs ys x n p l = p
put_behind (Err e) xs ys x n p l = absurd (omega (arith, p.1))

-- one group more
pub around_more : (m : Meaning) (x : ℕ) (gs : List (List ℕ)) {hs : List (List ℕ)} (g : List ℕ) (q : Near) {cs ds : List ℕ} → Around m x gs cs → Nearest m.count (focus_on g) (far m x) (Some q) → hs ≡ gs ++ (g ∷ []) → ds ≡ cs ++ (q.place ∷ []) → Around m x hs ds
around_more m x gs g q a n more is = (
  a.0 ++ (q.place ∷ []),
  is ∙ ap (λ (y : List ℕ). y ++ (q.place ∷ [])) a.1,
  subst (λ (y : List (List ℕ)). Gathered m x y (a.0 ++ (q.place ∷ []))) (sym more) (gathered_push m x gs g a.0 q a.2 n),
)

-- what was gathered is reached from x, and at the cost of x together

pub gathered_reached : (m : Meaning) (x : ℕ) (gs : List (List ℕ)) (ps : List ℕ) → Gathered m x gs ps → Reached m x ps
gathered_reached m x [] ps k c o = absurd (subst (On c) k o)
gathered_reached m x (g ∷ gs) [] k c o = absurd k
gathered_reached m x (g ∷ gs) (p ∷ ps) k c (inl e) = subst (λ (y : ℕ). (y < m.count) × ((d : ℕ) × (far m x y ≡ Some d))) (sym e) (k.0.1.0, (k.0.0, k.0.1.2))
gathered_reached m x (g ∷ gs) (p ∷ ps) k c (inr o) = gathered_reached m x gs ps k.1 c o

pub gathered_sum : (m : Meaning) (x : ℕ) (gs : List (List ℕ)) (ps : List ℕ) → GroupsBelow m.count gs → Gathered m x gs ps → cost (far m) x gs ≡ Some (sum_of (far m x) ps)
gathered_sum m x [] ps i k = ap Some (sym (ap (sum_of (far m x)) k))
gathered_sum m x (g ∷ gs) [] i k = absurd k
gathered_sum m x (g ∷ gs) (p ∷ ps) i k =
    let n : gap (far m) x g ≡ Some k.0.0 = nearest_gap m.count g (far m) x (Some (record { place = p; distance = k.0.0 })) i.0 k.0.1 in
    let v : unwrap_or (far m x p) 0 ≡ k.0.0 = ap (λ (o : Option ℕ). unwrap_or o 0) k.0.1.2 in
    ap (λ (o : Option ℕ). plus o (cost (far m) x gs)) n ∙ ap (plus (Some k.0.0)) (gathered_sum m x gs ps i.1 k.1) ∙ ap Some (ap (λ (z : ℕ). z + sum_of (far m x) ps) (sym v))
