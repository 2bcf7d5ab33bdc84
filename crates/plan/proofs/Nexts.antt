-- One more place among those that the next branch is picked from. Assumes nothing.
use Rattle.std.proofs.Common.{◌≡◌, ℕ, ◌+◌, ◌<◌, ◌≤◌, Bool, true, false, eqb, ltb, ◌⊎◌, List, [], ◌∷◌, ◌++◌, length, get_or, take, Some, None, Option, sym, refl, ap, ◌∙◌, subst, inl, inr, arith, ltb-false, ltb-true, eq-eqb, ne_eqb}
use Rattle.std.proofs.lemmas.List.{take_more}
use Rattle.std.specs.Bool.{then_some}
use Rattle.std.specs.declared.cmp.Ordering.{Ordering}
use Rattle.std.specs.Ordering.{nat_cmp, ordering_then}
use Rattle.std.specs.Ordering.{is_lt}
use Rattle.ways.specs.Lesser.{lesser_by}
use Rattle.ways.specs.Nearest.{Near}
use Rattle.ways.specs.Options.{pick}
use Rattle.ways.specs.Places.{On}
use Rattle.oracle.specs.Meaning.{Meaning, far}
use Rattle.trees.proofs.Places.{on_left, on_right, on_split}
use Rattle.plan.specs.declared.branch.Branch.{Branch}
use Rattle.plan.specs.Trunks.{NearTrunk, NextOf, BranchFrom}
use Rattle.plan.proofs.Near.{nearest_unique, true_false}
use Rattle.plan.proofs.Orders.{less, not_less}

-- the order of branches
abbrev branch_cmp : Branch → Branch → Ordering
branch_cmp p q = ordering_then (nat_cmp p.distance q.distance) (ordering_then (nat_cmp p.from q.from) (nat_cmp p.to q.to))

-- what holds of each place of the list, and of one more
pub each_more : (P : ℕ → Type 0) (cs : List ℕ) (c : ℕ) → ((x : ℕ) → On x cs → P x) → P c → (x : ℕ) → On x (cs ++ (c ∷ [])) → P x
each_more P cs c old new x o = go (on_split x cs (c ∷ []) o)
  where
    go : On x cs ⊎ On x (c ∷ []) → P x
    go (inl i) = old x i
    go (inr (inl e)) = subst P (sym e) new
    go (inr (inr i)) = absurd i

module _ (m : Meaning) (f : ℕ → Bool) where
  -- the branch b comes no later than one from c
  abbrev NotAfter : Branch → ℕ → Type 0
  NotAfter b c = f c ≡ false → (q : Near) → NearTrunk m f c q → (b.distance ≤ q.distance) × (b.distance ≡ q.distance → b.from ≤ c)

  abbrev near_of : Branch → Near
  near_of b = record { place = b.to; distance = b.distance }

  own : (b : Branch) → NearTrunk m f b.from (near_of b) → NotAfter b b.from
  own b k off q n =
      let u = nearest_unique m.count f (far m b.from) (near_of b) q k n in
      (omega (arith, u.1), λ e. omega arith)

  at_place : (b : Branch) (c : ℕ) → b.from ≡ c → NearTrunk m f c (near_of b) → NearTrunk m f b.from (near_of b)
  at_place b c e k = subst (λ (y : ℕ). NearTrunk m f y (near_of b)) (sym e) k

  next_more : (cs : List ℕ) (best : Option Branch) (c : ℕ) (a : Option Branch) → NextOf m f cs best → BranchFrom m f c a → NextOf m f (cs ++ (c ∷ [])) (lesser_by branch_cmp best a)
  next_more cs None c None n k = each_more (λ x. f x ≡ true) cs c n k
  next_more cs (Some p) c None n k = record {
    chosen = on_left p.from cs (c ∷ []) n.chosen;
    off = n.off;
    near = n.near;
    soonest = each_more (NotAfter p) cs c n.soonest (λ off. absurd (true_false (f c) k off));
  }
  next_more cs None c (Some b) n k =
      let near = at_place b c k.0 k.2 in
      record {
        chosen = on_right b.from cs (c ∷ []) (inl k.0);
        off = ap f k.0 ∙ k.1;
        near = near;
        soonest = each_more (NotAfter b) cs c (λ x o off. absurd (true_false (f x) (n x o) off)) (subst (NotAfter b) k.0 (own b near));
      }
  next_more cs (Some p) c (Some b) n k = go (is_lt (branch_cmp b p)) refl
    where
      near : NearTrunk m f b.from (near_of b)
      near = at_place b c k.0 k.2

      mine : NotAfter b c
      mine = subst (NotAfter b) k.0 (own b near)

      before : is_lt (branch_cmp b p) ≡ true → (b.distance ≤ p.distance) × (b.distance ≡ p.distance → b.from ≤ p.from)
      before t = let l = less b.distance p.distance (ordering_then (nat_cmp b.from p.from) (nat_cmp b.to p.to)) t in (l.0, λ z. (less b.from p.from (nat_cmp b.to p.to) (l.1 z)).0)

      after : is_lt (branch_cmp b p) ≡ false → (p.distance ≤ b.distance) × (p.distance ≡ b.distance → p.from ≤ b.from)
      after t = let l = not_less b.distance p.distance (ordering_then (nat_cmp b.from p.from) (nat_cmp b.to p.to)) t in (l.0, λ z. (not_less b.from p.from (nat_cmp b.to p.to) (l.1 z)).0)

      go : (t : Bool) → is_lt (branch_cmp b p) ≡ t → NextOf m f (cs ++ (c ∷ [])) (pick t (Some b) (Some p))
      go false e =
          let w = after e in
          record {
            chosen = on_left p.from cs (c ∷ []) n.chosen;
            off = n.off;
            near = n.near;
            soonest = each_more (NotAfter p) cs c n.soonest (λ off q l. let r = mine off q l in (omega (arith, r.0, w.0), λ z. omega (arith, w.1 (omega (arith, r.0, w.0)), r.1 (omega (arith, r.0, w.0)))));
          }
      go true e =
          let w = before e in
          record {
            chosen = on_right b.from cs (c ∷ []) (inl k.0);
            off = ap f k.0 ∙ k.1;
            near = near;
            soonest = each_more (NotAfter b) cs c (λ x o off q l. let r = n.soonest x o off q l in (omega (arith, r.0, w.0), λ z. omega (arith, w.1 (omega (arith, r.0, w.0)), r.1 (omega (arith, r.0, w.0))))) mine;
          }

  -- the branch to the nearest, where that is not here
  pub branch_at : (c : ℕ) (p : Near) → NearTrunk m f c p → eqb p.distance 0 ≡ f c → BranchFrom m f c (then_some (ltb 0 p.distance) (record { distance = p.distance; from = c; to = p.place }))
  branch_at c p n e = go (ltb 0 p.distance) refl
    where
      go : (b : Bool) → ltb 0 p.distance ≡ b → BranchFrom m f c (then_some b (record { distance = p.distance; from = c; to = p.place }))
      go true t = let l : 0 < p.distance = ltb-true 0 p.distance t in (refl, sym e ∙ ne_eqb p.distance 0 (λ z. omega arith), n)
      go false t = let l : p.distance ≤ 0 = ltb-false 0 p.distance t in sym e ∙ eq-eqb p.distance 0 (omega arith)

  -- at the index i of a list
  pub next_at : (xs : List ℕ) (i : ℕ) (best a r : Option Branch) → i < length xs → NextOf m f (take i xs) best → BranchFrom m f (get_or xs i 0) a → r ≡ lesser_by branch_cmp best a → NextOf m f (take (i + 1) xs) r
  next_at xs i best a r l n k e =
      subst (NextOf m f (take (i + 1) xs)) (sym e)
      (subst (λ (ys : List ℕ). NextOf m f ys (lesser_by branch_cmp best a)) (sym (take_more xs i 0 l)) (next_more (take i xs) best (get_or xs i 0) a n k))
