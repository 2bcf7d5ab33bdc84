-- What closing makes of the arcs: sorted, they are still those of the ducts. Assumes nothing.
use Rattle.std.proofs.Common.{◌≡◌, ℕ, zero, suc, ◌+◌, ◌<◌, ◌≤◌, ◌⊎◌, List, [], ◌∷◌, ◌++◌, length, get_or, sum_by, sym, refl, ap, ◌∙◌, subst, inl, inr, arith, length-append}
use native.Mathlib.Decide.{ℕ_discrete, dec_le}
use Rattle.std.specs.List.Sorted.{IsNonDecreasingBy, IsPermutation, IsSorted}
use Rattle.std.specs.Ordering.{is_lt, nat_cmp, ordering_then}
use Rattle.std.proofs.lemmas.List.Sorted.{IsNonDecreasingBy-from_all_adjacent}
use Rattle.std.proofs.lemmas.Bool.{ltb-false, eqb-false}
use Rattle.std.proofs.Common.{Ordering, Less, Equal, Greater, Bool, true, false, cond, nat_lt, ◌==◌, eqb-true}
use Rattle.std.specs.List.{AllByRecursion}
use Rattle.std.proofs.ByRecursion.{All-get_or, All-from_get_or, all_shuffled}
use Rattle.std.proofs.lemmas.List.{append_assoc, get_or_at}
use Rattle.std.proofs.lemmas.List.Sorted.{IsPermutation-sym, sum_by-IsPermutation}
use Rattle.ways.specs.declared.row.Row.{Row}
use Rattle.ways.specs.Way.{Joins, Joined, Lawful}
use Rattle.ways.proofs.Graph.{to_in}
use Rattle.frame.specs.declared.arc.Arc.{Arc}
use Rattle.frame.specs.Rows.{no_row, row_at, Kept}
use Rattle.frame.specs.Fans.{key, arcs_from, no_arc, arc_at, Parted, from_at, Named, Fanned, Sealed}
use Rattle.frame.proofs.Sounds.{decided, le, unkept}

-- the numbers by which arcs are sorted do not run into one another
abbrev Small : Arc → Type 0
Small a = (a.to < 4294967296) × (a.duct < 4294967296)

-- the arcs of a frame are small
small : (n k : ℕ) (ds : List Row) → n ≤ 4096 → Lawful n ds → k + length ds ≤ 65536 → AllByRecursion Small (arcs_from k ds)
small n k [] few l h = tt
small n k (d ∷ ds) few l h =
    ((omega (arith, l.0.second_in), omega arith), ((omega (arith, l.0.first_in), omega arith), small n (k + 1) ds few l.1 (omega arith)))

-- and so they are in any order
all_small : (n : ℕ) (ds : List Row) (xs arcs : List Arc) → Kept n ds → xs ≡ arcs_from 0 ds → IsPermutation xs arcs → AllByRecursion Small arcs
all_small n ds xs arcs h is bag =
    let s = unkept n ds h in
    all_shuffled Small xs arcs bag (subst (AllByRecursion Small) (sym is) (small n 0 ds s.few s.lawful (omega (arith, s.few_ducts))))

-- how arcs compare: by where they begin, then where they end, then their duct, then its length
abbrev by_parts : Arc → Arc → Ordering
by_parts x y = ordering_then (nat_cmp x.from y.from) (ordering_then (nat_cmp x.to y.to) (ordering_then (nat_cmp x.duct y.duct) (nat_cmp x.length y.length)))

at_number : (ds : List Row) (k : ℕ) (d : Row) (u w : ℕ) → k < length ds → row_at ds k ≡ d → ((d.first ≡ u) × (d.second ≡ w)) ⊎ ((d.first ≡ w) × (d.second ≡ u)) → (k < length ds) × Joins (row_at ds k) u w d.length
at_number ds k d u w l e s = (l, subst (λ (x : Row). Joins x u w d.length) (sym e) (refl, s))

-- an arc's number is that of its duct
arcs_named : (k : ℕ) (ps bs ds : List Row) → length ps ≡ k → ds ≡ ps ++ bs → AllByRecursion (Named ds) (arcs_from k bs)
arcs_named k ps [] ds n e = tt
arcs_named k ps (d ∷ bs) ds n e =
    let l : k < length ds = omega (arith, ap length e, length-append ps (d ∷ bs)) in
    let is : row_at ds k ≡ d = ap (λ (x : List Row). row_at x k) e ∙ get_or_at ps d bs no_row k n in (
      at_number ds k d d.first d.second l is (inl (refl, refl)),
      (
        at_number ds k d d.second d.first l is (inr (refl, refl)),
        arcs_named (k + 1) (ps ++ d ∷ []) bs ds (omega (arith, length-append ps (d ∷ []))) (e ∙ sym (append_assoc ps (d ∷ []) bs)),
      ),
    )

-- each duct has its arc
joined_arcs : (k : ℕ) (ds : List Row) (v w len : ℕ) → Joined ds v w len → AllByRecursion (λ a. a.from ≡ v → a.to ≡ w → a.length ≡ len → ⊥) (arcs_from k ds) → ⊥
joined_arcs k [] v w len j h = j
joined_arcs k (d ∷ ds) v w len (inl (e, inl p)) h = h.0 p.0 p.1 e
joined_arcs k (d ∷ ds) v w len (inl (e, inr p)) h = h.1.0 p.1 p.0 e
joined_arcs k (d ∷ ds) v w len (inr j) h = joined_arcs (k + 1) ds v w len j h.1.1

-- an arc that comes no earlier by one number has the greater one, or the same and comes no earlier by the rest
later : (a b : ℕ) (r : Ordering) → is_lt (ordering_then (nat_cmp a b) r) ≡ false → (b < a) ⊎ ((a ≡ b) × (is_lt r ≡ false))
later a b r h = go (nat_lt a b) (a == b) refl refl h
  where
    go : (p q : Bool) → nat_lt a b ≡ p → (a == b) ≡ q → is_lt (ordering_then (cond p Less (cond q Equal Greater)) r) ≡ false → (b < a) ⊎ ((a ≡ b) × (is_lt r ≡ false))
    go true q e f k = cc
    go false true e f k = inr (eqb-true a b f, k)
    go false false e f k = inl (omega (arith, ltb-false a b e, eqb-false a b f))

-- so small arcs that are sorted by their fields are sorted by their key
by_fields : (x y : Arc) → Small x → Small y → is_lt (by_parts x y) ≡ false → key y ≤ key x
by_fields x y p q h =
    elim (later x.from y.from _ h) [
      | inl a ↦ omega arith
      | inr a ↦ elim (later x.to y.to _ a.1) [
        | inl b ↦ omega arith
        | inr b ↦ elim (later x.duct y.duct _ b.1) [ inl d ↦ omega arith | inr d ↦ omega arith ]
      ]
    ]

-- the arcs of a frame, sorted as arcs are, are sorted by their key
pub by_key : (n : ℕ) (ds : List Row) (xs arcs : List Arc) → Kept n ds → xs ≡ arcs_from 0 ds → IsPermutation xs arcs → IsSorted by_parts arcs → IsNonDecreasingBy key arcs
by_key n ds xs arcs h is bag up =
    let all = all_small n ds xs arcs h is bag in
    IsNonDecreasingBy-from_all_adjacent key arcs (λ k d lt. by_fields (get_or arcs (k + 1) d) (get_or arcs k d) (All-get_or Small arcs (k + 1) d lt all) (All-get_or Small arcs k d (omega arith) all) (up k d (omega arith) lt))

-- sorted by their key, arcs are sorted by where they begin
pub rises_from : (n : ℕ) (ds : List Row) (xs arcs : List Arc) → Kept n ds → xs ≡ arcs_from 0 ds → IsPermutation xs arcs → IsNonDecreasingBy key arcs → IsNonDecreasingBy (λ (a : Arc). a.from) arcs
rises_from n ds xs arcs h is bag up =
    let all = all_small n ds xs arcs h is bag in
    λ i j d le lt. omega (arith, up i j d le lt, All-get_or Small arcs j d lt all)

-- what closing has made
pub sealed : (n : ℕ) (ds : List Row) (offs : List ℕ) (xs arcs : List Arc) → Kept n ds → n < length offs → xs ≡ arcs_from 0 ds → IsPermutation xs arcs → IsNonDecreasingBy key arcs → ((v : ℕ) → v < length offs → Parted arcs v (from_at offs v)) → Sealed n ds offs arcs
sealed n ds offs xs arcs h count is shuffled up parted none = none (record {
  frame = unkept n ds h;
  count = count;
  parted = parted;
  rising = up;
  named = λ i l. All-get_or (Named ds) arcs i no_arc l (all_shuffled (Named ds) (arcs_from 0 ds) arcs bag (arcs_named 0 [] ds ds refl refl));
  whole = λ v w len j no-arcs. joined_arcs 0 ds v w len j (all_shuffled (λ a. a.from ≡ v → a.to ≡ w → a.length ≡ len → ⊥) arcs (arcs_from 0 ds) (IsPermutation-sym (arcs_from 0 ds) arcs bag) (All-from_get_or (λ a. a.from ≡ v → a.to ≡ w → a.length ≡ len → ⊥) arcs no_arc no-arcs));
  once = λ f. sum_by-IsPermutation f (arcs_from 0 ds) arcs bag;
})
  where
    bag : IsPermutation (arcs_from 0 ds) arcs
    bag = subst (λ (l : List Arc). IsPermutation l arcs) is shuffled

both : {P Q : Type 0} → Dec P → Dec Q → Dec (P × Q)
both (yes p) (yes q) = yes (p, q)
both (yes p) (no n) = no (λ h. n h.1)
both (no n) q = no (λ h. n h.0)

either : {P Q : Type 0} → Dec P → Dec Q → Dec (P ⊎ Q)
either (yes p) q = yes (inl p)
either (no n) (yes q) = yes (inr q)
either {P = P} {Q = Q} (no n) (no m) = no (λ h. pick h)
  where
    pick : P ⊎ Q → ⊥
    pick (inl p) = n p
    pick (inr q) = m q

-- whether an arc goes along the duct of its number can be decided
dec_named : (ds : List Row) (a : Arc) → Dec (Named ds a)
dec_named ds a =
    let d : Row = row_at ds a.duct in
    both (dec_le (suc a.duct) (length ds))
    (both (ℕ_discrete d.length a.length)
    (either (both (ℕ_discrete d.first a.from) (ℕ_discrete d.second a.to)) (both (ℕ_discrete d.first a.to) (ℕ_discrete d.second a.from))))

-- what a ghost field holds, that it is not false, is true: each part can be decided
pub unsealed : (n : ℕ) (ds : List Row) (offs : List ℕ) (arcs : List Arc) → Sealed n ds offs arcs → Fanned n ds offs arcs
unsealed n ds offs arcs h = record {
  frame = unkept n ds (λ k. h (λ f. k f.frame));
  count = le (suc n) (length offs) (λ k. h (λ f. k f.count));
  parted = λ v l. (
    le (from_at offs v) (length arcs) (λ k. h (λ f. k (f.parted v l).0)),
    λ i lt. le (suc (arc_at arcs i).from) v (λ k. h (λ f. k ((f.parted v l).1 i lt))),
    λ i low lt. le v (arc_at arcs i).from (λ k. h (λ f. k ((f.parted v l).2 i low lt))),
  );
  rising = λ i j d low lt. le (key (get_or arcs i d)) (key (get_or arcs j d)) (λ k. h (λ f. k (f.rising i j d low lt)));
  named = λ i l. decided (dec_named ds (arc_at arcs i)) (λ k. h (λ f. k (f.named i l)));
  whole = λ v w len j none. h (λ f. f.whole v w len j none);
  once = λ g. decided (ℕ_discrete (sum_by g arcs) (sum_by g (arcs_from 0 ds))) (λ k. h (λ f. k (f.once g)));
}

-- a row of the list joins its ends
joined_at : (ds : List Row) (i u w len : ℕ) → i < length ds → Joins (row_at ds i) u w len → Joined ds u w len
joined_at [] i u w len l j = absurd (omega arith)
joined_at (d ∷ ds) zero u w len l j = inl j
joined_at (d ∷ ds) (suc i) u w len l j = inr (joined_at ds i u w len (omega arith) j)

module _ (n : ℕ) (ds : List Row) (offs : List ℕ) (arcs : List Arc) (f : Fanned n ds offs arcs) where
  -- an arc goes along a duct
  pub joins : (i : ℕ) → i < length arcs → Joined ds (arc_at arcs i).from (arc_at arcs i).to (arc_at arcs i).length
  joins i l = let k = f.named i l in joined_at ds (arc_at arcs i).duct _ _ _ k.0 k.1

  -- of arcs that begin at one place, the earlier ends no later
  pub ordered : (i j : ℕ) → i ≤ j → j < length arcs → (arc_at arcs i).from ≡ (arc_at arcs j).from → (arc_at arcs i).to ≤ (arc_at arcs j).to
  ordered i j low l e =
      let to : (arc_at arcs j).to < n = to_in n ds _ _ _ f.frame.lawful (joins j l) in
      omega (arith, f.rising i j no_arc low l, (f.named j l).0, f.frame.few, f.frame.few_ducts)
