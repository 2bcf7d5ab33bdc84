-- Hubs cover the shortest ways, and are closed along them. Assumes nothing.
use Rattle.std.proofs.Common.{◌≡◌, ℕ, zero, suc, ◌+◌, ◌<◌, ◌⊎◌, List, [], ◌∷◌, length, get_or, Some, None, Option, sym, refl, subst, inl, inr, arith}
use native.Mathlib.Decide.{ℕ_discrete, dec_lt}
use Rattle.ways.specs.declared.row.Row.{Row}
use Rattle.ways.specs.Places.{Off, AllBelow, Order}
use Rattle.ways.specs.Way.{Lawful}
use Rattle.ways.specs.Distance.{distance}
use Rattle.ways.proofs.Simple.{fit}
use Rattle.ways.proofs.Metric.{same, not_both, far_self, far_sum, far_le, far_back}
use Rattle.hubs.specs.Labels.{place, Hub, Between, Lowest}
use Rattle.hubs.specs.Theorems.{Cover, Closed}

-- p is somewhere in the list, or nowhere
find : (p : ℕ) (xs : List ℕ) → ((r : ℕ) × (r < length xs) × (get_or xs r 0 ≡ p)) ⊎ Off p xs
find p [] = inr tt
find p (x ∷ xs) = go (ℕ_discrete p x) (find p xs)
  where
    go : Dec (p ≡ x) → (((r : ℕ) × (r < length xs) × (get_or xs r 0 ≡ p)) ⊎ Off p xs) → ((r : ℕ) × (r < length (x ∷ xs)) × (get_or (x ∷ xs) r 0 ≡ p)) ⊎ Off p (x ∷ xs)
    go (yes e) k = inl (0, omega arith, sym e)
    go (no ne) (inl (r, i, e)) = inl (suc r, omega arith, e)
    go (no ne) (inr o) = inr (ne, o)

-- each place has a rank
pub rank_of : (n : ℕ) (order : List ℕ) → Order n order → (p : ℕ) → p < n → (r : ℕ) × (r < n) × (place order r ≡ p)
rank_of n order o p i = go (find p order)
  where
    go : (((r : ℕ) × (r < length order) × (get_or order r 0 ≡ p)) ⊎ Off p order) → (r : ℕ) × (r < n) × (place order r ≡ p)
    go (inl (r, k, e)) = (r, omega (arith, o.count), e)
    go (inr off) = absurd (omega (arith, o.count, fit n (p ∷ order) (off, o.apart) (i, o.inside)))

below_at : (n : ℕ) (xs : List ℕ) (r : ℕ) → AllBelow n xs → r < length xs → get_or xs r 0 < n
below_at n [] r b h = absurd (omega arith)
below_at n (x ∷ xs) zero b h = b.0
below_at n (x ∷ xs) (suc r) b h = below_at n xs r b.1 (omega arith)

-- each rank has a place
pub place_in : (n : ℕ) (order : List ℕ) → Order n order → (r : ℕ) → r < n → place order r < n
place_in n order o r i = below_at n order r o.inside (omega (arith, o.count))

-- the least number with a decided property
abbrev pub Least : (ℕ → Type 0) → ℕ → Type 0
Least P n = (r : ℕ) × (r < n) × P r × ((q : ℕ) → q < r → P q → ⊥)

pub least : (P : ℕ → Type 0) → ((r : ℕ) → Dec (P r)) → (n : ℕ) → ((q : ℕ) → q < n → P q → ⊥) ⊎ Least P n
least P dec zero = inl (λ q h p. omega arith)
least P dec (suc n) = go (least P dec n) (dec n)
  where
    go : (((q : ℕ) → q < n → P q → ⊥) ⊎ Least P n) → Dec (P n) → ((q : ℕ) → q < suc n → P q → ⊥) ⊎ Least P (suc n)
    go (inr (r, i, p, l)) d = inr (r, omega arith, p, l)
    go (inl l) (yes p) = inr (n, omega arith, p, l)
    go (inl l) (no k) = inl (λ q h p. last q p (ℕ_discrete q n) h)
      where
        last : (q : ℕ) → P q → Dec (q ≡ n) → q < suc n → ⊥
        last q p (yes e) h = k (subst P e p)
        last q p (no ne) h = l q (omega arith) p

between? : (n : ℕ) (ds : List Row) (order : List ℕ) (u v d r : ℕ) → Dec (Between n ds order u v d r)
between? n ds order u v d r = go (distance n ds u (place order r)) refl (distance n ds (place order r) v) refl
  where
    sums : (a b : ℕ) → distance n ds u (place order r) ≡ Some a → distance n ds (place order r) v ≡ Some b → Dec (a + b ≡ d) → Dec (Between n ds order u v d r)
    sums a b p q (yes e) = yes (a, b, p, q, e)
    sums a b p q (no ne) = no (λ (x, y, k, l, e). let i : x ≡ a = same k p in let j : y ≡ b = same l q in ne (omega arith))

    go : (o : Option ℕ) → distance n ds u (place order r) ≡ o → (w : Option ℕ) → distance n ds (place order r) v ≡ w → Dec (Between n ds order u v d r)
    go None p w q = no (λ (x, y, k, l, e). not_both p k)
    go (Some a) p None q = no (λ (x, y, k, l, e). not_both q l)
    go (Some a) p (Some b) q = sums a b p q (ℕ_discrete (a + b) d)

module _ (n : ℕ) (ds : List Row) (order : List ℕ) (u v d : ℕ) (s : Lawful n ds) (o : Order n order) (iu : u < n) (iv : v < n) (far : distance n ds u v ≡ Some d) where
  lowest : (r : ℕ) × Lowest n ds order u v d r
  lowest = go (least (Between n ds order u v d) (between? n ds order u v d) n) (rank_of n order o u iu)
    where
      go : (((q : ℕ) → q < n → Between n ds order u v d q → ⊥) ⊎ Least (Between n ds order u v d) n) → ((r : ℕ) × (r < n) × (place order r ≡ u)) → (r : ℕ) × Lowest n ds order u v d r
      go (inl none) (r, i, e) =
          absurd (none r i (0, d, subst (λ (x : ℕ). distance n ds u x ≡ Some 0) (sym e) (far_self n ds s u iu), subst (λ (x : ℕ). distance n ds x v ≡ Some d) (sym e) far, omega arith))
      go (inr (r, i, b, l)) k = (r, record { inside = i; between = b; none_lower = l })

  both : (r : ℕ) → Lowest n ds order u v d r → (a : ℕ) × (b : ℕ) × Hub n ds order u r a × Hub n ds order v r b × (a + b ≡ d)
  both r l =
      (a, b, record { inside = l.inside; reached = p; less = one }, record { inside = l.inside; reached = far_back n ds s h v b ih iv q; less = other }, e)
    where
      a : ℕ
      a = l.between.0

      b : ℕ
      b = l.between.1

      h : ℕ
      h = place order r

      ih : h < n
      ih = place_in n order o r l.inside

      p : distance n ds u h ≡ Some a
      p = l.between.2

      q : distance n ds h v ≡ Some b
      q = l.between.3

      e : a + b ≡ d
      e = l.between.4

      one : (k x y : ℕ) → k < r → distance n ds u (place order k) ≡ Some x → distance n ds (place order k) h ≡ Some y → a < x + y
      one k x y lt fx fy = go (dec_lt a (x + y))
        where
          ik : place order k < n
          ik = place_in n order o k (omega (arith, l.inside))

          go : Dec (a < x + y) → a < x + y
          go (yes i) = i
          go (no ge) =
              let t = far_sum n ds s (place order k) h v y b ik ih iv fy q in
              let m = far_le n ds s u (place order k) v x t.0 d iu ik iv fx t.1 far in
              absurd (l.none_lower k lt (x, t.0, fx, t.1, omega (arith, t.2, e)))

      other : (k x y : ℕ) → k < r → distance n ds v (place order k) ≡ Some x → distance n ds (place order k) h ≡ Some y → b < x + y
      other k x y lt fx fy = go (dec_lt b (x + y))
        where
          ik : place order k < n
          ik = place_in n order o k (omega (arith, l.inside))

          go : Dec (b < x + y) → b < x + y
          go (yes i) = i
          go (no ge) =
              let t = far_sum n ds s u h (place order k) a y iu ih ik p (far_back n ds s (place order k) h y ik ih fy) in
              let g = far_back n ds s v (place order k) x iv ik fx in
              let m = far_le n ds s u (place order k) v t.0 x d iu ik iv t.1 g far in
              absurd (l.none_lower k lt (t.0, x, t.1, g, omega (arith, t.2, e)))

pub cover : Cover
cover n ds order u v d s o iu iv far = (lowest n ds order u v d s o iu iv far, both n ds order u v d s o iu iv far)

pub closed : Closed
closed n ds order v u r d a b s o iv iu hub p q e = record {
  inside = hub.inside;
  reached = q;
  less = λ k x y lt fx fy.
      let ik : place order k < n = place_in n order o k (omega (arith, hub.inside)) in
      let t = far_sum n ds s v u (place order k) a x iv iu ik p fx in
      omega (arith, t.2, hub.less k t.0 y lt t.1 fy);
}
