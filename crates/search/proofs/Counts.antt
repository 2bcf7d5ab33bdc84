-- How many arcs are left to follow. Assumes nothing.
use Rattle.std.proofs.Common.{◌≡◌, ℕ, zero, suc, ◌+◌, ◌<◌, Bool, true, false, cond, sym, refl, ap, ◌∙◌, arith}
use native.Mathlib.Decide.{ℕ_discrete}
use Rattle.search.specs.State.{left}
use Rattle.frame.specs.Neighbours.{sum_below}

module _ (f : ℕ → ℕ) where
  pub left_same : (D D' : ℕ → Bool) (n : ℕ) → ((v : ℕ) → v < n → D' v ≡ D v) → left f D' n ≡ left f D n
  left_same D D' zero h = refl
  left_same D D' (suc n) h =
      let was = left_same D D' n (λ v l. h v (omega arith)) in
      let top = h n (omega arith) in
      λ i. was i + cond (top i) 0 (f n)

  pub left_settled : (D D' : ℕ → Bool) (n u : ℕ) → u < n → D u ≡ false → D' u ≡ true → ((v : ℕ) → (v ≡ u → ⊥) → D' v ≡ D v) → left f D' n + f u ≡ left f D n
  left_settled D D' zero u l o d h = absurd (omega arith)
  left_settled D D' (suc n) u l o d h = go (ℕ_discrete u n) (λ k. left_settled D D' n u k o d h)
    where
      go : Dec (u ≡ n) → (u < n → left f D' n + f u ≡ left f D n) → left f D' n + cond (D' n) 0 (f n) + f u ≡ left f D n + cond (D n) 0 (f n)
      go (yes e) r =
          let a : cond (D' n) 0 (f n) ≡ 0 = ap (λ (b : Bool). cond b 0 (f n)) (ap D' (sym e) ∙ d) in
          let b : cond (D n) 0 (f n) ≡ f n = ap (λ (b : Bool). cond b 0 (f n)) (ap D (sym e) ∙ o) in
          let s : left f D' n ≡ left f D n = left_same D D' n (λ v k. h v (λ p. omega arith)) in
          let t : f u ≡ f n = ap (f) e in
          omega arith
      go (no ne) r =
          let a : cond (D' n) 0 (f n) ≡ cond (D n) 0 (f n) = ap (λ (b : Bool). cond b 0 (f n)) (h n (λ p. ne (sym p))) in
          let s : left f D' n + f u ≡ left f D n = r (omega arith) in
          omega arith

  -- nothing is settled
  pub left_all : (D : ℕ → Bool) (n : ℕ) → ((v : ℕ) → D v ≡ false) → left f D n ≡ sum_below f n
  unfolding sum_below
  left_all D zero none = refl
  left_all D (suc n) none =
      let b : cond (D n) 0 (f n) ≡ f n = ap (λ (b : Bool). cond b 0 (f n)) (none n) in
      omega (arith, left_all D n none)
