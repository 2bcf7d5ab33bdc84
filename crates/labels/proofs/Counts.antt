-- Sums over the places that are not settled. Assumes nothing.
use Rattle.std.proofs.Common.{◌≡◌, ℕ, zero, suc, ◌+◌, ◌<◌, ◌≤◌, Bool, true, false, cond, sym, refl, ap, ◌∙◌, arith}
use native.Mathlib.Decide.{ℕ_discrete}
use Rattle.search.specs.State.{left}

-- a place that is not settled counts
pub left_has : (f : ℕ → ℕ) (D : ℕ → Bool) (n u : ℕ) → u < n → D u ≡ false → f u ≤ left f D n
left_has f D zero u l o = absurd (omega arith)
left_has f D (suc n) u l o = go (ℕ_discrete u n) (λ k. left_has f D n u k o)
  where
    go : Dec (u ≡ n) → (u < n → f u ≤ left f D n) → f u ≤ left f D n + cond (D n) 0 (f n)
    go (yes e) r = let b : cond (D n) 0 (f n) ≡ f n = ap {B = ℕ} (λ (x : Bool). cond x 0 (f n)) (ap D (sym e) ∙ o) in omega (arith, ap f e)
    go (no ne) r = omega (arith, r (omega arith))

-- there are no more than all
pub left_most : (D : ℕ → Bool) (n : ℕ) → left (λ v. 1) D n ≤ n
left_most D zero = omega arith
left_most D (suc n) = go (D n) refl (left_most D n)
  where
    go : (b : Bool) → D n ≡ b → left (λ v. 1) D n ≤ n → left (λ v. 1) D n + cond (D n) 0 1 ≤ suc n
    go true e h = let a : ◌≡◌ {A = ℕ} (cond (D n) 0 1) 0 = ap {B = ℕ} (λ (x : Bool). cond x 0 1) e in omega arith
    go false e h = let a : ◌≡◌ {A = ℕ} (cond (D n) 0 1) 1 = ap {B = ℕ} (λ (x : Bool). cond x 0 1) e in omega arith
