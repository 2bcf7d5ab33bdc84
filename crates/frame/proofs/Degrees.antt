-- How many ducts touch a place, and what that sums up to over all places. Assumes nothing.
use Rattle.std.proofs.Common.{◌≡◌, ℕ, zero, suc, ◌+◌, ◌*◌, ◌<◌, Bool, true, false, cond, ◌||◌, eqb, List, [], ◌∷◌, length, sum_by, sym, refl, ap, ◌∙◌, arith}
use native.Mathlib.Decide.{ℕ_discrete}
use Rattle.std.proofs.lemmas.List.Sums.{sum_by-cons}
use Rattle.std.proofs.lemmas.Bool.{eqb-true, eq-eqb, ne_eqb}
use Rattle.ways.specs.declared.row.Row.{Row}
use Rattle.ways.specs.Options.{pick}
use Rattle.ways.specs.Way.{Lawful}
use Rattle.frame.specs.Fans.{forth, back, arcs_from, weight}
use Rattle.frame.specs.Neighbours.{touches, degree, sum_below}

-- functions that agree below n have one sum
pub sum_below_same : (f g : ℕ → ℕ) (n : ℕ) → ((v : ℕ) → v < n → f v ≡ g v) → sum_below f n ≡ sum_below g n
unfolding sum_below
sum_below_same f g zero h = refl
sum_below_same f g (suc n) h = omega (arith, h n (omega arith), sum_below_same f g n (λ v l. h v (omega arith)))

-- nothing sums up to nothing
pub sum_below_none : (n : ℕ) → sum_below (λ v. 0) n ≡ 0
unfolding sum_below
sum_below_none zero = refl
sum_below_none (suc n) = omega (arith, sum_below_none n)

-- a sum of sums
pub sum_below_add : (f g : ℕ → ℕ) (n : ℕ) → sum_below (λ v. f v + g v) n ≡ sum_below f n + sum_below g n
unfolding sum_below
sum_below_add f g zero = refl
sum_below_add f g (suc n) = omega (arith, sum_below_add f g n)

-- functions that agree but at u differ in their sums as they do there
pub sum_below_but : (f g : ℕ → ℕ) (n u : ℕ) → u < n → ((v : ℕ) → (v ≡ u → ⊥) → f v ≡ g v) → sum_below f n + g u ≡ sum_below g n + f u
unfolding sum_below
sum_below_but f g zero u l h = absurd (omega arith)
sum_below_but f g (suc n) u l h = go (ℕ_discrete u n) (λ k. sum_below_but f g n u k h)
  where
    go : Dec (u ≡ n) → (u < n → sum_below f n + g u ≡ sum_below g n + f u) → sum_below f n + f n + g u ≡ sum_below g n + g n + f u
    go (yes e) r = omega (arith, ap f e, ap g e, sum_below_same f g n (λ v k. h v (λ p. omega arith)))
    go (no ne) r = omega (arith, r (omega arith), h n (λ p. ne (sym p)))

-- one at a place below n, and none elsewhere
sum_below_one : (a n : ℕ) → a < n → sum_below (λ v. pick (eqb a v) 1 0) n ≡ 1
sum_below_one a n l =
    omega (arith, sum_below_but (λ v. pick (eqb a v) 1 0) (λ v. 0) n a l (λ v ne. ap {B = ℕ} (λ (b : Bool). pick b 1 0) (ne_eqb a v (λ e. ne (sym e)))), sum_below_none n, ap {B = ℕ} (λ (b : Bool). pick b 1 0) (eq-eqb a a refl))

-- a duct touches each of its ends once
touch_sum : (v : ℕ) (d : Row) → (d.first ≡ d.second → ⊥) → pick (touches v d) 1 0 ≡ pick (eqb d.first v) 1 0 + pick (eqb d.second v) 1 0
touch_sum v d ne = go (eqb d.first v) (eqb d.second v) refl refl
  where
    go : (p q : Bool) → eqb d.first v ≡ p → eqb d.second v ≡ q → pick (p || q) 1 0 ≡ pick p 1 0 + pick q 1 0
    go true true e g = absurd (ne (eqb-true d.first v e ∙ sym (eqb-true d.second v g)))
    go true false e g = refl
    go false true e g = refl
    go false false e g = refl

-- each duct touches two places
pub degrees_sum : (n : ℕ) (ds : List Row) → Lawful n ds → sum_below (degree ds) n ≡ 2 * length ds
unfolding degree
degrees_sum n [] l = sum_below_none n
degrees_sum n (d ∷ ds) l =
    omega (
      arith,
      sum_below_add (λ v. pick (touches v d) 1 0) (degree ds) n,
      sum_below_same (λ v. pick (touches v d) 1 0) (λ v. pick (eqb d.first v) 1 0 + pick (eqb d.second v) 1 0) n (λ v h. touch_sum v d l.0.apart),
      sum_below_add (λ v. pick (eqb d.first v) 1 0) (λ v. pick (eqb d.second v) 1 0) n,
      sum_below_one d.first n l.0.first_in,
      sum_below_one d.second n l.0.second_in,
      degrees_sum n ds l.1,
    )

-- the arcs that begin at v are as many as the ducts that touch it
pub degree_weight : (n k v : ℕ) (ds : List Row) → Lawful n ds → sum_by (weight (λ a. 1) v) (arcs_from k ds) ≡ degree ds v
unfolding degree
degree_weight n k v [] l = refl
degree_weight n k v (d ∷ ds) l =
    omega (
      arith,
      sum_by-cons (weight (λ a. 1) v) (forth k d) (back k d ∷ arcs_from (k + 1) ds),
      sum_by-cons (weight (λ a. 1) v) (back k d) (arcs_from (k + 1) ds),
      touch_sum v d l.0.apart,
      one (eqb d.first v),
      one (eqb d.second v),
      degree_weight n (k + 1) v ds l.1,
    )
  where
    one : (b : Bool) → ◌≡◌ {A = ℕ} (cond b 1 0) (pick b 1 0)
    one true = refl
    one false = refl
