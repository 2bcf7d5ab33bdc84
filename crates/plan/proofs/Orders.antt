-- An order by one number, and by more among equals. Assumes nothing.
use Rattle.std.proofs.Common.{◌≡◌, ℕ, ◌≤◌, true, false, arith}
use Rattle.std.proofs.lemmas.Bool.Decides.{nat_tests}
use Rattle.std.specs.declared.cmp.Ordering.{Ordering}
use Rattle.std.specs.Ordering.{nat_cmp, ordering_then}
use Rattle.std.specs.Ordering.{is_lt}

-- the first is less
pub less : (d e : ℕ) (o : Ordering) → is_lt (ordering_then (nat_cmp d e) o) ≡ true → (d ≤ e) × (d ≡ e → is_lt o ≡ true)
less d e o q = grind (arith, nat_tests)

-- it is not
pub not_less : (d e : ℕ) (o : Ordering) → is_lt (ordering_then (nat_cmp d e) o) ≡ false → (e ≤ d) × (e ≡ d → is_lt o ≡ false)
not_less d e o q = grind (arith, nat_tests)

-- by the last number
pub less_last : (f g : ℕ) → is_lt (nat_cmp f g) ≡ true → f ≤ g
less_last f g q = grind (arith, nat_tests)

pub not_less_last : (f g : ℕ) → is_lt (nat_cmp f g) ≡ false → g ≤ f
not_less_last f g q = grind (arith, nat_tests)
