-- An order in which no position is bad has each place once. Assumes nothing.
use Rattle.std.proofs.Common.{◌≡◌, ℕ, suc, ◌<◌, true, List, [], ◌∷◌, length, get_or, refl, inl, inr, arith}
use native.Mathlib.Decide.{dec_lt}
use Rattle.ways.specs.Places.{Off, Apart, AllBelow, Order}
use Rattle.hubs.specs.Labels.{place}
use Rattle.labels.specs.declared.record.Record.{Record}
use Rattle.labels.specs.Orders.{Bad}
use Rattle.labels.specs.State.{listed}

all_below : (n : ℕ) (xs : List ℕ) → ((k : ℕ) → k < length xs → get_or xs k 0 < n) → AllBelow n xs
all_below n [] h = tt
all_below n (x ∷ xs) h = (h 0 (omega arith), all_below n xs (λ k l. h (suc k) (omega arith)))

off_all : (x : ℕ) (xs : List ℕ) → ((k : ℕ) → k < length xs → x ≡ get_or xs k 0 → ⊥) → Off x xs
off_all x [] h = tt
off_all x (y ∷ ys) h = (h 0 (omega arith), off_all x ys (λ k l. h (suc k) (omega arith)))

apart_all : (xs : List ℕ) → ((j k : ℕ) → j < k → k < length xs → get_or xs j 0 ≡ get_or xs k 0 → ⊥) → Apart xs
apart_all [] h = tt
apart_all (x ∷ xs) h = (off_all x xs (λ k l e. h 0 (suc k) (omega arith) (omega arith) e), apart_all xs (λ j k l m e. h (suc j) (suc k) (omega arith) (omega arith) e))

pub ordered : (xs : List ℕ) → ((k : ℕ) → k < length xs → Bad (length xs) xs k → ⊥) → Order (length xs) xs
ordered xs h = record {
  count = refl;
  inside = all_below (length xs) xs (λ k l. go k l (dec_lt (get_or xs k 0) (length xs)));
  apart = apart_all xs (λ j k l m e. h k m (inr (j, l, e)));
}
  where
    go : (k : ℕ) → k < length xs → Dec (get_or xs k 0 < length xs) → get_or xs k 0 < length xs
    go k l (yes i) = i
    go k l (no ge) = absurd (h k l (inl (omega arith)))

-- the first i places of the order are good, and they are the listed ones
pub record Listing (order : List ℕ) (i : ℕ) (rs : List Record) : Type 0 where
  pub good : (k : ℕ) → k < i → Bad (length order) order k → ⊥
  pub only : (v : ℕ) → listed rs v ≡ true → (j : ℕ) × (j < i) × (place order j ≡ v)
  pub every : (j : ℕ) → j < i → listed rs (place order j) ≡ true
