-- Lists of places. Assumes nothing.
use Rattle.std.specs.Prelude.{◌≡◌, ℕ, ◌<◌, ◌⊎◌, List, [], ◌∷◌, length, Some, None, Option, ◌≢◌, cond, nat_lt}

-- x is in the list
abbrev pub On : ℕ → List ℕ → Type 0
On x [] = ⊥
On x (y ∷ ys) = (x ≡ y) ⊎ On x ys

-- x is not in the list
abbrev pub Off : ℕ → List ℕ → Type 0
Off x [] = Unit {0}
Off x (y ∷ ys) = (x ≢ y) × Off x ys

-- no place is in the list twice
abbrev pub Apart : List ℕ → Type 0
Apart [] = Unit {0}
Apart (x ∷ xs) = Off x xs × Apart xs

-- every place of the list is below n
abbrev pub AllBelow : ℕ → List ℕ → Type 0
AllBelow n [] = Unit {0}
AllBelow n (x ∷ xs) = (x < n) × AllBelow n xs

-- the first place of the list that is not below n
abbrev pub outside : ℕ → List ℕ → Option ℕ
outside n [] = None
outside n (p ∷ ps) = cond (nat_lt p n) (outside n ps) (Some p)

-- the list has each of the places below n once
pub record Order (n : ℕ) (xs : List ℕ) : Type 0 where
  pub count : length xs ≡ n
  pub inside : AllBelow n xs
  pub apart : Apart xs
