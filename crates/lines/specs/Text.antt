-- Numerals in a text, and the lines of a text. Assumes nothing.
use Rattle.std.specs.Prelude.{◌≡◌, ℕ, ◌-◌, ◌^◌, ◌<◌, min, List, [], ◌∷◌, ◌++◌, length, Some, None, decimal, Option, ◌≢◌, slice_index, slice_index_or}
use Rattle.std.specs.List.{AllByRecursion, flat_map}
use Rattle.std.specs.Str.Parse.{AllDigits, digits_value}
use Rattle.std.specs.Int.{IsInRange}
use Rattle.std.specs.Borrow.{Bor}

-- no byte 10
abbrev pub Unbroken : List ℕ → Type 0
Unbroken xs = (k : ℕ) → k < length xs → slice_index xs k ≢ 10

-- a numeral that is lawful in form, however long: digits, at least one, with no zero in front of another
pub record Plain (p : List ℕ) : Type 0 where
  pub some : 0 < length p
  pub digits : AllDigits 10 p
  pub lead : slice_index_or p 0 0 ≡ 48 → length p ≡ 1

-- a text that does not go on with a digit
pub record Stops (r : List ℕ) : Type 0 where
  pub stops : IsInRange 48 57 (slice_index r 0) → ⊥

-- a text opens with a blank and a numeral that is worth v, and goes on with the rest
pub record Opens (text : List ℕ) (v : ℕ) (rest : List ℕ) : Type 0 where
  pub piece : List ℕ
  pub plain : Plain piece
  pub is : text ≡ 32 ∷ (piece ++ rest)
  pub worth : digits_value 10 piece ≡ v

-- a text is these numbers, each with one blank before it
abbrev pub Numbered : List ℕ → List ℕ → Type 0
Numbered text [] = text ≡ []
Numbered text (v ∷ vs) = (rest : List ℕ) × Opens text v rest × Numbered rest vs

-- a number as 64 bits hold it: the largest in place of any larger
abbrev pub held : ℕ → ℕ
held v = min v (2 ^ 64 - 1)

-- a number at the front of a text, as 64 bits hold it, and what follows its last digit
pub record Next (text : List ℕ) (n : ℕ) (rest : List ℕ) : Type 0 where
  pub worth : ℕ
  pub opens : Opens text worth rest
  pub after : Stops rest
  pub number : n ≡ held worth

-- no number stands at the front
abbrev pub NoNext : List ℕ → Type 0
NoNext text = (v : ℕ) (rest : List ℕ) → Opens text v rest → Stops rest → ⊥

-- a number looked for at the front: that one, or none
abbrev pub Finds : List ℕ → Option (ℕ × Bor (List ℕ)) → Type 0
Finds text (Some p) = Next text p.0 p.1.now
Finds text None = NoNext text

-- numbers of at most seven digits
abbrev pub Short : List ℕ → Type 0
Short ns = AllByRecursion (λ n. n < 10000000) ns

-- the text of numbers: each one's decimal with one blank before it
abbrev pub tail_text : List ℕ → List ℕ
tail_text ns = flat_map (λ n. 32 ∷ decimal n) ns
