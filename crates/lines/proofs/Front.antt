-- The digits at the front of a text, and what they are worth.
use Rattle.std.proofs.Common.{◌≡◌, ℕ, ◌+◌, ◌-◌, ◌*◌, ◌^◌, ◌<◌, ◌≤◌, min, List, length, get_or, take, fold, zero, suc, refl, sym, ◌∙◌, subst, arith, rules}
use Rattle.std.proofs.lemmas.Int.Digits.{digits_value_more}
use Rattle.std.proofs.lemmas.List.{length-take-le, get_or-take, take_all}
use Rattle.std.proofs.lemmas.List.Sums.{fold_more}
use Rattle.std.specs.Char.{digit_value as digitValue}
use Rattle.std.specs.Str.Parse.{AllDigits, digits_value}
use Rattle.std.specs.Int.{IsInRange}
use Rattle.std.proofs.lemmas.Str.Parse.{numerals_by_value, tells_by_index, digit_at}
use Rattle.lines.specs.Text.{held}

-- a front of digits, by each one
pub digits_front : (t : List ℕ) (i : ℕ) → i ≤ length t → ((k : ℕ) → k < i → IsInRange 48 57 (get_or t k 0)) → AllDigits 10 (take i t)
digits_front t i l f =
    (numerals_by_value (λ ds. (k : ℕ) → k < length ds → IsInRange 48 57 (get_or ds k 0)) tells_by_index).to (take i t) (λ k w.
    let m : k < i = omega (arith, length-take-le i t l) in
    subst (IsInRange 48 57) (sym (get_or-take i t k 0 m)) (f k m))

digit_value : (c : ℕ) → 48 ≤ c → c ≤ 57 → digitValue c ≡ c - 48
digit_value c a b = search rules

-- one more digit's worth, up to 64 bits
abbrev pub one_more : ℕ → ℕ → ℕ
one_more n digit = min (min (n * 10) (2 ^ 64 - 1) + (digit - 48)) (2 ^ 64 - 1)

pub held_step : (t : List ℕ) (i n : ℕ) → i < length t → AllDigits 10 t → n ≡ held (digits_value 10 (take i t)) → one_more n (get_or t i 0) ≡ held (digits_value 10 (take (i + 1) t))
held_step t i n l p e =
    let g = digit_at t i p l in
    let d : digitValue (get_or t i 0) ≡ get_or t i 0 - 48 = digit_value (get_or t i 0) g.0 g.1 in
    let v = digits_value_more 10 t i l in
    omega arith

-- digit by digit it is the worth of all
pub held_all : (t : List ℕ) → AllDigits 10 t → fold one_more 0 t ≡ held (digits_value 10 t)
held_all t p = subst (λ (u : List ℕ). fold one_more 0 u ≡ held (digits_value 10 u)) (take_all (length t) t (omega arith)) (front (length t) (omega arith))
  where
    Front : ℕ → Type 0
    Front i = fold one_more 0 (take i t) ≡ held (digits_value 10 (take i t))

    front : (i : ℕ) → i ≤ length t → Front i
    front zero l = refl
    front (suc i) l =
        let e : i + 1 ≡ suc i = omega arith in
        subst Front e (fold_more one_more 0 t i 0 (omega arith) ∙ held_step t i (fold one_more 0 (take i t)) (omega arith) p (front i (omega arith)))
