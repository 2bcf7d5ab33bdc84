-- The text of a line and the line of a text.
use Rattle.std.proofs.Common.{◌≡◌, ℕ, ◌<◌, cond, eqb, List, [], ◌∷◌, length, get_or, drop, decimal, sym, refl, ap, ◌∙◌, subst, inl, inr, arith}
use Rattle.std.proofs.lemmas.Fmt.{decimal_is_IsNumeral, decimal_nonempty, first_decimal, decimal-digits_value, decimal_digit, length-decimal-le}
use Rattle.std.proofs.lemmas.Str.Parse.{IsNumeralModel, numerals_by_value, tells_digits, digits_value_short}
use Rattle.std.proofs.lemmas.Bool.{cases_eq}
use Rattle.std.specs.Str.Parse.{AllDigits, digits_value}
use Rattle.lines.specs.Text.{Plain, Numbered, Short, tail_text}
use Rattle.lines.specs.Said.{Said, places, ducts, duct, fittings, fitting, letter_of, numbers_of}
use Rattle.lines.specs.Laws.{WrittenReads, ReadWrites, ReadOnce, SevenDigits}
use Rattle.lines.proofs.Numbers.{numbered_once}

own : IsNumeralModel (AllDigits 10) (digits_value 10)
own = numerals_by_value (AllDigits 10) tells_digits

-- a decimal is a lawful numeral
decimal_plain : (n : ℕ) → n < 10000000 → Plain (decimal n)
decimal_plain n l = record {
  some = decimal_nonempty n (omega arith);
  digits = (decimal_is_IsNumeral n (omega arith)).0.1;
  lead = λ z.
      elim (cases_eq n 0) [
        | inl e ↦ ap length (decimal_digit n (omega arith))
        | inr h ↦ absurd (omega (arith, first_decimal n (omega arith) (omega arith)))
      ];
}

-- a lawful numeral is the decimal of its worth
plain_decimal : (p : List ℕ) → Plain p → digits_value 10 p < 10000000 → decimal (digits_value 10 p) ≡ p
plain_decimal p h l = decimal-digits_value own p h.digits h.some h.lead (omega arith)

-- written numbers read as these numbers
pub numbered_text : (ns : List ℕ) → Short ns → Numbered (tail_text ns) ns
numbered_text [] s = refl
numbered_text (n ∷ ns) s =
    (tail_text ns, record { piece = decimal n; plain = decimal_plain n s.0; is = refl; worth = (decimal_is_IsNumeral n (omega (arith, s.0))).1 }, numbered_text ns s.1)

-- numbers that are read are the text that is written of them
pub text_numbered : (text ns : List ℕ) → Numbered text ns → Short ns → text ≡ tail_text ns
text_numbered text [] e s = e
text_numbered text (n ∷ ns) h s =
    let o = h.1 in
    let i = text_numbered h.0 ns h.2 s.1 in
    let w = o.worth in
    let d = plain_decimal o.piece o.plain (omega (arith, s.0)) in
    let z = o.is in
    cc

pub written_reads : WrittenReads
written_reads s h = (tail_text (numbers_of s), refl, numbered_text (numbers_of s) h)

pub read_writes : ReadWrites
read_writes text s f h =
    let e = f.1 in
    let t = text_numbered f.0 (numbers_of s) f.2 h in
    cc

-- the line of a letter and numbers
kind_at : ℕ → List ℕ → Said
kind_at letter ns = cond (eqb letter 80) (places (get_or ns 0 0)) (cond (eqb letter 68) (ducts (get_or ns 0 0)) (cond (eqb letter 100) (duct (get_or ns 0 0) (get_or ns 1 0) (get_or ns 2 0)) (cond (eqb letter 70) (fittings (get_or ns 0 0)) (fitting (get_or ns 0 0) (get_or ns 1 0) (drop 2 ns)))))

kind_is : (s : Said) → kind_at (letter_of s) (numbers_of s) ≡ s
unfolding kind_at
kind_is (places n) = refl
kind_is (ducts m) = refl
kind_is (duct a b l) = refl
kind_is (fittings k) = refl
kind_is (fitting f c ps) = refl

pub same_said : (s t : Said) → letter_of s ≡ letter_of t → numbers_of s ≡ numbers_of t → s ≡ t
same_said s t e f =
    let a = kind_is s in
    let b = kind_is t in
    cc

pub read_once : ReadOnce
read_once text s t f g =
    let e : letter_of s ∷ f.0 ≡ letter_of t ∷ g.0 = sym f.1 ∙ g.1 in
    let n = numbered_once g.0 (numbers_of s) (numbers_of t) (subst (λ (u : List ℕ). Numbered u (numbers_of s)) (ap (drop 1) e) f.2) g.2 in
    same_said s t (ap (λ (u : List ℕ). get_or u 0 0) e) n

pub seven_digits : SevenDigits
seven_digits text rest v o = (
  λ l. let d = plain_decimal o.piece o.plain (omega (arith, o.worth)) in
      omega (arith, ap length d, length-decimal-le 7 (digits_value 10 o.piece) (omega arith) (omega (arith, o.worth)) (omega (arith, o.worth))),
  λ l. omega (arith, o.worth, digits_value_short own o.piece 7 o.plain.digits (omega arith)),
)
