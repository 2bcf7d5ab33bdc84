-- From the numbers of a text to the line that it is.
use Rattle.std.proofs.Common.{◌≡◌, ℕ, ◌-◌, List, [], ◌∷◌, length, get_or, take, drop, Some, None, Option, sym, ap, ◌∙◌, subst, arith}
use Rattle.std.proofs.lemmas.List.{take_rest}
use Rattle.lines.specs.Text.{Numbered, Next, NoNext, held}
use Rattle.lines.specs.Said.{Said, places, ducts, duct, fittings, fitting, letter_of, numbers_of, Formed, Formless, capped, Reads, Alone, Ducting, Fitted}
use Rattle.lines.specs.declared.line.Line.{Line}
use Rattle.lines.specs.declared.line.ReadFitting.{ReadFitting}
use Rattle.lines.specs.declared.line.Line.TheVariants.{Places, Ducts, Duct, Fittings}
use Rattle.lines.proofs.Numbers.{opens_once, stops_numbered}

-- no number, so no numbers
pub no_first : (text : List ℕ) → NoNext text → (v : ℕ) (vs : List ℕ) → Numbered text (v ∷ vs) → ⊥
no_first text f v vs n = f v n.0 n.1 (stops_numbered n.0 vs n.2)

-- what follows the first number
pub second : (text rest : List ℕ) (n : ℕ) → Next text n rest → (v : ℕ) (vs : List ℕ) → Numbered text (v ∷ vs) → Numbered rest vs
second text rest n x v vs q =
    let o = opens_once text x.worth v rest q.0 x.opens x.after q.1 (stops_numbered q.0 vs q.2) in
    subst (λ (u : List ℕ). Numbered u vs) (sym o.rest) q.2

-- a number of more than seven digits stays one in 64 bits
pub capped_held : (n m v : ℕ) → n ≡ held v → m ≡ capped n → m ≡ capped v
capped_held n m v e f = omega arith

pub duct_read : (text behind rest : List ℕ) (n m a b first : ℕ) → Next text n behind → Next behind m rest → a ≡ capped n → b ≡ capped m → (r : Option (Line ReadFitting)) → Alone rest (Duct (record { first = first; second = a; length = b })) r → Ducting text first r
duct_read text behind rest n m a b first x y e f (Some l) h =
    let p = capped_held n a x.worth x.number e in
    let q = capped_held m b y.worth y.number f in
    let k = h.1 in
    (x.worth, y.worth, (behind, x.opens, (rest, y.opens, h.0)), cc)
duct_read text behind rest n m a b first x y e f None h =
    λ c l q. h (second behind rest m y l [] (second text behind n x c (l ∷ []) q))

-- the letter and the numbers of a line, from its text
pub letter_is : (text t : List ℕ) (letter : ℕ) → text ≡ letter ∷ t → (s : Said) → Formed text s → letter_of s ≡ letter
letter_is text t letter e s f = ap (λ (u : List ℕ). get_or u 0 0) (sym f.1 ∙ e)

pub numbers_are : (text t : List ℕ) (letter : ℕ) → text ≡ letter ∷ t → (s : Said) → Formed text s → Numbered t (numbers_of s)
numbers_are text t letter e s f = subst (λ (u : List ℕ). Numbered u (numbers_of s)) (ap (drop 1) (sym f.1 ∙ e)) f.2

-- a line has a number
pub no_number : (text t : List ℕ) (letter : ℕ) → text ≡ letter ∷ t → NoNext t → Formless text
no_number text t letter e f (places n) h = no_first t f n [] (numbers_are text t letter e (places n) h)
no_number text t letter e f (ducts m) h = no_first t f m [] (numbers_are text t letter e (ducts m) h)
no_number text t letter e f (duct a b l) h = no_first t f a (b ∷ l ∷ []) (numbers_are text t letter e (duct a b l) h)
no_number text t letter e f (fittings k) h = no_first t f k [] (numbers_are text t letter e (fittings k) h)
no_number text t letter e f (fitting g c ps) h = no_first t f g (c ∷ ps) (numbers_are text t letter e (fitting g c ps) h)

pub places_read : (text t rest : List ℕ) (letter n k : ℕ) → text ≡ letter ∷ t → letter ≡ 80 → Next t n rest → k ≡ capped n → (r : Option (Line ReadFitting)) → Alone rest (Places k) r → Reads text r
places_read text t rest letter n k e z x f (Some l) h =
    let p = capped_held n k x.worth x.number f in
    let q = h.1 in
    (places x.worth, (t, cc, (rest, x.opens, h.0)), cc)
places_read text t rest letter n k e z x f None h = go
  where
    go : Formless text
    go (places v) g = h (second t rest n x v [] (numbers_are text t letter e (places v) g))
    go (ducts v) g = omega (arith, letter_is text t letter e (ducts v) g)
    go (duct a b l) g = omega (arith, letter_is text t letter e (duct a b l) g)
    go (fittings v) g = omega (arith, letter_is text t letter e (fittings v) g)
    go (fitting a b ps) g = omega (arith, letter_is text t letter e (fitting a b ps) g)

pub ducts_read : (text t rest : List ℕ) (letter n k : ℕ) → text ≡ letter ∷ t → letter ≡ 68 → Next t n rest → k ≡ capped n → (r : Option (Line ReadFitting)) → Alone rest (Ducts k) r → Reads text r
ducts_read text t rest letter n k e z x f (Some l) h =
    let p = capped_held n k x.worth x.number f in
    let q = h.1 in
    (ducts x.worth, (t, cc, (rest, x.opens, h.0)), cc)
ducts_read text t rest letter n k e z x f None h = go
  where
    go : Formless text
    go (ducts v) g = h (second t rest n x v [] (numbers_are text t letter e (ducts v) g))
    go (places v) g = omega (arith, letter_is text t letter e (places v) g)
    go (duct a b l) g = omega (arith, letter_is text t letter e (duct a b l) g)
    go (fittings v) g = omega (arith, letter_is text t letter e (fittings v) g)
    go (fitting a b ps) g = omega (arith, letter_is text t letter e (fitting a b ps) g)

pub fittings_read : (text t rest : List ℕ) (letter n k : ℕ) → text ≡ letter ∷ t → letter ≡ 70 → Next t n rest → k ≡ capped n → (r : Option (Line ReadFitting)) → Alone rest (Fittings k) r → Reads text r
fittings_read text t rest letter n k e z x f (Some l) h =
    let p = capped_held n k x.worth x.number f in
    let q = h.1 in
    (fittings x.worth, (t, cc, (rest, x.opens, h.0)), cc)
fittings_read text t rest letter n k e z x f None h = go
  where
    go : Formless text
    go (fittings v) g = h (second t rest n x v [] (numbers_are text t letter e (fittings v) g))
    go (places v) g = omega (arith, letter_is text t letter e (places v) g)
    go (ducts v) g = omega (arith, letter_is text t letter e (ducts v) g)
    go (duct a b l) g = omega (arith, letter_is text t letter e (duct a b l) g)
    go (fitting a b ps) g = omega (arith, letter_is text t letter e (fitting a b ps) g)

pub duct_line : (text t rest : List ℕ) (letter n k : ℕ) → text ≡ letter ∷ t → letter ≡ 100 → Next t n rest → k ≡ capped n → (r : Option (Line ReadFitting)) → Ducting rest k r → Reads text r
duct_line text t rest letter n k e z x f (Some l) h =
    let p = capped_held n k x.worth x.number f in
    let q = h.3 in
    (duct x.worth h.0 h.1, (t, cc, (rest, x.opens, h.2)), cc)
duct_line text t rest letter n k e z x f None h = go
  where
    go : Formless text
    go (duct a b l) g = h b l (second t rest n x a (b ∷ l ∷ []) (numbers_are text t letter e (duct a b l) g))
    go (places v) g = omega (arith, letter_is text t letter e (places v) g)
    go (ducts v) g = omega (arith, letter_is text t letter e (ducts v) g)
    go (fittings v) g = omega (arith, letter_is text t letter e (fittings v) g)
    go (fitting a b ps) g = omega (arith, letter_is text t letter e (fitting a b ps) g)

pub fitting_line : (text t rest : List ℕ) (letter n k : ℕ) → text ≡ letter ∷ t → letter ≡ 102 → Next t n rest → k ≡ capped n → (r : Option (Line ReadFitting)) → Fitted rest k r → Reads text r
fitting_line text t rest letter n k e z x f (Some l) h =
    let p = capped_held n k x.worth x.number f in
    let q = h.4 in
    (fitting x.worth h.0 h.1, (t, cc, (rest, x.opens, h.3)), (h.2, cc, h.5))
fitting_line text t rest letter n k e z x f None h = go
  where
    go : Formless text
    go (fitting a b ps) g = h b ps (second t rest n x a (b ∷ ps) (numbers_are text t letter e (fitting a b ps) g))
    go (places v) g = omega (arith, letter_is text t letter e (places v) g)
    go (ducts v) g = omega (arith, letter_is text t letter e (ducts v) g)
    go (duct a b l) g = omega (arith, letter_is text t letter e (duct a b l) g)
    go (fittings v) g = omega (arith, letter_is text t letter e (fittings v) g)

-- the letter, the blank and the remaining bytes
pub two_first : (text : List ℕ) → get_or text 1 0 ≡ 32 → text ≡ get_or text 0 0 ∷ 32 ∷ take (length text - 2) (drop 2 text)
two_first [] e = absurd (omega arith)
two_first (a ∷ []) e = absurd (omega arith)
two_first (a ∷ b ∷ text) e = let t = take_rest (a ∷ b ∷ text) 2 in cc
