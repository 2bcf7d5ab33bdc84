-- What a line of a ticket says, its text, and how its reader tells it. Assumes nothing.
use Rattle.std.specs.Prelude.{◌≡◌, ℕ, ◌^◌, ◌<◌, min, List, [], ◌∷◌, map, length, take, Some, None, Ok, Err, Option, Result, nat_lt}
use Rattle.std.specs.List.{prefix_len}
use Rattle.ways.specs.Few.{members}
use Rattle.lines.specs.declared.fault.ReaderFault.{ReaderFault}
use Rattle.lines.specs.declared.fault.ReaderFault.TheVariants.{Form}
use Rattle.lines.specs.declared.line.Line.{Line}
use Rattle.lines.specs.declared.line.Line.TheVariants.{Places, Ducts, Duct, Fittings, Fitting}
use Rattle.lines.specs.declared.line.Listed.{Listed}
use Rattle.lines.specs.declared.line.ReadFitting.{ReadFitting}
use Rattle.lines.specs.Text.{Numbered, held, tail_text}

-- the five kinds of line, each with its numbers, however large; a fitting has its number, its count and its places
pub data Said : Type 0 where
  places : ℕ → Said
  ducts : ℕ → Said
  duct : ℕ → ℕ → ℕ → Said
  fittings : ℕ → Said
  fitting : ℕ → ℕ → List ℕ → Said

-- the first character of a line
abbrev pub letter_of : Said → ℕ
letter_of (places n) = 80
letter_of (ducts m) = 68
letter_of (duct a b l) = 100
letter_of (fittings k) = 70
letter_of (fitting f c ps) = 102

-- the numbers of a line, in order
abbrev pub numbers_of : Said → List ℕ
numbers_of (places n) = n ∷ []
numbers_of (ducts m) = m ∷ []
numbers_of (duct a b l) = a ∷ b ∷ l ∷ []
numbers_of (fittings k) = k ∷ []
numbers_of (fitting f c ps) = f ∷ c ∷ ps

-- a line that is lawful in form: the letter, then its numbers, each with one blank before it
abbrev pub Formed : List ℕ → Said → Type 0
Formed text s = (tail : List ℕ) × (text ≡ letter_of s ∷ tail) × Numbered tail (numbers_of s)

-- no lawful line has this text
abbrev pub Formless : List ℕ → Type 0
Formless text = (s : Said) → Formed text s → ⊥

-- the text of a line without its end
abbrev pub line_text : Said → List ℕ
line_text s = letter_of s ∷ tail_text (numbers_of s)

-- ten million in place of every number of more than seven digits
abbrev pub capped : ℕ → ℕ
capped v = min v 10000000

-- how many numbers come before the first of more than seven digits
abbrev pub shorts : List ℕ → ℕ
shorts ns = prefix_len (λ n. nat_lt n 10000000) ns

-- a list, no longer than a text can be, is told by its length, its first 17 numbers, and how many come before the first that is too long
pub record Lists (l : Listed) (ns : List ℕ) : Type 0 where
  pub counted : l.count ≡ length ns
  pub few : length ns < 2 ^ 63
  pub front : members l.front ≡ take 17 (map capped ns)
  pub short : l.short ≡ shorts ns

-- how a line is told
abbrev pub Tells : Line ReadFitting → Said → Type 0
Tells line (places n) = line ≡ Places (capped n)
Tells line (ducts m) = line ≡ Ducts (capped m)
Tells line (duct a b l) = line ≡ Duct (record { first = capped a; second = capped b; length = capped l })
Tells line (fittings k) = line ≡ Fittings (capped k)
Tells line (fitting f c ps) = (l : Listed) × (line ≡ Fitting (record { number = capped f; count = held c; places = l })) × Lists l ps

-- a text read as a line: the line that it is, or none that is lawful in form
abbrev pub Reads : List ℕ → Option (Line ReadFitting) → Type 0
Reads text (Some line) = (s : Said) × Formed text s × Tells line s
Reads text None = Formless text

-- the same, with the fault of a line at this number
abbrev pub ReadsAt : List ℕ → ℕ → Result (Line ReadFitting) ReaderFault → Type 0
ReadsAt text at (Ok line) = (s : Said) × Formed text s × Tells line s
ReadsAt text at (Err e) = (e ≡ Form at) × Formless text

-- a text read as a list of numbers
abbrev pub Listing : List ℕ → Option Listed → Type 0
Listing text (Some l) = (ns : List ℕ) × Numbered text ns × Lists l ns
Listing text None = (ns : List ℕ) → Numbered text ns → ⊥

-- behind the last number of a line
abbrev pub Alone : List ℕ → Line ReadFitting → Option (Line ReadFitting) → Type 0
Alone rest line (Some l) = (rest ≡ []) × (l ≡ line)
Alone rest line None = rest ≡ [] → ⊥

-- behind a duct's first number
abbrev pub Ducting : List ℕ → ℕ → Option (Line ReadFitting) → Type 0
Ducting text first (Some line) = (b : ℕ) × (l : ℕ) × Numbered text (b ∷ l ∷ []) × (line ≡ Duct (record { first = first; second = capped b; length = capped l }))
Ducting text first None = (b l : ℕ) → Numbered text (b ∷ l ∷ []) → ⊥

-- behind a fitting's number
abbrev pub Fitted : List ℕ → ℕ → Option (Line ReadFitting) → Type 0
Fitted text number (Some line) = (c : ℕ) × (ps : List ℕ) × (l : Listed) × Numbered text (c ∷ ps) × (line ≡ Fitting (record { number = number; count = held c; places = l })) × Lists l ps
Fitted text number None = (c : ℕ) (ps : List ℕ) → Numbered text (c ∷ ps) → ⊥
