-- What is proved of the text of lines. Assumes nothing.
use Rattle.std.specs.Prelude.{◌≡◌, ℕ, ◌<◌, List, length}
use Rattle.lines.specs.Text.{Short, Opens}
use Rattle.lines.specs.Said.{Said, numbers_of, Formed, line_text}

-- a written line reads as the line that it is
abbrev pub WrittenReads : Type 0
WrittenReads = (s : Said) → Short (numbers_of s) → Formed (line_text s) s

-- a line that is read is the text that is written of it
abbrev pub ReadWrites : Type 0
ReadWrites = (text : List ℕ) (s : Said) → Formed text s → Short (numbers_of s) → text ≡ line_text s

-- a text is one line only
abbrev pub ReadOnce : Type 0
ReadOnce = (text : List ℕ) (s t : Said) → Formed text s → Formed text t → s ≡ t

-- a number is above 9,999,999 exactly where it has more than seven digits
abbrev pub SevenDigits : Type 0
SevenDigits = (text rest : List ℕ) (v : ℕ) (o : Opens text v rest) → (v < 10000000 → length o.piece < 8) × (length o.piece < 8 → v < 10000000)
