-- Rows that are ducts, and what holds of the rows of a frame. Assumes nothing.
use Rattle.std.specs.Prelude.{◌≡◌, ℕ, ◌<◌, ◌≤◌, Bool, ◌&&◌, List, length, ◌==◌, ◌≢◌, slice_index_or}
use Rattle.std.specs.List.{AllByRecursion, list_any}
use Rattle.ways.specs.declared.row.Row.{Row}
use Rattle.ways.specs.Way.{Lawful}

-- the row is a duct: its smaller end first, of 1 to 1,000,000 mm
pub record IsDuct (d : Row) : Type 0 where
  pub ends : d.first < d.second
  pub some_length : 1 ≤ d.length
  pub no_longer : d.length ≤ 1000000

-- what stands past the end of a list of rows
abbrev pub no_row : Row
no_row = record { first = 0; second = 0; length = 0 }

-- the row of the number i
abbrev pub row_at : List Row → ℕ → Row
row_at rows i = slice_index_or rows i no_row

-- a row of the list has these ends, in this order
abbrev pub paired : List Row → ℕ → ℕ → Bool
paired rows a b = list_any (λ d. d.first == a && d.second == b) rows

-- what holds of every frame of n places: no row fails the duct's check, and no pair is joined twice
pub record Sound (n : ℕ) (rows : List Row) : Type 0 where
  pub few : n ≤ 4096
  pub few_ducts : length rows ≤ 16384
  pub lawful : Lawful n rows
  pub ordered : AllByRecursion (λ d. d.first < d.second) rows
  pub single : (i j : ℕ) → i < j → j < length rows → (row_at rows i).first ≡ (row_at rows j).first → (row_at rows i).second ≢ (row_at rows j).second

-- the same, as a ghost field can hold it
abbrev pub Kept : ℕ → List Row → Type 0
Kept n rows = (Sound n rows → ⊥) → ⊥
