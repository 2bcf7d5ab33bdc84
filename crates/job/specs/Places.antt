-- The places that a fitting may have. Assumes nothing.
use Rattle.std.specs.Prelude.{ℕ, ◌<◌, ◌≤◌, Bool, true, false, not, ◌&&◌, List, [], ◌∷◌, length, is_some, nat_le, nat_lt}
use Rattle.ways.specs.Places.{AllBelow, outside}

-- each place is above the one before, the first above p
abbrev pub Rises : ℕ → List ℕ → Type 0
Rises p [] = Unit {0}
Rises p (q ∷ qs) = (p < q) × Rises q qs

-- each place is above the one before
abbrev pub Rising : List ℕ → Type 0
Rising [] = Unit {0}
Rising (p ∷ ps) = Rises p ps

-- 1 to 16 places below n, strictly rising
pub record Fitted (n : ℕ) (ps : List ℕ) : Type 0 where
  pub some : 1 ≤ length ps
  pub few : length ps ≤ 16
  pub rising : Rising ps
  pub inside : AllBelow n ps

-- whether each place is above the one before, the first above p
abbrev pub rises : ℕ → List ℕ → Bool
rises p [] = true
rises p (q ∷ qs) = nat_lt p q && rises q qs

-- whether there are 1 to 16 places, strictly rising
abbrev pub formed : List ℕ → Bool
formed [] = false
formed (p ∷ ps) = nat_le (length ps) 15 && rises p ps

-- whether there are 1 to 16 places below n, strictly rising
abbrev pub lawful : ℕ → List ℕ → Bool
lawful n ps = formed ps && not (is_some (outside n ps))
