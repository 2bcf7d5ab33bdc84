-- Walks by the way rule to a trunk. Assumes nothing.
use Rattle.std.specs.Prelude.{◌≡◌, ℕ, Bool, true, false, List, [], ◌∷◌, ◌≢◌}
use Rattle.ways.specs.Places.{On}
use Rattle.ways.specs.Way.{Hop}
use Rattle.trees.specs.Growth.{walked}

-- the hops lead from t to the place at, and each is the one that the way rule names towards goal
abbrev pub Along : (ℕ → ℕ → Hop) → ℕ → ℕ → List Hop → ℕ → Type 0
Along rule goal t [] at = t ≡ at
Along rule goal t (h ∷ hs) at = (t ≢ goal) × (h ≡ rule t goal) × Along rule goal h.to hs at

-- the walk by the way rule from t towards goal that ends with the first place already on the trunk
pub record Walked (rule : ℕ → ℕ → Hop) (trunk : ℕ → Bool) (t goal : ℕ) (hs : List Hop) (meet : ℕ) : Type 0 where
  pub along : Along rule goal t hs meet
  pub met : trunk meet ≡ true
  pub first : (p : ℕ) → On p (walked t hs) → trunk p ≡ false
