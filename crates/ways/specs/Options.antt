-- Lengths that may be absent. Assumes nothing.
use Rattle.std.specs.Prelude.{ℕ, ◌+◌, ◌≤◌, Bool, true, false, Some, None, Option, nat_le}

-- x where the test holds, else y
abbrev pub pick : {A : Type 0} → Bool → A → A → A
pick true x y = x
pick false x y = y

-- there is a length, and it is at most t
abbrev pub AtMost : Option ℕ → ℕ → Type 0
AtMost None t = ⊥
AtMost (Some d) t = d ≤ t

-- the first is no greater than the second, where an absent length is beyond every number
abbrev pub within : Option ℕ → Option ℕ → Bool
within p None = true
within None (Some e) = false
within (Some d) (Some e) = nat_le d e

-- the lesser of two lengths, the first among equals
abbrev pub lesser : Option ℕ → Option ℕ → Option ℕ
lesser p q = pick (within p q) p q

-- the sum of two lengths, absent if one of them is
abbrev pub plus : Option ℕ → Option ℕ → Option ℕ
plus None q = None
plus (Some d) None = None
plus (Some d) (Some e) = Some (d + e)

-- the sum of a length, len more, and another length
abbrev pub through : Option ℕ → ℕ → Option ℕ → Option ℕ
through None len q = None
through (Some d) len None = None
through (Some d) len (Some e) = Some (d + len + e)
