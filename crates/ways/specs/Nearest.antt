-- The nearest of some places. Assumes nothing.
use Rattle.std.specs.Prelude.{◌≡◌, ℕ, ◌<◌, ◌≤◌, Bool, true, false, Some, None, Option, ◌==◌}
use Rattle.ways.specs.declared.near.Near.{Near as NearBy}
use Rattle.ways.specs.Options.{pick}

-- a place and its distance from another
abbrev pub Near : Type 0
Near = NearBy ℕ

-- no place at all
abbrev pub no_place : ℕ → Bool
no_place x = false

-- the places of f, and v
abbrev pub with_place : ℕ → (ℕ → Bool) → ℕ → Bool
with_place v f x = pick (x == v) true (f x)

-- g at the distance that follows comes no sooner than p: it is no nearer, and of no smaller number where it is as near
abbrev pub Later : Near → ℕ → Option ℕ → Type 0
Later p g None = Unit {0}
Later p g (Some e) = (p.distance ≤ e) × (p.distance ≡ e → p.place ≤ g)

-- of the places below n that are in focus, the one at the least distance, and the smallest number among equals;
-- absent where none has a distance. far gives the distances from the place that asks.
abbrev pub Nearest : ℕ → (ℕ → Bool) → (ℕ → Option ℕ) → Option Near → Type 0
Nearest n focus far None = (g : ℕ) → g < n → focus g ≡ true → far g ≡ None
Nearest n focus far (Some p) =
    (p.place < n) × (focus p.place ≡ true) × (far p.place ≡ Some p.distance) × ((g : ℕ) → g < n → focus g ≡ true → Later p g (far g))
