-- What two rows share: the least sum, and the lowest rank that gives it. Assumes nothing.
use Rattle.std.specs.Prelude.{◌≡◌, ℕ, ◌+◌, ◌<◌, ◌≤◌, List, [], ◌∷◌, Some, None, Option, nat_le, nat_lt}
use Rattle.ways.specs.Options.{pick}
use Rattle.hubs.specs.Labels.{Entry, Shared}
-- the rank of a hub that two rows share, and the sum of its two distances
pub use Rattle.hubs.specs.declared.meeting.Meeting.{Meeting}

-- the least sum that the rows share, at the lowest rank that gives it; none where they share no hub
abbrev pub Merged : List Entry → List Entry → Option Meeting → Type 0
Merged xs ys None = (r d : ℕ) → Shared xs ys r d → ⊥
Merged xs ys (Some m) = Shared xs ys m.rank m.sum × ((r d : ℕ) → Shared xs ys r d → (m.sum ≤ d) × (m.sum ≡ d → m.rank ≤ r))

-- m, unless o has less
abbrev pub or_less : Meeting → Option Meeting → Option Meeting
or_less m None = Some m
or_less m (Some k) = pick (nat_le m.sum k.sum) (Some m) (Some k)

-- the row ys against x, where rest merges what is left of x's row
abbrev pub against : Entry → (List Entry → Option Meeting) → List Entry → Option Meeting
against x rest [] = None
against x rest (y ∷ ys) =
    pick (nat_lt x.rank y.rank) (rest (y ∷ ys))
    (pick (nat_lt y.rank x.rank) (against x rest ys) (or_less (record { rank = x.rank; sum = x.distance + y.distance }) (rest ys)))

-- two rows in step: the one with the lower rank goes on
abbrev pub merge : List Entry → List Entry → Option Meeting
merge [] ys = None
merge (x ∷ xs) ys = against x (merge xs) ys

-- the sum alone
abbrev pub sum_of : Option Meeting → Option ℕ
sum_of None = None
sum_of (Some m) = Some m.sum

-- d is less than the sum, where no sum is beyond every number
abbrev pub Less : ℕ → Option ℕ → Type 0
Less d None = Unit {0}
Less d (Some x) = d < x

-- o, unless p has less
abbrev pub sooner : Option Meeting → Option Meeting → Option Meeting
sooner None p = p
sooner (Some m) p = or_less m p
