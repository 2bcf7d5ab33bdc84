-- The way rule of a table: the next place on a shortest way. Assumes nothing.
use Rattle.std.specs.Prelude.{◌≡◌, ℕ, zero, suc, ◌+◌, ◌-◌, List, [], ◌∷◌, Some, None, Option, ◌==◌}
use Rattle.ways.specs.declared.row.Row.{Row}
use Rattle.ways.specs.Options.{pick}
use Rattle.ways.specs.Way.{Hop, Joined}
use Rattle.ways.specs.Distance.{distance}
use Rattle.hubs.specs.Labels.{Entry, Table, place}
use Rattle.hubs.specs.Merge.{Meeting, merge}

-- the neighbour that a row names for the hub of rank r
abbrev pub neighbour_at : ℕ → List Entry → ℕ
neighbour_at r [] = 0
neighbour_at r (x ∷ xs) = pick (x.rank == r) x.neighbour (neighbour_at r xs)

-- the distance that a row names for the hub of rank r
abbrev pub distance_at : ℕ → List Entry → ℕ
distance_at r [] = 0
distance_at r (x ∷ xs) = pick (x.rank == r) x.distance (distance_at r xs)

-- the last place before the hub of rank r on the chain of neighbours from v, which has no more than k places
abbrev pub last_before : Table → ℕ → ℕ → ℕ → ℕ
last_before t r zero v = v
last_before t r (suc k) v =
    let w : ℕ = neighbour_at r (t.row v) in
    pick (w == place t.order r) v (last_before t r k w)

-- the hop from u towards v over the hub that their rows share: by u's entry, or, where u is the hub, to the last place before it on the chain from v
abbrev pub hop_over : Table → ℕ → ℕ → Meeting → Hop
hop_over t u v m =
    let w : ℕ = neighbour_at m.rank (t.row u) in
    let x : ℕ = last_before t m.rank m.sum v in
    pick (place t.order m.rank == u)
    (record { to = x; length = distance_at m.rank (t.row x) })
    (record { to = w; length = distance_at m.rank (t.row u) - distance_at m.rank (t.row w) })

-- the hop, where the rows share a hub
abbrev pub hop_by : Table → ℕ → ℕ → Option Meeting → Hop
hop_by t u v None = record { to = u; length = 0 }
hop_by t u v (Some m) = hop_over t u v m

-- the way rule: over the lowest hub that gives the distance
abbrev pub rule_by : Table → ℕ → ℕ → Hop
rule_by t u v = hop_by t u v (merge (t.row u) (t.row v))

-- the hop goes from u by a duct, and begins a way of length d to v
abbrev pub Towards : ℕ → List Row → ℕ → ℕ → ℕ → Hop → Type 0
Towards n ds u v d h = Joined ds u h.to h.length × ((e : ℕ) × (distance n ds h.to v ≡ Some e) × (h.length + e ≡ d))
