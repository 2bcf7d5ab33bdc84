-- What the plain oracle means: the frame, with the smallest-numbered place that leads on as its way rule. Assumes nothing.
use Rattle.std.specs.Prelude.{ℕ, ◌+◌, ◌*◌, Bool, false, List, [], ◌∷◌, length, Some, None, Ok, Err, Option, Result, ◌==◌, nat_le, nat_lt}
use Rattle.ways.specs.declared.row.Row.{Row}
use Rattle.ways.specs.Way.{Hop}
use Rattle.ways.specs.Options.{pick, plus}
use Rattle.ways.specs.Distance.{distance}
use Rattle.oracle.specs.declared.fault.OracleFault.{OracleFault}
use Rattle.oracle.specs.declared.fault.OracleFault.TheVariants.{NoPlace, Records, Entries}
use Rattle.oracle.specs.Meaning.{Meaning}

-- both lengths are there, and they are equal
abbrev pub alike : Option ℕ → Option ℕ → Bool
alike None q = false
alike (Some d) None = false
alike (Some d) (Some e) = d == e

-- a duct of the length len from u to w begins a shortest way to where far measures
abbrev pub onward : (ℕ → Option ℕ) → ℕ → ℕ → ℕ → Bool
onward far u w len = alike (plus (Some len) (far w)) (far u)

-- the hop from a to b, if a is u and it begins a shortest way
abbrev pub leading : (ℕ → Option ℕ) → ℕ → ℕ → ℕ → ℕ → Option Hop
leading far a b len u = pick (a == u) (pick (onward far u b len) (Some (record { to = b; length = len })) None) None

-- the hop to the smaller place
abbrev pub smaller : Option Hop → Option Hop → Option Hop
smaller None q = q
smaller (Some h) None = Some h
smaller (Some h) (Some k) = pick (nat_le h.to k.to) (Some h) (Some k)

-- of the ducts of u that begin a shortest way, the hop to the smallest place
abbrev pub smallest : (ℕ → Option ℕ) → List Row → ℕ → Option Hop
smallest far [] u = None
smallest far (d ∷ ds) u =
    smaller (smaller (leading far d.first d.second d.length u) (leading far d.second d.first d.length u)) (smallest far ds u)

-- a hop to fall back on where there is no way
abbrev pub hop_or : Option Hop → Hop
hop_or None = record { to = 0; length = 0 }
hop_or (Some h) = h

-- the plain way rule
unfoldable pub plain_rule : ℕ → List Row → ℕ → ℕ → Hop
plain_rule n ds u v = hop_or (smallest (λ x. distance n ds x v) ds u)

-- the meaning of no places
abbrev pub nowhere : Meaning
nowhere = record { count = 0; ducts = []; rule = λ u v. record { to = 0; length = 0 } }

-- so many records and so much heap room are enough for n places and m ducts
abbrev pub enough : ℕ → ℕ → ℕ → ℕ → Bool
enough n m records room = pick (nat_le n records) (nat_lt (2 * m) room) false

-- the frame where the memory is enough, else no places
abbrev pub plain_meaning : ℕ → List Row → ℕ → ℕ → Meaning
plain_meaning n ds records room = pick (enough n (length ds) records room) (record { count = n; ducts = ds; rule = plain_rule n ds }) nowhere

-- n records are needed, then room for 2m + 1 heap entries
abbrev pub memory_verdict : ℕ → ℕ → ℕ → ℕ → Result (Unit {0}) OracleFault
memory_verdict n m records room = pick (nat_le n records) (pick (nat_lt (2 * m) room) (Ok tt) (Err (Entries (2 * m + 1)))) (Err (Records n))

-- and the source must be a place
abbrev pub search_verdict : ℕ → ℕ → ℕ → ℕ → ℕ → Result (Unit {0}) OracleFault
search_verdict n m records room source =
    pick (nat_le n records) (pick (nat_lt (2 * m) room) (pick (nat_lt source n) (Ok tt) (Err (NoPlace source))) (Err (Entries (2 * m + 1)))) (Err (Records n))
