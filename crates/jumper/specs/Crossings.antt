-- What a jumper works out on the way to its answers. Assumes nothing.
use Rattle.std.specs.Prelude.{◌≡◌, ℕ, ◌+◌, ◌<◌, ◌≤◌, Bool, true, false, Some, None, Ok, Err, Option, Result, ◌==◌, nat_le, nat_lt}
use Rattle.std.specs.Option.{option_map}
use Rattle.ways.specs.Nearest.{Near, Nearest}
use Rattle.ways.specs.declared.row.Row.{Row}
use Rattle.ways.specs.Options.{pick, within}
use Rattle.oracle.specs.declared.fault.OracleFault.{OracleFault}
use Rattle.oracle.specs.declared.fault.OracleFault.TheVariants.{NoPlace}
use Rattle.jumper.specs.declared.sums.Sums.{Sums}
use Rattle.oracle.specs.Meaning.{Meaning, far}
use Rattle.oracle.specs.Answers.{Outside}
use Rattle.jumper.specs.Jumped.{crossing, turned}

-- the lengths of the three ways from u to v that a shortest one may be
abbrev pub Summed : Meaning → Row → ℕ → ℕ → Result Sums OracleFault → Type 0
Summed m d u v (Ok s) =
    (u < m.count) × (v < m.count) × (s.direct ≡ far m u v)
    × (s.there ≡ crossing m d.first d.second d.length u v) × (s.back ≡ crossing m d.second d.first d.length u v)
Summed m d u v (Err e) = Outside m.count u v e

-- the duct, or the duct from its other end where that is the shorter way
abbrev pub chosen : Row → Sums → Row
chosen d s = pick (within s.there s.back) d (turned d)

-- a length that fits 32 bits, where there is one
abbrev pub Brief : Option ℕ → Type 0
Brief None = Unit {0}
Brief (Some d) = d ≤ 4095000000

-- a place and its distance, from as many more millimetres away
abbrev pub farther : ℕ → Near → Near
farther more p = record { place = p.place; distance = more + p.distance }

-- the nearest place from the far end of a duct, seen over the duct and what comes before it
abbrev pub via : Option ℕ → ℕ → Option Near → Option Near
via None len p = None
via (Some d) len p = option_map (farther (d + len)) p

-- nearer, or as near and of no greater number
abbrev pub before : Near → Near → Bool
before p q = pick (nat_lt p.distance q.distance) true (pick (p.distance == q.distance) (nat_le p.place q.place) false)

-- the one that comes before the other
abbrev pub sooner : Option Near → Option Near → Option Near
sooner None q = q
sooner (Some p) None = Some p
sooner (Some p) (Some q) = pick (before p q) (Some p) (Some q)

-- the nearest place in focus from x
abbrev pub Finds : Meaning → (ℕ → Bool) → ℕ → Option Near → Type 0
Finds m focus x p = Nearest m.count focus (far m x) p

-- what is found from the duct's second end, seen from v over its first
abbrev pub SeenOver : Meaning → (ℕ → Bool) → Row → ℕ → Option Near → Type 0
SeenOver m focus d v s = (p : Option Near) × Finds m focus d.second p × (s ≡ via (far m v d.first) d.length p)

-- the soonest of what is found from v, and of what is seen over the duct from either end
abbrev pub Seen : Meaning → (ℕ → Bool) → Row → ℕ → Result (Option Near) OracleFault → Type 0
Seen m focus d v (Ok s) =
    (v < m.count) × ((p : Option Near) × (q : Option Near) × (r : Option Near)
    × Finds m focus v p × SeenOver m focus d v q × SeenOver m focus (turned d) v r × (s ≡ sooner p (sooner q r)))
Seen m focus d v (Err e) = (m.count ≤ v) × (e ≡ NoPlace v)
