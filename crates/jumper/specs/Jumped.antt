-- A jumper: one more duct laid over what an oracle means. Assumes nothing.
use Rattle.std.specs.Prelude.{ℕ, Bool, false, ◌∷◌, is_ok, Ok, Err, Option, Result, ◌==◌, nat_le, nat_lt}
use Rattle.ways.specs.declared.row.Row.{Row}
use Rattle.ways.specs.Options.{pick, within, lesser, through}
use Rattle.ways.specs.Way.{Hop}
use Rattle.oracle.specs.declared.fault.OracleFault.{OracleFault}
use Rattle.oracle.specs.declared.fault.OracleFault.TheVariants.{Limit, EqualEnds, NoPlace}
use Rattle.oracle.specs.Meaning.{Meaning, far}

-- the duct between a and b of the length len
abbrev pub duct : ℕ → ℕ → ℕ → Row
duct a b len = record { first = a; second = b; length = len }

-- the duct from its other end
abbrev pub turned : Row → Row
turned d = duct d.second d.first d.length

-- what is said of such a duct over n places: the length is judged first, then a, then b, and then whether they differ
unfoldable pub verdict : ℕ → ℕ → ℕ → ℕ → Result (Unit {0}) OracleFault
verdict n a b len =
    pick (pick (nat_le 1 len) (nat_le len 1000000) false)
    (pick (nat_lt a n) (pick (nat_lt b n) (pick (a == b) (Err (EqualEnds a)) (Ok tt)) (Err (NoPlace b))) (Err (NoPlace a)))
    (Err (Limit 3))

-- nothing is said against it
abbrev pub accepted : ℕ → ℕ → ℕ → ℕ → Bool
accepted n a b len = is_ok (verdict n a b len)

-- from u to the mark near, over the duct, and from its other end there to v
abbrev pub crossing : Meaning → ℕ → ℕ → ℕ → ℕ → ℕ → Option ℕ
crossing m near there len u v = through (far m u near) len (far m there v)

-- the least of three: without the duct; over it from a to b; over it from b to a
abbrev pub least : Meaning → ℕ → ℕ → ℕ → ℕ → ℕ → Option ℕ
least m a b len u v = lesser (far m u v) (lesser (crossing m a b len u v) (crossing m b a len u v))

-- from u over the duct where u is its near mark, and else by the rule towards that
abbrev pub enter : Meaning → ℕ → ℕ → ℕ → ℕ → Hop
enter m near there len u = pick (u == near) (record { to = there; length = len }) (m.rule u near)

-- the way rule with the duct: the first of the three that is least, towards its first mark
abbrev pub rule_with : Meaning → ℕ → ℕ → ℕ → ℕ → ℕ → Hop
rule_with m a b len u v =
    pick (within (far m u v) (lesser (crossing m a b len u v) (crossing m b a len u v))) (m.rule u v)
    (pick (within (crossing m a b len u v) (crossing m b a len u v)) (enter m a b len u) (enter m b a len u))

-- what an oracle means with one more duct
abbrev pub with_duct : Meaning → ℕ → ℕ → ℕ → Meaning
with_duct m a b len = record { count = m.count; ducts = duct a b len ∷ m.ducts; rule = rule_with m a b len }

-- with the duct where its numbers are accepted, and else as it was
unfoldable pub jumped : Meaning → ℕ → ℕ → ℕ → Meaning
jumped m a b len = pick (accepted m.count a b len) (with_duct m a b len) m
