-- What a sound meaning says of distances and of its way rule. Assumes nothing.
use Rattle.std.proofs.Common.{◌≡◌, ℕ, ◌+◌, ◌<◌, ◌≤◌, Some, subst}
use Rattle.ways.specs.Way.{Hop, Joined}
use Rattle.ways.proofs.Graph.{to_in, some_length}
use Rattle.ways.proofs.Reaches.{distance_is}
use Rattle.ways.proofs.Metric.{short}
use Rattle.oracle.specs.Meaning.{Meaning, Sound, Towards, far}
use Rattle.oracle.specs.Laws.{FarIs}

-- its distance is that over its ducts
pub far_is : FarIs
far_is m u v s iu = distance_is m.count m.ducts u v s.lawful iu

-- a distance fits 32 bits
pub far_short : (m : Meaning) (u v d : ℕ) → Sound m → u < m.count → far m u v ≡ Some d → d ≤ 4095000000
far_short m u v d s iu e = short m.count m.ducts u v d s.few s.lawful iu e

-- a hop by the rule: a listed duct, at least 1 long, to a place with the rest of the distance
abbrev pub Onward : Meaning → ℕ → ℕ → ℕ → Hop → Type 0
Onward m u v d h = Joined m.ducts u h.to h.length × (h.to < m.count) × (1 ≤ h.length) × ((e : ℕ) × (far m h.to v ≡ Some e) × (h.length + e ≡ d))

pub rule_step : (m : Meaning) (u v d : ℕ) → Sound m → u < m.count → v < m.count → (u ≡ v → ⊥) → far m u v ≡ Some d → Onward m u v d (m.rule u v)
rule_step m u v d s iu iv ne e =
    let h : Hop = m.rule u v in
    let t : Towards m u v h (Some d) = subst (Towards m u v h) e (s.leads u v iu iv ne) in
    (t.0, to_in m.count m.ducts u h.to h.length s.lawful t.0, some_length m.count m.ducts u h.to h.length s.lawful t.0, t.1)
