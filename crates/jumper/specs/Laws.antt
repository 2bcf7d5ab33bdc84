-- What is proved of the duct that a jumper adds. Assumes nothing.
use Rattle.std.specs.Prelude.{◌≡◌, ℕ, ◌<◌, Ok}
use Rattle.ways.specs.Way.{LawfulDuct}
use Rattle.oracle.specs.Meaning.{Meaning, Sound, far}
use Rattle.jumper.specs.Jumped.{duct, verdict, least, with_duct, jumped}

-- a duct is accepted exactly where it is lawful
abbrev pub AcceptedLawful : Type 0
AcceptedLawful = (n a b len : ℕ) → (verdict n a b len ≡ Ok tt → LawfulDuct n (duct a b len)) × (LawfulDuct n (duct a b len) → verdict n a b len ≡ Ok tt)

-- with one more duct, the distance is the least of three: without it, over it one way, over it the other way
abbrev pub ThreeSums : Type 0
ThreeSums = (m : Meaning) (a b len u v : ℕ) → Sound m → LawfulDuct m.count (duct a b len) → u < m.count → v < m.count → far (with_duct m a b len) u v ≡ least m a b len u v

-- a jumper over a sound meaning is sound: its rule, too, leads by shortest ways
abbrev pub JumpedSound : Type 0
JumpedSound = (m : Meaning) (a b len : ℕ) → Sound m → Sound (jumped m a b len)
