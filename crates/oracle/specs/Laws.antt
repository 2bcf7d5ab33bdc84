-- What is proved of every oracle's meaning. Assumes nothing.
use Rattle.std.specs.Prelude.{◌≡◌, ℕ, ◌<◌, List, Some}
use Rattle.ways.specs.Way.{Hop}
use Rattle.ways.specs.Distance.{IsDistance}
use Rattle.oracle.specs.Meaning.{Meaning, Sound, far}
use Rattle.oracle.specs.Walked.{Walk}

-- what an oracle tells is the distance over its ducts
abbrev pub FarIs : Type 0
FarIs = (m : Meaning) (u v : ℕ) → Sound m → u < m.count → IsDistance m.ducts u v (far m u v)

-- where there is a way, the way rule walks one that is as long as the distance
abbrev pub RuleLeads : Type 0
RuleLeads = (m : Meaning) (u v d : ℕ) → Sound m → u < m.count → v < m.count → far m u v ≡ Some d → (hs : List Hop) × Walk m u v hs
