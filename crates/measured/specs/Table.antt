-- The measured cases: what the definitions say of the worked example. Assumes nothing.
use Rattle.std.specs.Prelude.{◌≡◌, ℕ, [], ◌∷◌, Some}
use Rattle.ways.specs.Way.{Hop}
use Rattle.ways.specs.Distance.{distance}
use Rattle.oracle.specs.Meaning.{Meaning, far}
use Rattle.jumper.specs.Jumped.{jumped}
use Rattle.ranking.specs.Ranking.{Ranked}
use Rattle.measured.specs.Example.{ducts}

-- 0 to 3 is 900, by 1 and 2, and not the 1,000 of the duct that joins them
abbrev pub Far03 : Type 0
Far03 = distance 5 ducts 0 3 ≡ Some 900

-- the ranking order is 3, 0, 1, 2, 4
abbrev pub RankingOrder : Type 0
RankingOrder = Ranked 5 ducts (3 ∷ 0 ∷ 1 ∷ 2 ∷ 4 ∷ [])

-- over an oracle of the worked example, whatever its way rule, with the jumper 0–4 of 50: 0 to 3 is 200, and 1 to 4 is 350
abbrev pub JumperDistances : Type 0
JumperDistances = (rule : ℕ → ℕ → Hop) → let m : Meaning = jumped (record { count = 5; ducts = ducts; rule = rule }) 0 4 50 in (far m 0 3 ≡ Some 200) × (far m 1 4 ≡ Some 350)
