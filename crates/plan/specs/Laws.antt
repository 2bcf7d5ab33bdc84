-- What is proved of plans. Assumes nothing.
use Rattle.std.specs.Prelude.{◌≡◌, ℕ, ◌<◌, Bool, true, List, length, is_ok, Result}
use Rattle.ways.specs.declared.row.Row.{Row}
use Rattle.ways.specs.Way.{Hop, total}
use Rattle.oracle.specs.Meaning.{Meaning, Sound}
use Rattle.trees.specs.Connected.{Net}
use Rattle.plan.specs.declared.branch.Branch.{Branch}
use Rattle.plan.specs.declared.fault.PlanFault.{PlanFault}
use Rattle.plan.specs.declared.trunk.Trunk.{Trunk}
use Rattle.plan.specs.Plans.{Joining, Steps, Admitted, Outcome}
use Rattle.plan.specs.Trunks.{NearTrunk, Grown}
use Rattle.plan.specs.Walks.{Walked}

-- a walk to a trunk meets it at the nearest place, and is as long as the distance to it
abbrev pub WalkMeets : Type 0
WalkMeets = (m : Meaning) (trunk : ℕ → Bool) (b : Branch) (hs : List Hop) (meet : ℕ) → Sound m → b.from < m.count → NearTrunk m trunk b.from (record { place = b.to; distance = b.distance }) → Walked m.rule trunk b.from b.to hs meet → (meet ≡ b.to) × (total hs ≡ b.distance)

-- one trunk grows from a place
abbrev pub TrunkUnique : Type 0
TrunkUnique = (m : Meaning) (x : ℕ) (cs : List ℕ) (ds es : List Row) → Grown m x cs ds → Grown m x cs es → ds ≡ es

-- the steps name one trunk: its start and its ducts in their order
abbrev pub StepsUnique : Type 0
StepsUnique = (m : Meaning) (gs : List (List ℕ)) (x y : ℕ) (ds es : List Row) → Steps m gs x ds → Steps m gs y es → (x ≡ y) × (ds ≡ es)

-- where a call can be planned, a trunk is laid exactly where some connected set touches every group
abbrev pub LaidExactly : Type 0
LaidExactly = (m : Meaning) (gs : List (List ℕ)) (old new : List Row) (r : Result Trunk PlanFault) → Outcome m gs old new r → Admitted m.count gs (length old) → (((c : Net) × Joining m gs c) → is_ok r ≡ true) × (is_ok r ≡ true → (c : Net) × Joining m gs c)
