-- What a plan answers, and what it leaves. Assumes nothing.
use Rattle.std.specs.Prelude.{◌≡◌, ℕ, ◌-◌, ◌*◌, ◌<◌, ◌≤◌, Bool, List, [], ◌∷◌, ◌++◌, length, drop, Some, None, Ok, Err, Option, Result}
use Rattle.ways.specs.declared.row.Row.{Row}
use Rattle.ways.specs.Nearest.{no_place}
use Rattle.ways.specs.Places.{outside}
use Rattle.oracle.specs.Meaning.{Meaning}
use Rattle.trees.specs.Connected.{weight, Net, Connected, Tree, TouchesAll}
use Rattle.trees.specs.Growth.{net}
use Rattle.plan.specs.declared.fault.PlanFault.{PlanFault}
use Rattle.plan.specs.declared.fault.PlanFault.TheVariants.{Count, NoPlace, Rows, NoSet}
use Rattle.plan.specs.declared.trunk.Trunk.{Trunk}
use Rattle.plan.specs.Choices.{Chosen}
use Rattle.plan.specs.Kept.{Lightest}
use Rattle.plan.specs.Trunks.{Tells}

-- a connected set that touches every group
abbrev pub Joining : Meaning → List (List ℕ) → Net → Type 0
Joining m gs c = Connected m.count m.ducts c × TouchesAll c gs

-- the trunk of the steps: places are chosen, a trunk grows from each of them, and the lightest is kept, the first grown among equals
abbrev pub Steps : Meaning → List (List ℕ) → ℕ → List Row → Type 0
Steps m [] x ds = ⊥
Steps m (first ∷ others) x ds = (cs : List ℕ) × Chosen m first others cs × Lightest m cs (length cs) x ds

-- a trunk is laid: it is that of the steps, and its numbers are told; its ducts fill the beginning of the memory, whose rest is as it was;
-- it is a tree of the oracle's ducts that touches every one of the g groups, and weighs at most g − 1 times any connected set that touches them all
pub record Planned (m : Meaning) (gs : List (List ℕ)) (old new : List Row) (t : Trunk) : Type 0 where
  pub ducts : List Row
  pub steps : Steps m gs t.start ducts
  pub tells : Tells t t.start ducts
  pub rows : new ≡ ducts ++ drop (length ducts) old
  pub tree : Tree m.count m.ducts (net t.start ducts)
  pub touches : TouchesAll (net t.start ducts) gs
  pub bounded : (c : Net) → Joining m gs c → t.weight ≤ (length gs - 1) * weight c.ducts

-- the first, or else the second
abbrev pub or_else : Option ℕ → Option ℕ → Option ℕ
or_else None q = q
or_else (Some p) q = Some p

-- the first place of the groups that is not below n
abbrev pub outside_groups : ℕ → List (List ℕ) → Option ℕ
outside_groups n [] = None
outside_groups n (g ∷ gs) = or_else (outside n g) (outside_groups n gs)

-- the number of groups is 1 to 64
abbrev pub FewGroups : List (List ℕ) → Type 0
FewGroups gs = (1 ≤ length gs) × (length gs ≤ 64)

-- the call can be planned: the groups are 1 to 64, their places are the oracle's, and the memory has room for every tree
pub record Admitted (n : ℕ) (gs : List (List ℕ)) (room : ℕ) : Type 0 where
  pub few : FewGroups gs
  pub inside : outside_groups n gs ≡ None
  pub roomy : n - 1 ≤ room

-- the first check that fails
abbrev pub Refused : ℕ → List (List ℕ) → ℕ → PlanFault → Type 0
Refused n gs room (Count groups) = (groups ≡ length gs) × (FewGroups gs → ⊥)
Refused n gs room (NoPlace place) = FewGroups gs × (outside_groups n gs ≡ Some place)
Refused n gs room (Rows needed) = FewGroups gs × (outside_groups n gs ≡ None) × (needed ≡ n - 1) × (room < needed)
Refused n gs room (NoSet groups) = ⊥

-- no trunk is laid: the call cannot be planned, or no connected set touches every group; the memory is as it was
abbrev pub Unplanned : Meaning → List (List ℕ) → List Row → PlanFault → Type 0
Unplanned m gs old (Count groups) = Refused m.count gs (length old) (Count groups)
Unplanned m gs old (NoPlace place) = Refused m.count gs (length old) (NoPlace place)
Unplanned m gs old (Rows needed) = Refused m.count gs (length old) (Rows needed)
Unplanned m gs old (NoSet groups) = Admitted m.count gs (length old) × (groups ≡ length gs) × ((c : Net) → Joining m gs c → ⊥)

-- the answer, and the memory after it
abbrev pub Outcome : Meaning → List (List ℕ) → List Row → List Row → Result Trunk PlanFault → Type 0
Outcome m gs old new (Ok t) = Admitted m.count gs (length old) × Planned m gs old new t
Outcome m gs old new (Err e) = Unplanned m gs old e × (new ≡ old)

-- the focus after it: empty where the oracle was asked, else as it was
abbrev pub FocusAfter : (ℕ → Bool) → (ℕ → Bool) → Result Trunk PlanFault → Type 0
FocusAfter old new (Ok t) = new ≡ no_place
FocusAfter old new (Err (Count groups)) = new ≡ old
FocusAfter old new (Err (NoPlace place)) = new ≡ old
FocusAfter old new (Err (Rows needed)) = new ≡ old
FocusAfter old new (Err (NoSet groups)) = new ≡ no_place
