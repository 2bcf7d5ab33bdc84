-- What a scan of neighbours and a scan of records find. Assumes nothing.
use Rattle.std.specs.Prelude.{◌≡◌, ℕ, ◌<◌, Bool, true, List, length, Some, None, Option, ◌≢◌}
use Rattle.ways.specs.Options.{plus}
use Rattle.frame.specs.declared.arc.Arc.{Arc}
use Rattle.frame.specs.Fans.{arc_at}
use Rattle.search.specs.declared.record.Record.{Record}
use Rattle.search.specs.State.{known}
use Rattle.search.specs.Plain.{alike}

-- the arc at i leads on to where the records measure from, seen from a place at the distance d
abbrev pub leads_on : List Record → List Arc → ℕ → ℕ → Bool
leads_on rs ls d i = alike (plus (Some (arc_at ls i).length) (known rs (arc_at ls i).to)) (Some d)

-- none of the first k arcs does
abbrev pub Passed : List Record → List Arc → ℕ → ℕ → Type 0
Passed rs ls d k = (i : ℕ) → i < k → leads_on rs ls d i ≢ true

-- the first arc that does, or none
abbrev pub Chosen : List Record → List Arc → ℕ → Option Arc → Type 0
Chosen rs ls d None = Passed rs ls d (length ls)
Chosen rs ls d (Some a) = (k : ℕ) × (k < length ls) × (a ≡ arc_at ls k) × Passed rs ls d k × (leads_on rs ls d k ≡ true)
