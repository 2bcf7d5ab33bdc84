-- A set that grows from one place by walks to it. Assumes nothing.
use Rattle.std.specs.Prelude.{ℕ, List, [], ◌∷◌}
use Rattle.ways.specs.declared.row.Row.{Row}
use Rattle.ways.specs.Places.{On, Off, Apart}
use Rattle.ways.specs.Way.{Hop, Leads}
use Rattle.trees.specs.Connected.{Net}

-- no place of the first list is in the second
abbrev pub AllOff : List ℕ → List ℕ → Type 0
AllOff [] ys = Unit {0}
AllOff (x ∷ xs) ys = Off x ys × AllOff xs ys

-- the places of a walk from t, but the last
abbrev pub walked : ℕ → List Hop → List ℕ
walked t [] = []
walked t (h ∷ hs) = t ∷ walked h.to hs

-- the ducts of a walk from t, each from the place that it leaves
abbrev pub laid : ℕ → List Hop → List Row
laid t [] = []
laid t (h ∷ hs) = record { first = t; second = h.to; length = h.length } ∷ laid h.to hs

-- the places where the ducts start
abbrev pub firsts : List Row → List ℕ
firsts [] = []
firsts (d ∷ ds) = d.first ∷ firsts ds

-- the places of what was begun at x and has the ducts ds: each duct brought the place where it starts
abbrev pub held : ℕ → List Row → List ℕ
held x ds = x ∷ firsts ds

-- what was begun at x and has the ducts ds
abbrev pub net : ℕ → List Row → Net
net x ds = record { places = held x ds; ducts = ds }

-- the hops lead over ducts of the list ds from t to v, which is one of the places ps; all places before v differ, and none is one of ps
pub record Walk (ds : List Row) (ps : List ℕ) (t : ℕ) (hs : List Hop) (v : ℕ) : Type 0 where
  pub leads : Leads ds t hs v
  pub lands : On v ps
  pub apart : Apart (walked t hs)
  pub off : AllOff (walked t hs) ps
