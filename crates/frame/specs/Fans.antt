-- The arcs of a closed frame: both ways along each duct, sorted by place, each place's in one range. Assumes nothing.
use Rattle.std.specs.Prelude.{◌≡◌, ℕ, ◌+◌, ◌*◌, ◌<◌, ◌≤◌, cond, List, [], ◌∷◌, length, sum_by, ◌==◌, ◌≢◌, slice_index, slice_index_or}
use Rattle.std.specs.List.Sorted.{IsNonDecreasingBy}
use Rattle.ways.specs.declared.row.Row.{Row}
use Rattle.ways.specs.Way.{Joins, Joined}
use Rattle.frame.specs.declared.arc.Arc.{Arc}
use Rattle.frame.specs.Rows.{row_at, Sound}

-- arcs are sorted by this number: by where they begin, then by where they end, then by their duct
abbrev pub key : Arc → ℕ
key a = (a.from * 4294967296 + a.to) * 4294967296 + a.duct

-- along the duct of the number k, from its first end
abbrev pub forth : ℕ → Row → Arc
forth k d = record { from = d.first; to = d.second; duct = k; length = d.length }

-- along it from its second end
abbrev pub back : ℕ → Row → Arc
back k d = record { from = d.second; to = d.first; duct = k; length = d.length }

-- both ways along each duct, the first of which has the number k
abbrev pub arcs_from : ℕ → List Row → List Arc
arcs_from k [] = []
arcs_from k (d ∷ ds) = forth k d ∷ back k d ∷ arcs_from (k + 1) ds

-- what stands past the end of a list of arcs
abbrev pub no_arc : Arc
no_arc = record { from = 0; to = 0; duct = 0; length = 0 }

-- the arc at i
abbrev pub arc_at : List Arc → ℕ → Arc
arc_at arcs i = slice_index_or arcs i no_arc

-- the arcs before `at` begin before v, and no others
abbrev pub Parted : List Arc → ℕ → ℕ → Type 0
Parted arcs v at =
    (at ≤ length arcs)
    × ((i : ℕ) → i < at → (arc_at arcs i).from < v)
    × ((i : ℕ) → at ≤ i → i < length arcs → v ≤ (arc_at arcs i).from)

-- where the arcs of v begin
abbrev pub from_at : List ℕ → ℕ → ℕ
from_at offs v = slice_index offs v

-- the arc goes along the duct of its number
abbrev pub Named : List Row → Arc → Type 0
Named ds a = (a.duct < length ds) × Joins (row_at ds a.duct) a.from a.to a.length

-- f of each arc that begins at v
abbrev pub weight : (Arc → ℕ) → ℕ → Arc → ℕ
weight f v a = cond (a.from == v) (f a) 0

-- what a closed frame keeps: the arcs are those of its ducts, once each and sorted, and each place has the offset of its first
pub record Fanned (n : ℕ) (ds : List Row) (offs : List ℕ) (arcs : List Arc) : Type 0 where
  pub frame : Sound n ds
  pub count : n < length offs
  pub parted : (v : ℕ) → v < length offs → Parted arcs v (from_at offs v)
  pub rising : IsNonDecreasingBy key arcs
  pub named : (i : ℕ) → i < length arcs → Named ds (arc_at arcs i)
  pub whole : (v w len : ℕ) → Joined ds v w len → ((i : ℕ) → i < length arcs → (arc_at arcs i).from ≡ v → (arc_at arcs i).to ≡ w → (arc_at arcs i).length ≢ len) → ⊥
  pub once : (f : Arc → ℕ) → sum_by f arcs ≡ sum_by f (arcs_from 0 ds)

-- the same, as a ghost field can hold it
abbrev pub Sealed : ℕ → List Row → List ℕ → List Arc → Type 0
Sealed n ds offs arcs = (Fanned n ds offs arcs → ⊥) → ⊥
