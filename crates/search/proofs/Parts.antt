-- A search over the first records of a longer memory. Assumes nothing.
use Rattle.std.proofs.Common.{◌≡◌, ℕ, ◌+◌, ◌-◌, ◌<◌, ◌≤◌, List, ◌++◌, length, get_or, take, drop, ap, ◌∙◌, arith}
use native.Mathlib.Decide.{dec_le}
use Rattle.std.proofs.lemmas.List.{get_or_append_left, get_or-append_right, get_or-take, get_or-drop, drop_at}
use Rattle.ways.specs.declared.row.Row.{Row}
use Rattle.ways.specs.Way.{Lawful}
use Rattle.ways.specs.Distance.{IsDistance, distance}
use Rattle.ways.proofs.Graph.{unique}
use Rattle.ways.proofs.Reaches.{distance_is}
use Rattle.search.specs.declared.record.Record.{Record}
use Rattle.search.specs.State.{blank, known, lit}
use Rattle.search.specs.Searched.{Found}

module _ (n : ℕ) (ds : List Row) (s : ℕ) (old part post : List Record) (long : length part ≡ n) (is : post ≡ drop n old) where
  same_at : (v : ℕ) → lit part v ≡ lit (take n old) v → lit (part ++ post) v ≡ lit old v
  same_at v h = go (dec_le n v)
    where
      go : Dec (n ≤ v) → lit (part ++ post) v ≡ lit old v
      go (no gt) =
          ap (λ (r : Record). r.focused) (get_or_append_left part post blank v (omega arith)) ∙ h
          ∙ ap (λ (r : Record). r.focused) (get_or-take n old v blank (omega arith))
      go (yes le) =
          let e : n + (v - n) ≡ v = omega arith in
          ap (λ (r : Record). r.focused)
          (get_or-append_right part post n v blank long le ∙ ap (λ (l : List Record). get_or l (v - n) blank) is ∙ get_or-drop n old (v - n) blank ∙ ap (λ (i : ℕ). get_or old i blank) e)

  pub found : Lawful n ds → s < n → ((v : ℕ) → IsDistance ds s v (known part v)) → ((v : ℕ) → lit part v ≡ lit (take n old) v) → Found n ds s old (part ++ post)
  found lawful in' far focus = record {
    distances = λ v l.
        ap (λ (r : Record). r.distance) (get_or_append_left part post blank v (omega arith))
        ∙ unique ds s v (known part v) (distance n ds s v) (far v) (distance_is n ds s v lawful in');
    focus = λ v. same_at v (focus v);
    rest = drop_at part post n long ∙ is;
  }
