-- One entry that is taken from the heap. Assumes nothing.
use Rattle.std.proofs.Common.{◌≡◌, ℕ, ◌+◌, ◌<◌, ◌≤◌, true, false, List, ◌∷◌, length, Some, sym, ap, ◌∙◌, subst, arith}
use native.Mathlib.Decide.{ℕ_discrete, dec_le}
use Rattle.std.specs.List.{AllByRecursion}
use Rattle.std.specs.List.Sorted.{IsPermutation}
use Rattle.std.proofs.ByRecursion.{All-weaker, all_shuffled}
use Rattle.std.proofs.lemmas.List.{get_or_past}
use Rattle.heap.specs.declared.search.SearchEntry.{SearchEntry}
use Rattle.heap.specs.Entries.{sooner}
use Rattle.heap.specs.Bag.{Popped}
use Rattle.heap.specs.Order.{Heaped}
use Rattle.heap.proofs.Orders.{sooner_nearer}
use Rattle.frame.specs.declared.frame.ClosedFrame.{ClosedFrame}
use Rattle.frame.specs.Of.{places_of, rows_of}
use Rattle.frame.proofs.Facts.{closed_few, closed_lawful}
use Rattle.ways.specs.declared.row.Row.{Row}
use Rattle.ways.specs.Way.{Joined, Lawful}
use Rattle.ways.specs.Options.{AtMost}
use Rattle.ways.proofs.Metric.{short}
use Rattle.ways.proofs.Graph.{unique}
use Rattle.ways.proofs.Reaches.{distance_is}
use Rattle.ways.specs.Distance.{distance}
use Rattle.frame.specs.Neighbours.{degree}
use Rattle.search.specs.declared.record.Record.{Record}
use Rattle.search.specs.State.{blank, known, done, settled_at, Kept, But, left}
use Rattle.search.proofs.Counts.{left_settled}
use Rattle.search.proofs.Steps.{known_new, known_other, done_new, done_other}
use Rattle.search.proofs.Theory as theory

-- a place with a distance is a place
numbered : (rs : List Record) (v t : ℕ) → AtMost (known rs v) t → v < length rs
numbered rs v t h = go (dec_le (length rs) v)
  where
    go : Dec (length rs ≤ v) → v < length rs
    go (yes le) = absurd (subst (λ (m : Record). AtMost m.distance t) (get_or_past rs v blank le) h)
    go (no gt) = omega arith

module _ (n : ℕ) (ds : List Row) (few : n ≤ 4096) (lawful : Lawful n ds) (rs : List Record) (size : length rs ≡ n)
    (s floor : ℕ) (q q' : List SearchEntry) (e : SearchEntry) (source : s < n)
    (k : Kept ds (Joined ds) s floor (known rs) (done rs) q) (bag : IsPermutation q (e ∷ q')) (before : AllByRecursion (λ y. sooner e y ≡ true) q) where
  first : AllByRecursion (λ y. e.distance ≤ y.distance) q
  first = All-weaker (λ y. sooner e y ≡ true) (λ y. e.distance ≤ y.distance) (λ y h. sooner_nearer e y h) q before

  pub place_in : e.place < length rs
  place_in = numbered rs e.place e.distance (all_shuffled (λ e. (floor ≤ e.distance) × AtMost (known rs e.place) e.distance) q (e ∷ q') bag k.listed).0.1

  pub skip : done rs e.place ≡ true → Kept ds (Joined ds) s floor (known rs) (done rs) q'
  skip = theory.skipped ds s floor (known rs) (done rs) q q' e k bag first

  module _ (unsettled : done rs e.place ≡ false) where
    pub brief : e.distance ≤ 4095000000
    brief = short n ds s e.place e.distance few lawful source (unique ds s e.place (distance n ds s e.place) (Some e.distance) (distance_is n ds s e.place lawful source) (theory.settled_distance ds s floor (known rs) (done rs) q q' e k bag first unsettled))

    pub same_known : (v : ℕ) → known (settled_at rs e.place) v ≡ known rs v
    same_known v = go (ℕ_discrete v e.place)
      where
        go : Dec (v ≡ e.place) → known (settled_at rs e.place) v ≡ known rs v
        go (yes p) = ap (known (settled_at rs e.place)) p ∙ known_new rs e.place (known rs e.place) true place_in ∙ ap (known rs) (sym p)
        go (no ne) = known_other rs e.place (known rs e.place) true place_in v ne

    is_settled : done (settled_at rs e.place) e.place ≡ true
    is_settled = done_new rs e.place (known rs e.place) true place_in

    other : (v : ℕ) → (v ≡ e.place → ⊥) → done (settled_at rs e.place) v ≡ done rs v
    other = done_other rs e.place (known rs e.place) true place_in

    pub known_is : known (settled_at rs e.place) e.place ≡ Some e.distance
    known_is = same_known e.place ∙ theory.exact ds s floor (known rs) (done rs) q q' e k bag first unsettled

    pub settle : Kept ds (But ds e.place) s e.distance (known (settled_at rs e.place)) (done (settled_at rs e.place)) q'
    settle = theory.settled ds s floor (known rs) (done rs) q q' e k bag first unsettled (known (settled_at rs e.place)) (done (settled_at rs e.place)) same_known is_settled other

    pub less : left (degree ds) (done (settled_at rs e.place)) n + degree ds e.place ≡ left (degree ds) (done rs) n
    less = left_settled (degree ds) (done rs) (done (settled_at rs e.place)) n e.place (subst (λ (x : ℕ). e.place < x) size place_in) unsettled is_settled other

pub record Visit (n : ℕ) (ds : List Row) (rs : List Record) (s : ℕ) (q' : List SearchEntry) (e : SearchEntry) : Type 0 where
  pub in_records : e.place < length rs
  pub in_places : e.place < n
  pub skips : done rs e.place ≡ true → (floor : ℕ) × Kept ds (Joined ds) s floor (known rs) (done rs) q'
  pub is_short : done rs e.place ≡ false → e.distance ≤ 4095000000
  pub is_known : done rs e.place ≡ false → known (settled_at rs e.place) e.place ≡ Some e.distance
  pub settles : done rs e.place ≡ false → Kept ds (But ds e.place) s e.distance (known (settled_at rs e.place)) (done (settled_at rs e.place)) q'
  pub lessens : done rs e.place ≡ false → left (degree ds) (done (settled_at rs e.place)) n + degree ds e.place ≡ left (degree ds) (done rs) n

pub visit : (n : ℕ) (ds : List Row) → n ≤ 4096 → Lawful n ds → (rs : List Record) → length rs ≡ n → (s : ℕ) (q q' : List SearchEntry) (e : SearchEntry) → s < n → ((floor : ℕ) × Kept ds (Joined ds) s floor (known rs) (done rs) q) → IsPermutation q (e ∷ q') → AllByRecursion (λ y. sooner e y ≡ true) q → Visit n ds rs s q' e
visit n ds few lawful rs size s q q' e source k bag before = record {
  in_records = place_in n ds few lawful rs size s k.0 q q' e source k.1 bag before;
  in_places = subst (λ (x : ℕ). e.place < x) size (place_in n ds few lawful rs size s k.0 q q' e source k.1 bag before);
  skips = λ d. (k.0, skip n ds few lawful rs size s k.0 q q' e source k.1 bag before d);
  is_short = brief n ds few lawful rs size s k.0 q q' e source k.1 bag before;
  is_known = known_is n ds few lawful rs size s k.0 q q' e source k.1 bag before;
  settles = settle n ds few lawful rs size s k.0 q q' e source k.1 bag before;
  lessens = less n ds few lawful rs size s k.0 q q' e source k.1 bag before;
}

-- the same of an entry that a heap in order gives
pub turn : (f : ClosedFrame) (rs : List Record) → length rs ≡ places_of f → (s : ℕ) {q q' : List SearchEntry} {e : SearchEntry} → s < places_of f → ((floor : ℕ) × Kept (rows_of f) (Joined (rows_of f)) s floor (known rs) (done rs) q) → Heaped sooner q → Popped sooner e q q' → Visit (places_of f) (rows_of f) rs s q' e
turn f rs size s {q} {q'} {e} source k ordered told =
    visit (places_of f) (rows_of f) (closed_few f) (closed_lawful f) rs size s q q' e source k told.shuffled (told.first ordered)
