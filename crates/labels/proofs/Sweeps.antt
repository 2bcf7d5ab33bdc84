-- The loop of a pruned search. Assumes nothing.
use Rattle.std.proofs.Common.{◌≡◌, ℕ, ◌+◌, ◌*◌, ◌<◌, ◌≤◌, Bool, true, false, cond, eqb, ltb, leb, ◌⊎◌, List, [], ◌∷◌, length, All, get_or, set, Some, None, Option, Result, sym, refl, ap, ◌∙◌, subst, inl, inr, arith, eq-eqb, ne_eqb}
use native.Mathlib.Decide.{ℕ_discrete, dec_le}
use Rattle.std.specs.List.{AllByRecursion}
use Rattle.std.specs.List.Sorted.{IsPermutation}
use Rattle.std.proofs.ByRecursion.{All-weaker}
use Rattle.std.proofs.lemmas.List.{get_or_default, get_or_past}
use Rattle.std.proofs.lemmas.Bool.{ltb-true, eqb-true, both_ways}
use Rattle.heap.specs.declared.search.SearchEntry.{SearchEntry}
use Rattle.heap.specs.Bag.{Popped}
use Rattle.heap.specs.Order.{earlier, Heaped}
use Rattle.heap.specs.Entries.{sooner}
use Rattle.search.specs.State.{left}
use Rattle.search.proofs.Counts.{left_settled, left_all}
use Rattle.frame.specs.declared.arc.Arc.{Arc}
use Rattle.frame.specs.Neighbours.{Neighbours, degree}
use Rattle.frame.proofs.Degrees.{degrees_sum}
use Rattle.ways.specs.declared.row.Row.{Row}
use Rattle.ways.specs.Options.{pick, AtMost}
use Rattle.ways.proofs.Graph.{no_longer}
use Rattle.ways.proofs.Metric.{not_both}
use Rattle.hubs.specs.declared.entry.Entry.{Entry}
use Rattle.hubs.specs.Labels.{place, In}
use Rattle.hubs.specs.Search.{said, Written}
use Rattle.hubs.proofs.Hubs.{place_in}
use Rattle.hubs.proofs.Searching.{search_grows}
use Rattle.labels.specs.declared.fault.LabelsFault.{LabelsFault}
use Rattle.labels.specs.declared.record.Record.{Record}
use Rattle.labels.specs.Table.{no_entry, row_in, Fits, Behind}
use Rattle.labels.specs.State.{blank, is_hub, length_in, settled_in, hub_in, known, done, got, first_record, Upto, SameSearch, Laid}
use Rattle.labels.specs.Pruning.{Due, Pruning}
use Rattle.labels.specs.Rounds.{Ready, Searching, Settles, Adds, Visiting, Visited, Advanced}
use Rattle.labels.proofs.Counts.{left_has, left_most}
use Rattle.labels.proofs.Layouts.{at_in, upto_set, field_kept}
use Rattle.labels.proofs.Marks.{at_new, at_other}
use Rattle.labels.proofs.Pruning as theory
use Rattle.labels.proofs.Visits.{laid_keep, row_was}

-- the ranks of a row are below n
pub ranks_at : (n : ℕ) (xs : List Entry) → ((e : Entry) → In e xs → e.rank < n) → All (λ e. e.rank < n) xs
ranks_at n xs h i d l = subst (λ (e : Entry). e.rank < n) (get_or_default xs i no_entry d l) (h (get_or xs i no_entry) (at_in xs i l))

-- what the loop keeps true
pub record Sweep (n : ℕ) (ds : List Row) (order : List ℕ) (w r : ℕ) (row : ℕ → List Entry) (cap : ℕ) (counts : List ℕ) (entries : List Entry) (rs : List Record) (q : List SearchEntry) : Type 0 where
  pub floor : ℕ
  pub searching : Searching n ds order w r row floor counts entries rs q
  pub room : length q + left (degree ds) (done (r + 1) rs) n ≤ cap
  pub short : (v d : ℕ) → got (r + 1) rs v ≡ Some d → d + 1000000 * left (λ _. 1) (done (r + 1) rs) n + 1000000 ≤ 1000000 * n

-- how it begins
module _ (n : ℕ) (ds : List Row) (order : List ℕ) (w r : ℕ) (counts : List ℕ) (entries : List Entry) (before rs : List Record) (q : List SearchEntry) (cap : ℕ)
    (ready : Ready n ds order r (row_in w counts entries)) (size : length rs ≡ n) (older : Upto r before) (same-as : SameSearch before rs) (upto : Upto (r + 1) rs)
    (laid : Laid (r + 1) rs (row_in w counts entries (place order r)) (length (row_in w counts entries (place order r)))) (fits : Fits n w counts entries) (behind : Behind n w counts entries)
    (bag : IsPermutation (record { distance = 0; place = place order r } ∷ []) q) (one : length q ≤ 1) (enough : 2 * length ds < cap) where
  s : ℕ
  s = place order r

  at : place order r < length rs
  at = omega (arith, size, place_in n order ready.ordered r ready.inside)

  abbrev new : List Record
  new = set rs (place order r) (first_record (r + 1) (get_or rs (place order r) blank))

  other_round : (v : ℕ) → eqb (get_or rs v blank).round (r + 1) ≡ false
  other_round v = ne_eqb (get_or rs v blank).round (r + 1) (λ z. omega (arith, same-as.round v, older.came v))

  none_known : (v : ℕ) → known (r + 1) rs v ≡ None
  none_known v = rw (other_round v) refl

  none_got : (v : ℕ) → got (r + 1) rs v ≡ None
  none_got v = go (is_hub (get_or rs v blank).stage)
    where
      go : (b : Bool) → pick b (known (r + 1) rs v) None ≡ None
      go true = none_known v
      go false = refl

  now_known : known (r + 1) (set rs (place order r) (first_record (r + 1) (get_or rs (place order r) blank))) (place order r) ≡ Some 0
  now_known = at_new (length_in (r + 1)) rs (place order r) (first_record (r + 1) (get_or rs (place order r) blank)) at ∙ rw (eq-eqb (r + 1) (r + 1) refl) refl

  now_done : (v : ℕ) → done (r + 1) (set rs (place order r) (first_record (r + 1) (get_or rs (place order r) blank))) v ≡ false
  now_done v = go (ℕ_discrete v (place order r))
    where
      first : settled_in (r + 1) (first_record (r + 1) (get_or rs (place order r) blank)) ≡ false
      first = rw (eq-eqb (r + 1) (r + 1) refl) refl

      go : Dec (v ≡ place order r) → done (r + 1) new v ≡ false
      go (yes z) = ap (done (r + 1) new) z ∙ at_new (settled_in (r + 1)) rs (place order r) (first_record (r + 1) (get_or rs (place order r) blank)) at ∙ first
      go (no ne) = at_other (settled_in (r + 1)) rs (place order r) (first_record (r + 1) (get_or rs (place order r) blank)) at v ne ∙ rw (other_round v) refl

  now_got : (v : ℕ) → got (r + 1) (set rs (place order r) (first_record (r + 1) (get_or rs (place order r) blank))) v ≡ None
  now_got v = go (ℕ_discrete v (place order r))
    where
      go : Dec (v ≡ place order r) → got (r + 1) new v ≡ None
      go (yes z) = ap (got (r + 1) new) z ∙ at_new (hub_in (r + 1)) rs (place order r) (first_record (r + 1) (get_or rs (place order r) blank)) at
      go (no ne) = at_other (hub_in (r + 1)) rs (place order r) (first_record (r + 1) (get_or rs (place order r) blank)) at v ne ∙ none_got v

  pub sweep_begins : Sweep n ds order w r (row_in w counts entries) cap counts entries (set rs (place order r) (first_record (r + 1) (get_or rs (place order r) blank))) q
  sweep_begins = record {
    floor = 0;
    searching = record {
      pruning = theory.begun ds (said order (row_in w counts entries) r) (place order r) (known (r + 1) new) (done (r + 1) new) (got (r + 1) new) q now_known (λ v ne. at_other (length_in (r + 1)) rs (place order r) (first_record (r + 1) (get_or rs (place order r) blank)) at v ne ∙ none_known v) now_done now_got bag;
      laid = laid_keep (r + 1) rs new (row_in w counts entries (place order r)) (length (row_in w counts entries (place order r)))
          (field_kept (λ y. y.laid_round) rs (place order r) (first_record (r + 1) (get_or rs (place order r) blank)) at refl) (field_kept (λ y. y.laid) rs (place order r) (first_record (r + 1) (get_or rs (place order r) blank)) at refl) laid;
      written = λ v i. subst (λ (o : Option ℕ). Written ds order r (got (r + 1) new) v o (row_in w counts entries v) (row_in w counts entries v)) (sym (now_got v)) refl;
      fits = fits;
      behind = behind;
      upto = upto_set (r + 1) rs (place order r) (first_record (r + 1) (get_or rs (place order r) blank)) at upto (omega arith) (upto.laid (place order r));
    };
    room = omega (arith, left_all (degree ds) (done (r + 1) new) n now_done, degrees_sum n ds ready.lawful);
    short = λ v d g. absurd (not_both (now_got v) g);
  }

nearer : (a b p q : ℕ) → earlier a b p q ≡ true → a ≤ b
nearer a b p q h = go (ltb a b) refl (eqb a b) refl (leb p q) h
  where
    go : (s : Bool) → ltb a b ≡ s → (t : Bool) → eqb a b ≡ t → (r : Bool) → cond s true (cond t r false) ≡ true → a ≤ b
    go true e t f r k = omega (arith, ltb-true a b e)
    go false e true f r k = omega (arith, eqb-true a b f)
    go false e false f r k = absurd (both_ways false refl k)

-- whether the round has settled v, by another name of its number
pub at_round : {j k : ℕ} {b : Bool} (rs : List Record) (v : ℕ) → j ≡ k → b ≡ done j rs v → done k rs v ≡ b
at_round {b = b} rs v z h = subst (λ (y : ℕ). done y rs v ≡ b) z (sym h)

-- the entry e is taken out of q, which leaves q'
pub record Turn (n : ℕ) (ds : List Row) (order : List ℕ) (w r : ℕ) (row : ℕ → List Entry) (cap : ℕ) (counts : List ℕ) (entries : List Entry) (rs : List Record) (q q' : List SearchEntry) (e : SearchEntry) : Type 0 where
  pub sweep : Sweep n ds order w r row cap counts entries rs q
  pub ready : Ready n ds order r row
  pub few : n ≤ 4096
  pub size : length rs ≡ n
  pub bag : IsPermutation q (e ∷ q')
  pub before : AllByRecursion (λ y. sooner e y ≡ true) q
  pub fewer : length q' + 1 ≡ length q

pub turn : {n : ℕ} {ds : List Row} {order : List ℕ} {w r : ℕ} {row : ℕ → List Entry} {cap : ℕ} {counts : List ℕ} {entries : List Entry} {rs : List Record} {q q' : List SearchEntry} {e : SearchEntry} → Sweep n ds order w r row cap counts entries rs q → Ready n ds order r row → n ≤ 4096 → length rs ≡ n → Popped sooner e q q' → Heaped sooner q → Turn n ds order w r row cap counts entries rs q q' e
turn sweep ready few size took heaped = record { sweep = sweep; ready = ready; few = few; size = size; bag = took.shuffled; before = took.first heaped; fewer = took.shorter }

module _ {n : ℕ} {ds : List Row} {order : List ℕ} {w r : ℕ} {row : ℕ → List Entry} {cap : ℕ} {counts : List ℕ} {entries : List Entry} {rs : List Record} {q q' : List SearchEntry} {e : SearchEntry} (t : Turn n ds order w r row cap counts entries rs q q' e) where
  abbrev sweep : Sweep n ds order w r row cap counts entries rs q
  sweep = t.sweep

  abbrev ready : Ready n ds order r row
  ready = t.ready

  abbrev size : length rs ≡ n
  size = t.size

  abbrev bag : IsPermutation q (e ∷ q')
  bag = t.bag

  k : ℕ
  k = r + 1

  first : AllByRecursion (λ y. e.distance ≤ y.distance) q
  first = All-weaker (λ y. sooner e y ≡ true) (λ y. e.distance ≤ y.distance) (λ y h. nearer e.distance y.distance e.place y.place h) q t.before

  p : Pruning ds (Due ds (got (r + 1) rs)) (said order row r) (place order r) sweep.floor (known (r + 1) rs) (done (r + 1) rs) (got (r + 1) rs) q
  p = sweep.searching.pruning

  pub in_place : e.place < n
  in_place = go (dec_le (length rs) e.place) (theory.known_place ds (said order row r) (place order r) sweep.floor (known (r + 1) rs) (done (r + 1) rs) (got (r + 1) rs) q q' e p bag first)
    where
      never : (b : Bool) → eqb 0 (r + 1) ≡ b → AtMost (pick b (Some 0) None) e.distance → ⊥
      never true z h = omega (arith, eqb-true 0 (r + 1) z)
      never false z h = h

      go : Dec (length rs ≤ e.place) → AtMost (known (r + 1) rs e.place) e.distance → e.place < n
      go (yes le) h = absurd (never (eqb 0 (r + 1)) refl (subst (λ (x : Record). AtMost (length_in (r + 1) x) e.distance) (get_or_past rs e.place blank le) h))
      go (no gt) h = omega (arith, size)

  pub sweep_skips : done (r + 1) rs e.place ≡ true → Sweep n ds order w r row cap counts entries rs q'
  sweep_skips was = record {
    floor = sweep.floor;
    searching = record {
      pruning = theory.skipped ds (said order row r) (place order r) sweep.floor (known (r + 1) rs) (done (r + 1) rs) (got (r + 1) rs) q q' e p bag first was;
      laid = sweep.searching.laid;
      written = sweep.searching.written;
      fits = sweep.searching.fits;
      behind = sweep.searching.behind;
      upto = sweep.searching.upto;
    };
    room = omega (arith, sweep.room);
    short = sweep.short;
  }

  module _ (waiting : done (r + 1) rs e.place ≡ false) where
    pub visiting : (arcs : List Arc) → Neighbours ds e.place arcs → Visiting n ds order w r row e arcs counts entries rs q q'
    visiting arcs nb = record { ready = ready; arcs_are = nb; bag = bag; first = first; floor = sweep.floor; searching = sweep.searching; waiting = waiting }

    -- its length is that of so few ducts
    pub bounded : e.distance + 1000000 * left (λ _. 1) (done (r + 1) rs) n ≤ 1000000 * n
    bounded = go (ℕ_discrete e.place (place order r))
      where
        exact : known (r + 1) rs e.place ≡ Some e.distance
        exact = theory.exact ds (said order row r) (place order r) sweep.floor (known (r + 1) rs) (done (r + 1) rs) (got (r + 1) rs) q q' e p bag first waiting

        go : Dec (e.place ≡ place order r) → e.distance + 1000000 * left (λ _. 1) (done (r + 1) rs) n ≤ 1000000 * n
        go (yes z) =
            let zero-d : e.distance ≤ 0 = subst (λ (o : Option ℕ). AtMost o 0) (ap (known (r + 1) rs) (sym z) ∙ exact) p.kept.begins in
            omega (arith, left_most (done (r + 1) rs) n)
        go (no ne) =
            let (x, (len, b, j, g, z)) = p.from e.place e.distance exact ne in
            omega (arith, sweep.short x b g, no_longer n ds e.place x len ready.lawful j)

    pub is_short : e.distance ≤ 4095000000
    is_short = omega (arith, bounded, left_has (λ _. 1) (done (r + 1) rs) n e.place in_place waiting)

    pub room_now : (arcs : List Arc) → Neighbours ds e.place arcs → length q' + length arcs ≤ cap
    room_now arcs nb = omega (arith, sweep.room, nb.count, left_has (degree ds) (done (r + 1) rs) n e.place in_place waiting)

    pub ranks_now : (v : ℕ) → v ≡ w → All (λ g. g.rank < length rs) (row_in v counts entries e.place)
    ranks_now v z = subst (λ (u : ℕ). All (λ g. g.rank < length rs) (row_in u counts entries e.place)) (sym z) (subst (λ (m : ℕ). All (λ g. g.rank < m) (row_in w counts entries e.place)) (sym size) ranks)
      where
        same_row : row_in w counts entries e.place ≡ row e.place
        same_row = row_was n ds order w r row e counts entries rs q q' sweep.floor sweep.searching bag first waiting in_place

        ranks : All (λ g. g.rank < n) (row_in w counts entries e.place)
        ranks = ranks_at n (row_in w counts entries e.place) (λ g i. omega (arith, ready.inside, (ready.exact.only e.place g in_place (subst (In g) same_row i)).0))

    -- the place was visited, in memory of the same size
    pub visited : (v : ℕ) → v ≡ w → (arcs : List Arc) → Neighbours ds e.place arcs → (counts' : List ℕ) (entries' : List Entry) (rs' : List Record) (q'' : List SearchEntry) (result : Result (Unit {0}) LabelsFault)
        → (Visiting (length counts) ds order v r row e arcs counts entries rs q q' → Visited (length counts) ds order v r row e rs counts' entries' rs' q'' result) → Visited n ds order w r row e rs counts' entries' rs' q'' result
    visited v z arcs nb counts' entries' rs' q'' result f =
        subst (λ (m : ℕ). Visiting m ds order w r row e arcs counts entries rs q q' → Visited m ds order w r row e rs counts' entries' rs' q'' result) sweep.searching.fits.counted
        (subst (λ (u : ℕ). Visiting (length counts) ds order u r row e arcs counts entries rs q q' → Visited (length counts) ds order u r row e rs counts' entries' rs' q'' result) z f) (visiting arcs nb)

    module _ {arcs : List Arc} (nb : Neighbours ds e.place arcs) {counts' : List ℕ} {entries' : List Entry} {rs' : List Record} {q'' : List SearchEntry}
        (next : Searching n ds order w r row e.distance counts' entries' rs' q'') (settles : Settles (r + 1) e.place rs rs') (adds : Adds (r + 1) e.place e.distance rs rs') (longer : length q'' ≤ length q' + length arcs) where
      fewer_left : left (degree ds) (done (r + 1) rs') n + degree ds e.place ≡ left (degree ds) (done (r + 1) rs) n
      fewer_left = left_settled (degree ds) (done (r + 1) rs) (done (r + 1) rs') n e.place in_place waiting settles.0 settles.1

      one_less : left (λ _. 1) (done (r + 1) rs') n + 1 ≡ left (λ _. 1) (done (r + 1) rs) n
      one_less = left_settled (λ _. 1) (done (r + 1) rs) (done (r + 1) rs') n e.place in_place waiting settles.0 settles.1

      pub sweep_less : length q'' + left (degree ds) (done (r + 1) rs') n < length q + left (degree ds) (done (r + 1) rs) n
      sweep_less = omega (arith, fewer_left, nb.count, t.fewer)

      pub sweep_goes_on : Sweep n ds order w r row cap counts' entries' rs' q''
      sweep_goes_on = record {
        floor = e.distance;
        searching = next;
        room = omega (arith, sweep.room, sweep_less);
        short = λ v d g. which v d (adds v d g);
      }
        where
          which : (v d : ℕ) → (got (r + 1) rs v ≡ Some d) ⊎ ((v ≡ e.place) × (d ≡ e.distance)) → d + 1000000 * left (λ _. 1) (done (r + 1) rs') n + 1000000 ≤ 1000000 * n
          which v d (inl g) = omega (arith, sweep.short v d g, one_less)
          which v d (inr (z, y)) = omega (arith, bounded, one_less)

-- nothing waits: the rows hold the hubs of one rank more
pub advanced : {n : ℕ} {ds : List Row} {order : List ℕ} {w r : ℕ} {row : ℕ → List Entry} {cap : ℕ} {counts : List ℕ} {entries : List Entry} {rs : List Record} {q : List SearchEntry} → Sweep n ds order w r row cap counts entries rs q → Ready n ds order r row → q ≡ [] → Advanced n ds order w r counts entries rs
advanced {n} {ds} {order} {w} {r} {row} {cap} {counts} {entries} {rs} {q} sweep ready none =
    let is : place order r < n = place_in n order ready.ordered r ready.inside in
    let p : Pruning ds (Due ds (got (r + 1) rs)) (said order row r) (place order r) sweep.floor (known (r + 1) rs) (done (r + 1) rs) (got (r + 1) rs) [] = subst (Pruning ds (Due ds (got (r + 1) rs)) (said order row r) (place order r) sweep.floor (known (r + 1) rs) (done (r + 1) rs) (got (r + 1) rs)) none sweep.searching.pruning in
    let done' = theory.finished n ds order row r sweep.floor (known (r + 1) rs) (done (r + 1) rs) (got (r + 1) rs) ready.lawful is p in
    record {
      exact = search_grows n ds order row (row_in w counts entries) r (got (r + 1) rs) ready.lawful ready.ordered ready.exact ready.inside done' sweep.searching.written;
      fits = sweep.searching.fits;
      behind = sweep.searching.behind;
      upto = sweep.searching.upto;
    }
