-- One place of a pruned search. Assumes nothing.
use Rattle.std.proofs.Common.{◌≡◌, ℕ, ◌+◌, ◌<◌, ◌≤◌, Bool, true, false, eqb, ◌⊎◌, List, [], ◌∷◌, ◌++◌, length, get_or, set, Some, None, Option, sym, refl, ap, ◌∙◌, subst, inl, inr, arith}
use native.Mathlib.Decide.{ℕ_discrete}
use Rattle.std.specs.List.{AllByRecursion, list_any}
use Rattle.std.specs.List.Sorted.{IsPermutation}
use Rattle.heap.specs.declared.search.SearchEntry.{SearchEntry}
use Rattle.frame.specs.declared.arc.Arc.{Arc}
use Rattle.ways.specs.declared.row.Row.{Row}
use Rattle.ways.specs.Options.{pick}
use Rattle.ways.proofs.Metric.{same, not_both}
use Rattle.hubs.specs.declared.entry.Entry.{Entry}
use Rattle.hubs.specs.Labels.{place, Hub, Rising}
use Rattle.hubs.specs.Merge.{Less, merge, sum_of}
use Rattle.hubs.specs.Search.{said, Back, BackFirst, Written}
use Rattle.hubs.proofs.Hubs.{place_in}
use Rattle.labels.specs.declared.record.Record.{Record}
use Rattle.labels.specs.declared.record.Stage.{Stage}
use Rattle.labels.specs.declared.record.Stage.TheVariants.{Cut, Hub as AtHub}
use Rattle.labels.specs.Table.{no_entry, count_of, row_in, Longer}
use Rattle.labels.specs.State.{blank, past, length_in, settled_in, hub_in, known, done, got, laid_at, staged, tells_by, Upto, Laid}
use Rattle.labels.specs.Steps.{Steady, Chosen, Followed}
use Rattle.labels.specs.Pruning.{Due, DueBut, Pruning}
use Rattle.labels.specs.Rounds.{Searching, Settles, Adds, Visiting}
use Rattle.labels.proofs.Layouts.{Tells, upto_set, field_kept, told_by}
use Rattle.labels.proofs.Marks.{at_new, at_other}
use Rattle.labels.proofs.Pruning as theory
use Rattle.labels.proofs.Tables.{row_length, fits_more, row_new, row_other, behind_more}

-- what is laid out stays, where its marks do
pub laid_keep : (k : ℕ) (rs rs' : List Record) (ys : List Entry) (i : ℕ) → ((v : ℕ) → (get_or rs' v blank).laid_round ≡ (get_or rs v blank).laid_round) → ((v : ℕ) → (get_or rs' v blank).laid ≡ (get_or rs v blank).laid) → Laid k rs ys i → Laid k rs' ys i
laid_keep k rs rs' ys i a b l = record { only = λ r c e. l.only r c (sym (same_at r) ∙ e); every = λ j m. same_at (get_or ys j no_entry).rank ∙ l.every j m }
  where
    same_at : (r : ℕ) → laid_at k rs' r ≡ laid_at k rs r
    same_at r = λ i. pick (eqb (a r i) k) (Some (b r i)) None

-- the row of a place that waits is as it was
pub row_was : (n : ℕ) (ds : List Row) (order : List ℕ) (w r : ℕ) (row : ℕ → List Entry) (e : SearchEntry) (counts : List ℕ) (entries : List Entry) (rs : List Record) (q q' : List SearchEntry) (floor : ℕ) → Searching n ds order w r row floor counts entries rs q → IsPermutation q (e ∷ q') → AllByRecursion (λ y. e.distance ≤ y.distance) q → done (r + 1) rs e.place ≡ false → e.place < n → row_in w counts entries e.place ≡ row e.place
row_was n ds order w r row e counts entries rs q q' floor s bag first waiting iv =
    subst (λ (o : Option ℕ). Written ds order r (got (r + 1) rs) e.place o (row e.place) (row_in w counts entries e.place)) (theory.no_hub_yet ds (said order row r) (place order r) floor (known (r + 1) rs) (done (r + 1) rs) (got (r + 1) rs) q q' e s.pruning bag first waiting) (s.written e.place iv)

-- a record of round k
round_is : (k d : ℕ) (x : Record) → length_in k x ≡ Some d → eqb x.round k ≡ true
round_is k d x e = go (eqb x.round k) refl e
  where
    go : (b : Bool) → eqb x.round k ≡ b → pick b (Some x.distance) None ≡ Some d → b ≡ true
    go true i j = refl
    go false i j = absurd (not_both refl j)

module _ {n : ℕ} {ds : List Row} {order : List ℕ} {w r : ℕ} {row : ℕ → List Entry} {e : SearchEntry} {arcs : List Arc} {counts : List ℕ} {entries : List Entry} {rs : List Record} {q q' : List SearchEntry}
    (s : Visiting n ds order w r row e arcs counts entries rs q q') (size : length rs ≡ n) (iv : e.place < n) where
  abbrev k : ℕ
  k = r + 1

  abbrev tells : ℕ → Option ℕ
  tells = said order row r

  p : Pruning ds (Due ds (got (r + 1) rs)) (said order row r) (place order r) s.floor (known (r + 1) rs) (done (r + 1) rs) (got (r + 1) rs) q
  p = s.searching.pruning

  at : e.place < length rs
  at = omega (arith, size)

  exact : known (r + 1) rs e.place ≡ Some e.distance
  exact = theory.exact ds tells (place order r) s.floor (known k rs) (done k rs) (got k rs) q q' e p s.bag s.first s.waiting

  no_hub : got (r + 1) rs e.place ≡ None
  no_hub = theory.no_hub_yet ds tells (place order r) s.floor (known k rs) (done k rs) (got k rs) q q' e p s.bag s.first s.waiting

  -- its row is as it was
  row_is : row_in w counts entries e.place ≡ row e.place
  row_is = row_was n ds order w r row e counts entries rs q q' s.floor s.searching s.bag s.first s.waiting iv

  -- the record at another stage
  module _ (t : Stage) (settled : past t ≡ true) where
    abbrev rs' : List Record
    rs' = set rs e.place (staged (get_or rs e.place blank) t)

    same_known : (v : ℕ) → known (r + 1) (set rs e.place (staged (get_or rs e.place blank) t)) v ≡ known (r + 1) rs v
    same_known = field_kept (length_in k) rs e.place (staged (get_or rs e.place blank) t) at refl

    now_done : done (r + 1) (set rs e.place (staged (get_or rs e.place blank) t)) e.place ≡ true
    now_done = at_new (settled_in k) rs e.place (staged (get_or rs e.place blank) t) at ∙ rw (round_is k e.distance (get_or rs e.place blank) exact) settled

    other_done : (v : ℕ) → (v ≡ e.place → ⊥) → done (r + 1) (set rs e.place (staged (get_or rs e.place blank) t)) v ≡ done (r + 1) rs v
    other_done = at_other (settled_in k) rs e.place (staged (get_or rs e.place blank) t) at

    other_got : (v : ℕ) → (v ≡ e.place → ⊥) → got (r + 1) (set rs e.place (staged (get_or rs e.place blank) t)) v ≡ got (r + 1) rs v
    other_got = at_other (hub_in k) rs e.place (staged (get_or rs e.place blank) t) at

    now_laid : Laid (r + 1) (set rs e.place (staged (get_or rs e.place blank) t)) (row (place order r)) (length (row (place order r)))
    now_laid =
        laid_keep k rs (set rs e.place (staged (get_or rs e.place blank) t)) (row (place order r)) (length (row (place order r)))
        (field_kept (λ y. y.laid_round) rs e.place (staged (get_or rs e.place blank) t) at refl) (field_kept (λ y. y.laid) rs e.place (staged (get_or rs e.place blank) t) at refl) s.searching.laid

    now_upto : Upto (r + 1) (set rs e.place (staged (get_or rs e.place blank) t))
    now_upto = upto_set k rs e.place (staged (get_or rs e.place blank) t) at s.searching.upto (s.searching.upto.came e.place) (s.searching.upto.laid e.place)

    pub settles : Settles (r + 1) e.place rs (set rs e.place (staged (get_or rs e.place blank) t))
    settles = (now_done, other_done)

  -- what the test of its row says
  pub told_of : (j : ℕ) → j ≡ r + 1 → (b : Bool) (xs : List Entry) → xs ≡ row_in w counts entries e.place → b ≡ list_any (λ g. tells_by j e.distance (get_or rs g.rank blank) g) xs → Tells b e.distance (sum_of (merge (row e.place) (row (place order r))))
  told_of j same-k b xs z h' =
      let h : b ≡ list_any (λ (g : Entry). tells_by (r + 1) e.distance (get_or rs g.rank blank) g) xs = subst (λ (y : ℕ). b ≡ list_any (λ (g : Entry). tells_by y e.distance (get_or rs g.rank blank) g) xs) same-k h' in
      let is : xs ≡ row e.place = z ∙ row_is in
      let up : Rising xs = subst Rising (sym is) (s.ready.exact.rising e.place iv) in
      let source : place order r < n = place_in n order s.ready.ordered r s.ready.inside in
      subst (λ (zs : List Entry). Tells b e.distance (sum_of (merge zs (row (place order r))))) is (subst (λ (t : Bool). Tells t e.distance (sum_of (merge xs (row (place order r))))) (sym h) (told_by (r + 1) e.distance rs xs (row (place order r)) up (s.ready.exact.rising (place order r) source) s.searching.laid))

  -- the rows tell its distance: it is cut off
  pub visit_cut : Tells true e.distance (sum_of (merge (row e.place) (row (place order r)))) → Searching n ds order w r row e.distance counts entries (set rs e.place (staged (get_or rs e.place blank) Cut)) q'
  visit_cut told = record {
    pruning = subst (λ (g : ℕ → Option ℕ). Pruning ds (Due ds g) tells (place order r) e.distance (known k new) (done k new) g q') got_path
        (subst (λ (N : ℕ → Option ℕ). Pruning ds (Due ds (got k rs)) tells (place order r) e.distance N (done k new) (got k rs) q') known_path
        (theory.cut_off ds tells (place order r) s.floor (known k rs) (done k rs) (got k rs) q q' e p s.bag s.first s.waiting (done k new) (now_done Cut refl) (other_done Cut refl) told));
    laid = now_laid Cut refl;
    written = subst (λ (g : ℕ → Option ℕ). (v : ℕ) → v < n → Written ds order r g v (g v) (row v) (row_in w counts entries v)) got_path s.searching.written;
    fits = s.searching.fits;
    behind = s.searching.behind;
    upto = now_upto Cut refl;
  }
    where
      new : List Record
      new = set rs e.place (staged (get_or rs e.place blank) Cut)

      same_got : (v : ℕ) → got k rs v ≡ got k new v
      same_got v = go (ℕ_discrete v e.place)
        where
          go : Dec (v ≡ e.place) → got k rs v ≡ got k new v
          go (yes z) = ap (got k rs) z ∙ no_hub ∙ sym (at_new (hub_in k) rs e.place (staged (get_or rs e.place blank) Cut) at) ∙ ap (got k new) (sym z)
          go (no ne) = sym (other_got Cut refl v ne)

      got_path : got k rs ≡ got k new
      got_path = λ i v. same_got v i

      known_path : known k rs ≡ known k new
      known_path = λ i v. sym (same_known Cut refl v) i

  pub adds_cut : Adds (r + 1) e.place e.distance rs (set rs e.place (staged (get_or rs e.place blank) Cut))
  adds_cut x c g = go (ℕ_discrete x e.place)
    where
      go : Dec (x ≡ e.place) → (got k rs x ≡ Some c) ⊎ ((x ≡ e.place) × (c ≡ e.distance))
      go (yes z) = absurd (not_both (at_new (hub_in k) rs e.place (staged (get_or rs e.place blank) Cut) at) (ap (got k (set rs e.place (staged (get_or rs e.place blank) Cut))) (sym z) ∙ g))
      go (no ne) = inl (sym (other_got Cut refl x ne) ∙ g)

  -- that is all that changes
  pub was_cut : {rs'' : List Record} {q'' : List SearchEntry} → rs'' ≡ set rs e.place (staged (get_or rs e.place blank) Cut) → q'' ≡ q' → Tells true e.distance (sum_of (merge (row e.place) (row (place order r)))) → Searching n ds order w r row e.distance counts entries rs'' q'' × Settles (r + 1) e.place rs rs'' × Adds (r + 1) e.place e.distance rs rs''
  was_cut {rs''} {q''} is same told =
      subst (λ (y : List Record). Searching n ds order w r row e.distance counts entries y q'' × Settles (r + 1) e.place rs y × Adds (r + 1) e.place e.distance rs y) (sym is)
      (subst (λ (y : List SearchEntry). Searching n ds order w r row e.distance counts entries (set rs e.place (staged (get_or rs e.place blank) Cut)) y) (sym same) (visit_cut told), settles Cut refl, adds_cut)

  -- it has the hub
  module _ (less : Less e.distance (said order row r e.place)) where
    pub overfull : count_of counts e.place ≡ w → (v : ℕ) × (v < n) × (length (row v) ≡ w) × ((c : ℕ) × Hub n ds order v r c)
    overfull full = (
      e.place,
      iv,
      ap length (sym row_is) ∙ row_length n w e.place counts entries s.searching.fits iv ∙ full,
      theory.is_hub n ds order row r e.place e.distance s.ready.lawful s.ready.ordered s.ready.exact s.ready.inside iv
          (theory.way ds tells (place order r) s.floor (known k rs) (done k rs) (got k rs) q q' e p s.bag s.first s.waiting) less,
    )

    abbrev hub_rs : List Record
    hub_rs = set rs e.place (staged (get_or rs e.place blank) AtHub)

    pub is_got : got (r + 1) (set rs e.place (staged (get_or rs e.place blank) AtHub)) e.place ≡ Some e.distance
    is_got = at_new (hub_in k) rs e.place (staged (get_or rs e.place blank) AtHub) at ∙ exact

    pub before_arcs : Pruning ds (DueBut ds (got (r + 1) (set rs e.place (staged (get_or rs e.place blank) AtHub))) e.place) (said order row r) (place order r) e.distance (known (r + 1) (set rs e.place (staged (get_or rs e.place blank) AtHub))) (done (r + 1) (set rs e.place (staged (get_or rs e.place blank) AtHub))) (got (r + 1) (set rs e.place (staged (get_or rs e.place blank) AtHub))) q'
    before_arcs =
        subst (λ (N : ℕ → Option ℕ). Pruning ds (DueBut ds (got k hub_rs) e.place) tells (place order r) e.distance N (done k hub_rs) (got k hub_rs) q') (λ i v. sym (same_known AtHub refl v) i)
        (theory.taken ds tells (place order r) s.floor (known k rs) (done k rs) (got k rs) q q' e p s.bag s.first s.waiting (done k hub_rs) (now_done AtHub refl) (other_done AtHub refl) (got k hub_rs) is_got (other_got AtHub refl) less)

    module _ (x : ℕ) (chosen : Chosen (r + 1) rs arcs (place order r) e.place e.distance x) (counts' : List ℕ) (entries' : List Entry)
        (more : Longer w e.place (record { rank = r; distance = e.distance; neighbour = x }) counts entries counts' entries') where
      grow : (v y d : ℕ) → Back ds (got (r + 1) rs) v d y → Back ds (got (r + 1) (set rs e.place (staged (get_or rs e.place blank) AtHub))) v d y
      grow = theory.grown ds tells (place order r) s.floor (known k rs) (done k rs) (got k rs) q q' e p s.bag s.first s.waiting (done k hub_rs) (now_done AtHub refl) (other_done AtHub refl) (got k hub_rs) is_got (other_got AtHub refl) less

      shrink : (v y d : ℕ) → d ≤ e.distance → Back ds (got (r + 1) (set rs e.place (staged (get_or rs e.place blank) AtHub))) v d y → Back ds (got (r + 1) rs) v d y
      shrink = theory.shrunk ds tells (place order r) s.floor (known k rs) (done k rs) (got k rs) q q' e p s.bag s.first s.waiting (done k hub_rs) (now_done AtHub refl) (other_done AtHub refl) (got k hub_rs) is_got (other_got AtHub refl) less n s.ready.lawful

      first_here : BackFirst ds order r (got (r + 1) (set rs e.place (staged (get_or rs e.place blank) AtHub))) e.place e.distance x
      first_here = record {
        own = λ z. chosen.0 (sym z);
        back = λ ne.
            let o = p.from e.place e.distance exact (λ z. ne (sym z)) in
            grow e.place x e.distance (chosen.1 ds o.0 (λ z. ne (sym z)) s.arcs_are o.1).0;
        first = λ ne y b. (chosen.1 ds y (λ z. ne (sym z)) s.arcs_are (shrink e.place y e.distance (omega arith) b)).1;
      }

      first_there : (v d y : ℕ) → got (r + 1) rs v ≡ Some d → BackFirst ds order r (got (r + 1) rs) v d y → BackFirst ds order r (got (r + 1) (set rs e.place (staged (get_or rs e.place blank) AtHub))) v d y
      first_there v d y g b = record {
        own = b.own;
        back = λ ne. grow v y d (b.back ne);
        first = λ ne z o. b.first ne z (shrink v z d (theory.no_farther ds tells (place order r) s.floor (known k rs) (done k rs) (got k rs) q q' e p s.bag s.first v d g) o);
      }

      now_written : (v : ℕ) → v < n → Written ds order r (got (r + 1) (set rs e.place (staged (get_or rs e.place blank) AtHub))) v (got (r + 1) (set rs e.place (staged (get_or rs e.place blank) AtHub)) v) (row v) (row_in w counts' entries' v)
      now_written v i = go (ℕ_discrete v e.place)
        where
          old : (o : Option ℕ) → got k rs v ≡ o → Written ds order r (got k rs) v o (row v) (row_in w counts entries v) → row_in w counts' entries' v ≡ row_in w counts entries v → Written ds order r (got k hub_rs) v o (row v) (row_in w counts' entries' v)
          old None g h z = z ∙ h
          old (Some d) g (y, b, h) z = (y, first_there v d y g b, z ∙ h)

          go : Dec (v ≡ e.place) → Written ds order r (got k hub_rs) v (got k hub_rs v) (row v) (row_in w counts' entries' v)
          go (yes z) =
              subst (λ (u : ℕ). Written ds order r (got k hub_rs) u (got k hub_rs u) (row u) (row_in w counts' entries' u)) (sym z)
              (subst (λ (o : Option ℕ). Written ds order r (got k hub_rs) e.place o (row e.place) (row_in w counts' entries' e.place)) (sym is_got)
              (x, first_here, row_new n w e.place (record { rank = r; distance = e.distance; neighbour = x }) counts entries counts' entries' s.searching.fits iv more ∙ ap (λ (xs : List Entry). xs ++ (record { rank = r; distance = e.distance; neighbour = x } ∷ [])) row_is))
          go (no ne) =
              subst (λ (o : Option ℕ). Written ds order r (got k hub_rs) v o (row v) (row_in w counts' entries' v)) (sym (other_got AtHub refl v ne))
              (old (got k rs v) refl (s.searching.written v i) (row_other n w e.place (record { rank = r; distance = e.distance; neighbour = x }) counts entries counts' entries' s.searching.fits iv more v i ne))

      -- its arcs were followed
      pub visit_hub : (rs'' : List Record) (q'' : List SearchEntry) → Steady (r + 1) (set rs e.place (staged (get_or rs e.place blank) AtHub)) rs'' → Followed (r + 1) arcs e.distance (set rs e.place (staged (get_or rs e.place blank) AtHub)) q' rs'' q'' → Searching n ds order w r row e.distance counts' entries' rs'' q'' × Settles (r + 1) e.place rs rs'' × Adds (r + 1) e.place e.distance rs rs''
      visit_hub rs'' q'' steady followed =
          let f = followed ds tells (place order r) e.place s.arcs_are is_got before_arcs in
          let got_path : got k hub_rs ≡ got k rs'' = λ i v. sym (f.1 v) i in (
            record {
              pruning = f.0;
              laid = laid_keep k hub_rs rs'' (row (place order r)) (length (row (place order r))) steady.laid_round steady.laid (now_laid AtHub refl);
              written = subst (λ (g : ℕ → Option ℕ). (v : ℕ) → v < n → Written ds order r g v (g v) (row v) (row_in w counts' entries' v)) got_path now_written;
              fits = fits_more n w e.place (record { rank = r; distance = e.distance; neighbour = x }) counts entries counts' entries' s.searching.fits iv more;
              behind = behind_more n w e.place (record { rank = r; distance = e.distance; neighbour = x }) counts entries counts' entries' s.searching.fits iv more s.searching.behind;
              upto = steady.upto (now_upto AtHub refl);
            },
            (steady.same_done e.place ∙ now_done AtHub refl, λ v ne. steady.same_done v ∙ other_done AtHub refl v ne),
            λ y c g. which y c (sym (f.1 y) ∙ g) (ℕ_discrete y e.place),
          )
        where
          which : (y c : ℕ) → got k hub_rs y ≡ Some c → Dec (y ≡ e.place) → (got k rs y ≡ Some c) ⊎ ((y ≡ e.place) × (c ≡ e.distance))
          which y c g (yes z) = inr (z, same (ap (got k hub_rs) (sym z) ∙ g) is_got)
          which y c g (no ne) = inl (sym (other_got AtHub refl y ne) ∙ g)

      pub was_hub : {rs' rs'' : List Record} {q₁ q'' : List SearchEntry} (j : ℕ) → j ≡ r + 1 → rs' ≡ set rs e.place (staged (get_or rs e.place blank) AtHub) → q₁ ≡ q' → Steady j rs' rs'' → Followed j arcs e.distance rs' q₁ rs'' q'' → Searching n ds order w r row e.distance counts' entries' rs'' q'' × Settles (r + 1) e.place rs rs'' × Adds (r + 1) e.place e.distance rs rs''
      was_hub {rs'} {rs''} {q₁} {q''} j same-k is same-q steady followed =
          visit_hub rs'' q'' (subst (λ (y : List Record). Steady (r + 1) y rs'') is (subst (λ (y : ℕ). Steady y rs' rs'') same-k steady))
          (subst (λ (y : List Record). Followed (r + 1) arcs e.distance y q' rs'' q'') is (subst (λ (y : List SearchEntry). Followed (r + 1) arcs e.distance rs' y rs'' q'') same-q (subst (λ (y : ℕ). Followed y arcs e.distance rs' q₁ rs'' q'') same-k followed)))
