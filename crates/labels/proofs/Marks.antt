-- What the writes of a pruned search leave. Assumes nothing.
use Rattle.std.proofs.Common.{◌≡◌, cond, eqb-true, ℕ, zero, suc, ◌+◌, ◌<◌, ◌≤◌, Bool, true, false, eqb, List, [], ◌∷◌, length, get_or, set, Some, None, Option, sym, refl, ap, ◌∙◌, subst, inl, inr, arith, get_or-set_other, get_or-set_same, eq-eqb, ne_eqb}
use native.Mathlib.Decide.{ℕ_discrete, dec_le}
use Rattle.std.specs.List.{find}
use Rattle.std.specs.Option.{option_map_or}
use Rattle.std.proofs.lemmas.Bool.{both_ways, eqb-false}
use Rattle.ways.proofs.Metric.{same, not_both}
use Rattle.std.proofs.ByRecursion.{All-get_or, All-from_get_or}
use Rattle.std.specs.List.Sorted.{IsPermutation}
use Rattle.heap.specs.declared.search.SearchEntry.{SearchEntry}
use Rattle.search.proofs.Theory as theory
use Rattle.frame.specs.declared.arc.Arc.{Arc}
use Rattle.frame.specs.Fans.{arc_at, no_arc}
use Rattle.frame.specs.Neighbours.{Neighbours}
use Rattle.ways.specs.declared.row.Row.{Row}
use Rattle.ways.specs.Options.{pick, AtMost}
use Rattle.ways.specs.Way.{Joined}
use Rattle.hubs.specs.Search.{Back}
use Rattle.labels.specs.declared.record.Record.{Record}
use Rattle.labels.specs.declared.record.Stage.{Stage}
use Rattle.labels.specs.declared.record.Stage.TheVariants.{Waiting, Cut, Hub}
use Rattle.labels.specs.State.{blank, past, is_hub, length_in, settled_in, hub_in, known, done, got, noted, first_record}
use Rattle.labels.specs.Steps.{Relaxed, Steady, leads_by, Chosen}
use Rattle.labels.specs.Pruning.{Due, DueBut, Pruning}
use Rattle.labels.proofs.Layouts.{upto_set, field_kept}
use Rattle.labels.proofs.Pruning.{bettered, kept_got, refollow, followed}

-- what a record says, after a write at v
module _ {A : Type 0} (f : Record → A) (rs : List Record) (v : ℕ) (x : Record) (l : v < length rs) where
  pub at_new : f (get_or (set rs v x) v blank) ≡ f x
  at_new = ap f (get_or-set_same rs v x blank l)

  pub at_other : (w : ℕ) → (w ≡ v → ⊥) → f (get_or (set rs v x) w blank) ≡ f (get_or rs w blank)
  at_other w ne = ap f (get_or-set_other rs v w x blank ne)

same_round : (k : ℕ) → eqb k k ≡ true
same_round k = eq-eqb k k refl

noted_length : (k : ℕ) (x : Record) (d : ℕ) → length_in k (noted k x d) ≡ Some d
noted_length k x d = rw (same_round k) refl

noted_settled : (k : ℕ) (x : Record) (d : ℕ) → settled_in k (noted k x d) ≡ settled_in k x
noted_settled k x d = rw (same_round k) (go (eqb x.round k))
  where
    go : (b : Bool) → past (pick b x.stage Waiting) ≡ pick b (past x.stage) false
    go true = refl
    go false = refl

-- a place that is not settled has no hub yet
noted_hub : (k : ℕ) (x : Record) (d : ℕ) → settled_in k x ≡ false → hub_in k (noted k x d) ≡ None
noted_hub k x d e = go (eqb x.round k) x.stage e
  where
    go : (b : Bool) (t : Stage) → pick b (past t) false ≡ false → pick (is_hub (pick b t Waiting)) (length_in k (noted k x d)) None ≡ None
    go false t i = refl
    go true Waiting i = refl
    go true Cut i = refl
    go true Hub i = let z : ◌≡◌ {A = ℕ} 0 1 = cc in absurd (omega arith)

-- one way was looked at
module _ (k : ℕ) (rs : List Record) (q : List SearchEntry) (to d : ℕ) (rs' : List Record) (q' : List SearchEntry) (l : to < length rs) where
  pub steady_more : Relaxed k rs q to d rs' q' → Steady k rs rs'
  steady_more (inl u) = subst (Steady k rs) (sym u.records) (record { laid_round = λ v. refl; laid = λ v. refl; upto = λ h. h; same_done = λ v. refl })
  steady_more (inr b) =
      subst (Steady k rs) (sym b.records)
      (record {
        laid_round = field_kept (λ y. y.laid_round) rs to (noted k (get_or rs to blank) d) l refl;
        laid = field_kept (λ y. y.laid) rs to (noted k (get_or rs to blank) d) l refl;
        upto = λ h. upto_set k rs to (noted k (get_or rs to blank) d) l h (omega arith) (h.laid to);
        same_done = field_kept (settled_in k) rs to (noted k (get_or rs to blank) d) l (noted_settled k (get_or rs to blank) d);
      })

pub steady_on : (k : ℕ) (rs rs' rs'' : List Record) → Steady k rs rs' → Steady k rs' rs'' → Steady k rs rs''
steady_on k rs rs' rs'' a b = record { laid_round = λ v. b.laid_round v ∙ a.laid_round v; laid = λ v. b.laid v ∙ a.laid v; upto = λ h. b.upto (a.upto h); same_done = λ v. b.same_done v ∙ a.same_done v }

-- the first i arcs of u were followed
pub record Following (ds : List Row) (tells : ℕ → Option ℕ) (k : ℕ) (arcs : List Arc) (s u d : ℕ) (g : ℕ → Option ℕ) (i : ℕ) (rs : List Record) (q : List SearchEntry) : Type 0 where
  pub pruning : Pruning ds (DueBut ds g u) tells s d (known k rs) (done k rs) (got k rs) q
  pub same : (v : ℕ) → got k rs v ≡ g v
  pub hit : (j : ℕ) → j < i → AtMost (known k rs (arc_at arcs j).to) (d + (arc_at arcs j).length)

module _ (ds : List Row) (tells : ℕ → Option ℕ) (k : ℕ) (arcs : List Arc) (s u d : ℕ) (g : ℕ → Option ℕ) (i : ℕ) (rs : List Record) (q : List SearchEntry) (rs' : List Record) (q' : List SearchEntry)
    (f : Following ds tells k arcs s u d g i rs q) (at : g u ≡ Some d) (j : Joined ds u (arc_at arcs i).to (arc_at arcs i).length) (room : (arc_at arcs i).to < length rs) where
  to : ℕ
  to = (arc_at arcs i).to

  len : ℕ
  len = (arc_at arcs i).length

  widen : (rs'' : List Record) → ((v t : ℕ) → AtMost (known k rs v) t → AtMost (known k rs'' v) t) → AtMost (known k rs'' (arc_at arcs i).to) (d + (arc_at arcs i).length) → (m : ℕ) → m < i + 1 → AtMost (known k rs'' (arc_at arcs m).to) (d + (arc_at arcs m).length)
  widen rs'' lower here m l = go (ℕ_discrete m i)
    where
      go : Dec (m ≡ i) → AtMost (known k rs'' (arc_at arcs m).to) (d + (arc_at arcs m).length)
      go (yes z) = subst (λ (y : ℕ). AtMost (known k rs'' (arc_at arcs y).to) (d + (arc_at arcs y).length)) (sym z) here
      go (no ne) = lower (arc_at arcs m).to (d + (arc_at arcs m).length) (f.hit m (omega arith))

  better : (fresh : AtMost (known k rs (arc_at arcs i).to) (d + (arc_at arcs i).length) → ⊥) → IsPermutation (record { distance = d + (arc_at arcs i).length; place = (arc_at arcs i).to } ∷ q) q' → Following ds tells k arcs s u d g (i + 1) (set rs (arc_at arcs i).to (noted k (get_or rs (arc_at arcs i).to blank) (d + (arc_at arcs i).length))) q'
  better fresh bag = record {
    pruning = after;
    same = λ v. same_got v (ℕ_discrete v (arc_at arcs i).to);
    hit = widen new_rs (theory.lower [] (λ x w len. ⊥) 0 0 (known k rs) (done k rs) q (known k new_rs) (done k new_rs) q' (arc_at arcs i).to (d + (arc_at arcs i).length) new other same_D fresh bag) (subst (λ (o : Option ℕ). AtMost o (d + (arc_at arcs i).length)) (sym new) (omega arith));
  }
    where
      x : Record
      x = noted k (get_or rs (arc_at arcs i).to blank) (d + (arc_at arcs i).length)

      new_rs : List Record
      new_rs = set rs (arc_at arcs i).to (noted k (get_or rs (arc_at arcs i).to blank) (d + (arc_at arcs i).length))

      new : known k new_rs (arc_at arcs i).to ≡ Some (d + (arc_at arcs i).length)
      new = at_new (length_in k) rs (arc_at arcs i).to (noted k (get_or rs (arc_at arcs i).to blank) (d + (arc_at arcs i).length)) room ∙ noted_length k (get_or rs (arc_at arcs i).to blank) (d + (arc_at arcs i).length)

      other : (v : ℕ) → (v ≡ (arc_at arcs i).to → ⊥) → known k new_rs v ≡ known k rs v
      other = at_other (length_in k) rs (arc_at arcs i).to (noted k (get_or rs (arc_at arcs i).to blank) (d + (arc_at arcs i).length)) room

      same_D : (v : ℕ) → done k new_rs v ≡ done k rs v
      same_D = field_kept (settled_in k) rs (arc_at arcs i).to (noted k (get_or rs (arc_at arcs i).to blank) (d + (arc_at arcs i).length)) room (noted_settled k (get_or rs (arc_at arcs i).to blank) (d + (arc_at arcs i).length))

      rest : (v : ℕ) → (v ≡ (arc_at arcs i).to → ⊥) → got k new_rs v ≡ got k rs v
      rest = at_other (hub_in k) rs (arc_at arcs i).to (noted k (get_or rs (arc_at arcs i).to blank) (d + (arc_at arcs i).length)) room

      open_got : done k rs (arc_at arcs i).to ≡ false → got k new_rs (arc_at arcs i).to ≡ None
      open_got e = at_new (hub_in k) rs (arc_at arcs i).to (noted k (get_or rs (arc_at arcs i).to blank) (d + (arc_at arcs i).length)) room ∙ noted_hub k (get_or rs (arc_at arcs i).to blank) (d + (arc_at arcs i).length) e

      after : Pruning ds (DueBut ds g u) tells s d (known k new_rs) (done k new_rs) (got k new_rs) q'
      after = bettered ds (DueBut ds g u) tells s u d (known k rs) (done k rs) (got k rs) q (known k new_rs) (done k new_rs) (got k new_rs) q' (arc_at arcs i).to (arc_at arcs i).length new other same_D rest open_got fresh bag j (f.same u ∙ at) f.pruning

      same_got : (v : ℕ) → Dec (v ≡ (arc_at arcs i).to) → got k new_rs v ≡ g v
      same_got v e = kept_got ds (DueBut ds g u) tells s u d (known k rs) (done k rs) (got k rs) q (known k new_rs) (done k new_rs) (got k new_rs) q' (arc_at arcs i).to (arc_at arcs i).length new other same_D rest open_got fresh bag j (f.same u ∙ at) f.pruning v ∙ f.same v

  pub following_more : Relaxed k rs q (arc_at arcs i).to (d + (arc_at arcs i).length) rs' q' → Following ds tells k arcs s u d g (i + 1) rs' q'
  following_more (inl h) =
      subst (λ (y : List Record). Following ds tells k arcs s u d g (i + 1) y q') (sym h.records)
      (subst (λ (y : List SearchEntry). Following ds tells k arcs s u d g (i + 1) rs y) (sym h.bag)
      (record { pruning = f.pruning; same = f.same; hit = widen rs (λ v t a. a) h.known_already }))
  following_more (inr h) = subst (λ (y : List Record). Following ds tells k arcs s u d g (i + 1) y q') (sym h.records) (better h.fresh h.bag)

-- what is not false of a test is true
by_test : (o : Option ℕ) (t : ℕ) → ((AtMost o t → ⊥) → ⊥) → AtMost o t
by_test None t h = h (λ a. a)
by_test (Some d) t h = go (dec_le d t)
  where
    go : Dec (d ≤ t) → d ≤ t
    go (yes le) = le
    go (no gt) = absurd (h gt)

-- some arc is the duct: so a fact of every arc is one of the duct
pub by_arc : (ds : List Row) (u w len : ℕ) (arcs : List Arc) (o : Option ℕ) (t : ℕ) → Neighbours ds u arcs → Joined ds u w len → ((i : ℕ) → i < length arcs → (arc_at arcs i).to ≡ w → (arc_at arcs i).length ≡ len → AtMost o t) → AtMost o t
by_arc ds u w len arcs o t nb j h = by_test o t (λ none. nb.whole w len j (All-from_get_or (λ a. a.to ≡ w → a.length ≡ len → ⊥) arcs no_arc (λ i l p q. none (h i l p q))))

pub following_all : (ds : List Row) (tells : ℕ → Option ℕ) (k : ℕ) (arcs : List Arc) (s u d : ℕ) (g : ℕ → Option ℕ) (i : ℕ) (rs : List Record) (q : List SearchEntry) → Neighbours ds u arcs → g u ≡ Some d → length arcs ≤ i → Following ds tells k arcs s u d g i rs q → Pruning ds (Due ds (got k rs)) tells s d (known k rs) (done k rs) (got k rs) q
following_all ds tells k arcs s u d g i rs q nb at le f =
    followed ds tells s u d (known k rs) (done k rs) (got k rs) q (f.same u ∙ at)
    (refollow ds (DueBut ds g u) (DueBut ds (got k rs) u) tells s d (known k rs) (done k rs) (got k rs) q (λ x w len h. ((h.0.0, (h.0.1.0, sym (f.same x) ∙ h.0.1.1)), h.1)) f.pruning)
    (λ w len j. by_arc ds u w len arcs (known k rs w) (d + len) nb j (λ m l p z. subst (λ (y : ℕ). AtMost (known k rs y) (d + len)) p (subst (λ (y : ℕ). AtMost (known k rs (arc_at arcs m).to) (d + y)) z (f.hit m (omega arith)))))

-- the arc leads back: to a place that has the hub, on a way of the length d
abbrev pub LeadsBack : ℕ → List Record → ℕ → Arc → Type 0
LeadsBack k rs d a = (b : ℕ) × (got k rs a.to ≡ Some b) × (a.length + b ≡ d)

-- the first arc that leads back, or none
abbrev pub FirstBack : ℕ → List Record → ℕ → List Arc → Option Arc → Type 0
FirstBack k rs d arcs None = (i : ℕ) → i < length arcs → LeadsBack k rs d (arc_at arcs i) → ⊥
FirstBack k rs d arcs (Some a) = (i : ℕ) × (i < length arcs) × (arc_at arcs i ≡ a) × LeadsBack k rs d (arc_at arcs i) × ((j : ℕ) → j < i → LeadsBack k rs d (arc_at arcs j) → ⊥)

-- the first arc that leads back has the smallest end
module _ (ds : List Row) (k : ℕ) (rs : List Record) (v d x : ℕ) (arcs : List Arc) (nb : Neighbours ds v arcs) (on : Back ds (got k rs) v d x) where
  leads : (m : ℕ) → (arc_at arcs m).to ≡ x → (arc_at arcs m).length ≡ on.0 → LeadsBack k rs d (arc_at arcs m)
  leads m p z = (on.1, ap (got k rs) p ∙ on.3, ap (λ (y : ℕ). y + on.1) z ∙ on.4)

  pub some_back : FirstBack k rs d arcs None → ⊥
  some_back none = nb.whole x on.0 on.2 (All-from_get_or (λ a. a.to ≡ x → a.length ≡ on.0 → ⊥) arcs no_arc (λ m l p z. none m l (leads m p z)))

  pub first_back : (a : Arc) → FirstBack k rs d arcs (Some a) → Back ds (got k rs) v d a.to × (a.to ≤ x)
  first_back a (i, l, is, (b, g, z), none) =
      let e : (arc_at arcs i).to ≡ a.to = ap (λ (y : Arc). y.to) is in
      (((arc_at arcs i).length, b, subst (λ (y : ℕ). Joined ds v y (arc_at arcs i).length) e (All-get_or (λ a. Joined ds v a.to a.length) arcs i no_arc l nb.joined), ap (got k rs) (sym e) ∙ g, z), go (dec_le a.to x))
    where
      go : Dec (a.to ≤ x) → a.to ≤ x
      go (yes le) = le
      go (no gt) = absurd (nb.whole x on.0 on.2 (All-from_get_or (λ a. a.to ≡ x → a.length ≡ on.0 → ⊥) arcs no_arc (λ m k' p q. side m k' p q (dec_le i m))))
        where
          side : (m : ℕ) → m < length arcs → (arc_at arcs m).to ≡ x → (arc_at arcs m).length ≡ on.0 → Dec (i ≤ m) → ⊥
          side m k' p q (yes le) = gt (omega (arith, ap (λ (y : Arc). y.to) is, nb.rising i m no_arc le k'))
          side m k' p q (no lt) = none m (omega arith) (leads m p q)

-- what the test of an arc says
leads_true : (k d : ℕ) (rs : List Record) (a : Arc) → leads_by k d (get_or rs a.to blank) a.length ≡ true → LeadsBack k rs d a
leads_true k d rs a h = go (is_hub (get_or rs a.to blank).stage) (eqb (get_or rs a.to blank).round k) h
  where
    go : (s t : Bool) → pick s (pick t (eqb (a.length + (get_or rs a.to blank).distance) d) false) false ≡ true → (b : ℕ) × (pick s (pick t (Some (get_or rs a.to blank).distance) None) None ≡ Some b) × (a.length + b ≡ d)
    go true true z = ((get_or rs a.to blank).distance, refl, eqb-true (a.length + (get_or rs a.to blank).distance) d z)
    go true false z = absurd (both_ways false refl z)
    go false t z = absurd (both_ways false refl z)

leads_false : (k d : ℕ) (rs : List Record) (a : Arc) → leads_by k d (get_or rs a.to blank) a.length ≡ false → LeadsBack k rs d a → ⊥
leads_false k d rs a h (b, g, e) = go (is_hub (get_or rs a.to blank).stage) (eqb (get_or rs a.to blank).round k) h g
  where
    go : (s t : Bool) → pick s (pick t (eqb (a.length + (get_or rs a.to blank).distance) d) false) false ≡ false → pick s (pick t (Some (get_or rs a.to blank).distance) None) None ≡ Some b → ⊥
    go true true z i = eqb-false (a.length + (get_or rs a.to blank).distance) d z (omega (arith, same refl i, e))
    go true false z i = not_both refl i
    go false t z i = not_both refl i

-- one arc more in front
later : (k d : ℕ) (rs : List Record) (a : Arc) (arcs : List Arc) (o : Option Arc) → (LeadsBack k rs d a → ⊥) → FirstBack k rs d arcs o → FirstBack k rs d (a ∷ arcs) o
later k d rs a arcs None n h = λ i. at i
  where
    at : (i : ℕ) → i < length (a ∷ arcs) → LeadsBack k rs d (arc_at (a ∷ arcs) i) → ⊥
    at zero l = n
    at (suc i) l = h i (omega arith)
later k d rs a arcs (Some w) n (i, l, z, b, h) = (suc i, omega arith, z, b, λ j. at j)
  where
    at : (j : ℕ) → j < suc i → LeadsBack k rs d (arc_at (a ∷ arcs) j) → ⊥
    at zero m = n
    at (suc j) m = h j (omega arith)

-- the first arc that passes the test
found_back : (k d : ℕ) (rs : List Record) (arcs : List Arc) → FirstBack k rs d arcs (find (λ a. leads_by k d (get_or rs a.to blank) a.length) arcs)
found_back k d rs [] = λ i l. absurd (omega arith)
found_back k d rs (a ∷ arcs) = go (leads_by k d (get_or rs a.to blank) a.length) refl (found_back k d rs arcs)
  where
    go : (b : Bool) → leads_by k d (get_or rs a.to blank) a.length ≡ b → FirstBack k rs d arcs (find (λ a. leads_by k d (get_or rs a.to blank) a.length) arcs) → FirstBack k rs d (a ∷ arcs) (cond b (Some a) (find (λ a. leads_by k d (get_or rs a.to blank) a.length) arcs))
    go true z h = (0, omega arith, refl, leads_true k d rs a z, λ j l. absurd (omega arith))
    go false z h = later k d rs a arcs (find (λ a. leads_by k d (get_or rs a.to blank) a.length) arcs) (leads_false k d rs a z) h

-- the end of the first arc that leads back, or the place itself
pub chosen : (k : ℕ) (rs : List Record) (arcs : List Arc) (s v d : ℕ) → (v ≡ s → ⊥) → Chosen k rs arcs s v d (option_map_or (λ a. a.to) (find (λ a. leads_by k d (get_or rs a.to blank) a.length) arcs) v)
chosen k rs arcs s v d ne = go (find (λ a. leads_by k d (get_or rs a.to blank) a.length) arcs) (found_back k d rs arcs)
  where
    go : (o : Option Arc) → FirstBack k rs d arcs o → Chosen k rs arcs s v d (option_map_or (λ a. a.to) o v)
    go None none = (λ e. refl, λ ds x _ nb on. absurd (some_back ds k rs v d x arcs nb on none))
    go (Some a) h = (λ e. absurd (ne e), λ ds x _ nb on. first_back ds k rs v d x arcs nb on a h)

-- a way of no length to a place that the round has not come to is the first
pub begun : (k : ℕ) (rs : List Record) (s : ℕ) (q : List SearchEntry) (rs' : List Record) (q' : List SearchEntry) → Relaxed k rs q s 0 rs' q' → (get_or rs s blank).round < k → q ≡ [] → (rs' ≡ set rs s (first_record k (get_or rs s blank))) × IsPermutation (record { distance = 0; place = s } ∷ []) q'
begun k rs s q rs' q' way fresh none = go (ne_eqb x.round k (λ e. omega arith)) way
  where
    x : Record
    x = get_or rs s blank

    go : eqb (get_or rs s blank).round k ≡ false → Relaxed k rs q s 0 rs' q' → (rs' ≡ set rs s (first_record k (get_or rs s blank))) × IsPermutation (record { distance = 0; place = s } ∷ []) q'
    go ne (inl u) = absurd (subst (λ (b : Bool). AtMost (pick b (Some (get_or rs s blank).distance) None) 0) ne u.known_already)
    go ne (inr b) = (
      b.records
          ∙ ap (λ (t : Bool). set rs s (record { listed = (get_or rs s blank).listed; round = k; distance = 0; stage = pick t (get_or rs s blank).stage Waiting; laid_round = (get_or rs s blank).laid_round; laid = (get_or rs s blank).laid })) ne,
      subst (λ (y : List SearchEntry). IsPermutation (record { distance = 0; place = s } ∷ y) q') none b.bag,
    )
