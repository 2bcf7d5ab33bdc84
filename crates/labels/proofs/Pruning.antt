-- The theory of the pruned search: no code. Assumes nothing.
use Rattle.std.proofs.Common.{◌≡◌, ℕ, ◌+◌, ◌<◌, ◌≤◌, Bool, true, false, ◌⊎◌, List, [], ◌∷◌, Some, None, Option, sym, refl, ap, ◌∙◌, subst, inl, inr, arith}
use native.Mathlib.Decide.{ℕ_discrete, dec_le}
use Rattle.std.specs.List.{AllByRecursion}
use Rattle.std.specs.List.Sorted.{IsPermutation}
use Rattle.std.proofs.ByRecursion.{All-weaker, all_shuffled}
use Rattle.std.proofs.lemmas.List.Sorted.{IsPermutation-sym}
use Rattle.std.proofs.lemmas.Bool.{both_ways}
use Rattle.heap.specs.declared.search.SearchEntry.{SearchEntry}
use Rattle.search.specs.State.{Waits, Kept}
use Rattle.search.proofs.Theory as theory
use Rattle.search.proofs.Steps.{onward}
use Rattle.ways.specs.declared.row.Row.{Row}
use Rattle.ways.specs.Options.{AtMost}
use Rattle.ways.specs.Places.{Order}
use Rattle.ways.specs.Way.{Joined, Way, Lawful}
use Rattle.ways.specs.Distance.{Reached}
use Rattle.ways.proofs.Graph.{weaken, turn, some_length}
use Rattle.ways.proofs.Metric.{same, not_both, far_way, far_back}
use Rattle.hubs.specs.declared.entry.Entry.{Entry}
use Rattle.hubs.specs.Labels.{place, Hub, ExactBelow}
use Rattle.hubs.specs.Merge.{Less}
use Rattle.hubs.specs.Search.{said, Tried, Searched, Back}
use Rattle.hubs.proofs.Hubs.{place_in}
use Rattle.hubs.proofs.Prune.{pruned}
use Rattle.labels.specs.Pruning.{Due, DueBut, Pruning}

never : {A : Type 0} (b : Bool) → b ≡ true → b ≡ false → A
never b p q = absurd (both_ways b q p)

-- fewer ducts to follow
fewer : (ds : List Row) (P Q : ℕ → ℕ → ℕ → Type 0) (s floor : ℕ) (N : ℕ → Option ℕ) (D : ℕ → Bool) (q : List SearchEntry) → ((x w len : ℕ) → Q x w len → P x w len) → Kept ds P s floor N D q → Kept ds Q s floor N D q
fewer ds P Q s floor N D q to k = record { begins = k.begins; ways = k.ways; low = k.low; shut = λ x w len a d j h. k.shut x w len a d (to x w len j) h; waits = k.waits; listed = k.listed }

pub refollow : (ds : List Row) (P Q : ℕ → ℕ → ℕ → Type 0) (tells : ℕ → Option ℕ) (s floor : ℕ) (N : ℕ → Option ℕ) (D : ℕ → Bool) (got : ℕ → Option ℕ) (q : List SearchEntry) → ((x w len : ℕ) → Q x w len → P x w len) → Pruning ds P tells s floor N D got q → Pruning ds Q tells s floor N D got q
refollow ds P Q tells s floor N D got q to p = record { kept = fewer ds P Q s floor N D q to p.kept; cut = p.cut; only = p.only; from = p.from }

-- only the source has a length, 0, and it waits
pub begun : (ds : List Row) (tells : ℕ → Option ℕ) (s : ℕ) (N : ℕ → Option ℕ) (D : ℕ → Bool) (got : ℕ → Option ℕ) (q : List SearchEntry) → N s ≡ Some 0 → ((v : ℕ) → (v ≡ s → ⊥) → N v ≡ None) → ((v : ℕ) → D v ≡ false) → ((v : ℕ) → got v ≡ None) → IsPermutation (record { distance = 0; place = s } ∷ []) q → Pruning ds (Due ds got) tells s 0 N D got q
begun ds tells s N D got q is none no_one no_hub bag = record {
  kept = fewer ds (Joined ds) (Due ds got) s 0 N D q (λ x w len j. j.0) (theory.begun ds s N D q is none no_one bag);
  cut = λ v d e. never (D v) e (no_one v);
  only = λ v d e. absurd (not_both (no_hub v) e);
  from = λ v d e ne. absurd (not_both (none v ne) e);
}

at_least : (o : Option ℕ) (t : ℕ) → AtMost o t → (d : ℕ) × (o ≡ Some d) × (d ≤ t)
at_least None t h = absurd h
at_least (Some d) t h = (d, refl, h)

less_down : (c d : ℕ) (o : Option ℕ) → c ≤ d → Less d o → Less c o
less_down c d None l h = tt
less_down c d (Some z) l h = omega arith

all_and : {X : Type 0} (P Q : X → Type 0) (xs : List X) → AllByRecursion P xs → AllByRecursion Q xs → AllByRecursion (λ x. P x × Q x) xs
all_and P Q [] p q = tt
all_and P Q (x ∷ xs) p q = ((p.0, q.0), all_and P Q xs p.1 q.1)

-- an entry of another place is taken out
waits_less : (q q' : List SearchEntry) (e : SearchEntry) (k v : ℕ) → IsPermutation q (e ∷ q') → (e.place ≡ v → ⊥) → Waits q k v → Waits q' k v
waits_less q q' e k v bag ne w = λ all. w (all_shuffled (λ e. e.distance ≡ k → e.place ≡ v → ⊥) (e ∷ q') q (IsPermutation-sym q (e ∷ q') bag) ((λ _ p. ne p), all))

-- the least entry is taken out
module _ (ds : List Row) (tells : ℕ → Option ℕ) (s floor : ℕ) (N : ℕ → Option ℕ) (D : ℕ → Bool) (got : ℕ → Option ℕ) (q q' : List SearchEntry) (e : SearchEntry)
    (p : Pruning ds (Due ds got) tells s floor N D got q) (bag : IsPermutation q (e ∷ q')) (first : AllByRecursion (λ y. e.distance ≤ y.distance) q) where
  abbrev InTurn : ℕ → SearchEntry → Type 0
  InTurn f y = (f ≤ y.distance) × AtMost (N y.place) y.distance

  moved : InTurn floor e × AllByRecursion (InTurn floor) q'
  moved = all_shuffled (InTurn floor) q (e ∷ q') bag p.kept.listed

  pub known_place : AtMost (N e.place) e.distance
  known_place = moved.0.1

  pub above : floor ≤ e.distance
  above = moved.0.0

  -- what has the hub is no farther than the entry
  pub no_farther : (v d : ℕ) → got v ≡ Some d → d ≤ e.distance
  no_farther v d g =
      let k = p.only v d g in
      let le : d ≤ floor = subst (λ (o : Option ℕ). AtMost o floor) k.1 (p.kept.low v k.0) in
      omega (arith, moved.0.0)

  -- of a place that is settled
  pub skipped : D e.place ≡ true → Pruning ds (Due ds got) tells s floor N D got q'
  skipped was = record {
    kept = record {
      begins = p.kept.begins;
      ways = p.kept.ways;
      low = p.kept.low;
      shut = p.kept.shut;
      waits = λ v j d i. waits_less q q' e j v bag (λ z. never (D v) (ap D (sym z) ∙ was) d) (p.kept.waits v j d i);
      listed = moved.1;
    };
    cut = p.cut;
    only = p.only;
    from = p.from;
  }

  -- of a place that is not: its length is the entry's
  module _ (open' : D e.place ≡ false) where
    pub exact : N e.place ≡ Some e.distance
    exact = go (at_least (N e.place) e.distance moved.0.1)
      where
        go : ((d : ℕ) × (N e.place ≡ Some d) × (d ≤ e.distance)) → N e.place ≡ Some e.distance
        go (j, i, le) = i ∙ ap Some (more (dec_le e.distance j))
          where
            more : Dec (e.distance ≤ j) → j ≡ e.distance
            more (yes ge) = omega arith
            more (no lt) =
                absurd (p.kept.waits e.place j open' i (All-weaker (λ y. e.distance ≤ y.distance) (λ y. y.distance ≡ j → y.place ≡ e.place → ⊥) (λ y le z r. lt (subst (λ (t : ℕ). e.distance ≤ t) z le)) q first))

    pub no_hub_yet : got e.place ≡ None
    no_hub_yet = go (got e.place) refl
      where
        go : (o : Option ℕ) → got e.place ≡ o → o ≡ None
        go None i = refl
        go (Some d) i = never (D e.place) (p.only e.place d i).0 open'

    pub way : Way ds s e.place e.distance
    way = subst (Reached ds s e.place) exact (p.kept.ways e.place)

    module _ (D' : ℕ → Bool) (new : D' e.place ≡ true) (other : (v : ℕ) → (v ≡ e.place → ⊥) → D' v ≡ D v) where
      -- the lengths stay, and the place is settled; got' has the place, or does not
      settled : (Follow : ℕ → ℕ → ℕ → Type 0) → ((x w len : ℕ) → Follow x w len → Due ds got x w len × (x ≡ e.place → ⊥)) → Kept ds Follow s e.distance N D' q'
      settled Follow due = record {
        begins = p.kept.begins;
        ways = p.kept.ways;
        low = λ v d. low v d (ℕ_discrete v e.place);
        shut = λ x w len a d j h. let k = due x w len j in p.kept.shut x w len a (sym (other x k.1) ∙ d) k.0 h;
        waits = λ v j d i.
            let ne : v ≡ e.place → ⊥ = λ z. never (D' v) (ap D' z ∙ new) d in
            waits_less q q' e j v bag (λ z. ne (sym z)) (p.kept.waits v j (sym (other v ne) ∙ d) i);
        listed = All-weaker (λ y. (e.distance ≤ y.distance) × InTurn floor y) (InTurn e.distance) (λ y h. (h.0, h.1.1)) q'
            (all_shuffled _ q (e ∷ q') bag (all_and (λ y. e.distance ≤ y.distance) (InTurn floor) q first p.kept.listed)).1;
      }
        where
          low : (v : ℕ) → D' v ≡ true → Dec (v ≡ e.place) → AtMost (N v) e.distance
          low v d (yes z) = subst (λ (x : ℕ). AtMost (N x) e.distance) (sym z) moved.0.1
          low v d (no ne) = weaken (N v) floor e.distance (p.kept.low v (sym (other v ne) ∙ d)) moved.0.0

      -- the rows tell its distance: it is cut
      pub cut_off : (Less e.distance (tells e.place) → ⊥) → Pruning ds (Due ds got) tells s e.distance N D' got q'
      cut_off told = record {
        kept = settled (Due ds got) (λ x w len j. (j, λ z. not_both no_hub_yet (ap got (sym z) ∙ j.1.1)));
        cut = λ v d i k. cut v d i k (ℕ_discrete v e.place);
        only = λ v d i. let k = p.only v d i in (set' v k.0 (ℕ_discrete v e.place), k.1, k.2);
        from = p.from;
      }
        where
          set' : (v : ℕ) → D v ≡ true → Dec (v ≡ e.place) → D' v ≡ true
          set' v i (yes z) = ap D' z ∙ new
          set' v i (no ne) = other v ne ∙ i

          cut : (v d : ℕ) → D' v ≡ true → N v ≡ Some d → Dec (v ≡ e.place) → (got v ≡ Some d) ⊎ (Less d (tells v) → ⊥)
          cut v d i k (yes z) =
              let same-d : e.distance ≡ d = same exact (ap N (sym z) ∙ k) in
              inr (subst (λ (x : ℕ). Less d (tells x) → ⊥) (sym z) (subst (λ (x : ℕ). Less x (tells e.place) → ⊥) same-d told))
          cut v d i k (no ne) = p.cut v d (sym (other v ne) ∙ i) k

      -- it has the hub: its ducts are to be followed
      module _ (got' : ℕ → Option ℕ) (is : got' e.place ≡ Some e.distance) (rest : (v : ℕ) → (v ≡ e.place → ⊥) → got' v ≡ got v) (less : Less e.distance (tells e.place)) where
        pub grown : (v w d : ℕ) → Back ds got v d w → Back ds got' v d w
        grown v w d (len, b, j, g, z) = (len, b, j, rest w (λ y. not_both no_hub_yet (ap got (sym y) ∙ g)) ∙ g, z)

        -- a neighbour that comes later is no neighbour back
        pub shrunk : (n : ℕ) → Lawful n ds → (v w d : ℕ) → d ≤ e.distance → Back ds got' v d w → Back ds got v d w
        shrunk n lawful v w d le (len, b, j, g, z) = (len, b, j, sym (rest w ne) ∙ g, z)
          where
            ne : w ≡ e.place → ⊥
            ne y =
                let b-is : b ≡ e.distance = same (ap got' (sym y) ∙ g) is in
                omega (arith, some_length n ds v w len lawful j)

        pub taken : Pruning ds (DueBut ds got' e.place) tells s e.distance N D' got' q'
        taken = record {
          kept = settled (DueBut ds got' e.place) (λ x w len j. ((j.0.0, (j.0.1.0, sym (rest x j.1) ∙ j.0.1.1)), j.1));
          cut = λ v d i k. cut v d i k (ℕ_discrete v e.place);
          only = λ v d i. only v d i (ℕ_discrete v e.place);
          from = λ v d i ne. let k = p.from v d i ne in (k.0, grown v k.0 d k.1);
        }
          where
            cut : (v d : ℕ) → D' v ≡ true → N v ≡ Some d → Dec (v ≡ e.place) → (got' v ≡ Some d) ⊎ (Less d (tells v) → ⊥)
            cut v d i k (yes z) = inl (ap got' z ∙ is ∙ ap Some (same exact (ap N (sym z) ∙ k)))
            cut v d i k (no ne) = subst (λ (o : Option ℕ). (o ≡ Some d) ⊎ (Less d (tells v) → ⊥)) (sym (rest v ne)) (p.cut v d (sym (other v ne) ∙ i) k)

            only : (v d : ℕ) → got' v ≡ Some d → Dec (v ≡ e.place) → (D' v ≡ true) × (N v ≡ Some d) × Less d (tells v)
            only v d i (yes z) =
                let same-d : e.distance ≡ d = same is (ap got' (sym z) ∙ i) in (
                  ap D' z ∙ new,
                  ap N z ∙ exact ∙ ap Some same-d,
                  subst (λ (x : ℕ). Less d (tells x)) (sym z) (subst (λ (x : ℕ). Less x (tells e.place)) same-d less),
                )
            only v d i (no ne) = let k = p.only v d (sym (rest v ne) ∙ i) in (other v ne ∙ k.0, k.1, k.2)

-- a duct from u, which has the hub, gives a shorter way to a place
module _ (ds : List Row) (Follow : ℕ → ℕ → ℕ → Type 0) (tells : ℕ → Option ℕ) (s u d : ℕ) (N : ℕ → Option ℕ) (D : ℕ → Bool) (got : ℕ → Option ℕ) (q : List SearchEntry)
    (N' : ℕ → Option ℕ) (D' : ℕ → Bool) (got' : ℕ → Option ℕ) (q' : List SearchEntry) (to len : ℕ)
    (new : N' to ≡ Some (d + len)) (other : (v : ℕ) → (v ≡ to → ⊥) → N' v ≡ N v) (same_D : (v : ℕ) → D' v ≡ D v) (rest : (v : ℕ) → (v ≡ to → ⊥) → got' v ≡ got v) (open_got : D to ≡ false → got' to ≡ None)
    (fresh : AtMost (N to) (d + len) → ⊥) (bag : IsPermutation (record { distance = d + len; place = to } ∷ q) q')
    (j : Joined ds u to len) (at : got u ≡ Some d) (p : Pruning ds Follow tells s d N D got q) where
  waiting : D to ≡ false
  waiting = go (D to) refl
    where
      go : (b : Bool) → D to ≡ b → b ≡ false
      go false i = refl
      go true i = absurd (fresh (weaken (N to) d (d + len) (p.kept.low to i) (omega arith)))

  pub kept_got : (v : ℕ) → got' v ≡ got v
  kept_got v = go (ℕ_discrete v to)
    where
      none : (o : Option ℕ) → got to ≡ o → got to ≡ None
      none None i = i
      none (Some b) i = never (D to) (p.only to b i).0 waiting

      go : Dec (v ≡ to) → got' v ≡ got v
      go (no ne) = rest v ne
      go (yes z) = ap got' z ∙ open_got waiting ∙ sym (none (got to) refl) ∙ ap got (sym z)

  pub bettered : Pruning ds Follow tells s d N' D' got' q'
  bettered = record {
    kept = theory.bettered ds Follow s d N D q N' D' q' to (d + len) new other same_D fresh bag (omega arith) (onward ds s u to d len (subst (Reached ds s u) (p.only u d at).1 (p.kept.ways u)) j) p.kept;
    cut = λ v c i k. subst (λ (o : Option ℕ). (o ≡ Some c) ⊎ (Less c (tells v) → ⊥)) (sym (kept_got v)) (p.cut v c (sym (same_D v) ∙ i) (sym (other v (settled_other v (sym (same_D v) ∙ i))) ∙ k));
    only = λ v c i. let k = p.only v c (sym (kept_got v) ∙ i) in (same_D v ∙ k.0, other v (settled_other v k.0) ∙ k.1, k.2);
    from = λ v c i ne. from v c i ne (ℕ_discrete v to);
  }
    where
      settled_other : (v : ℕ) → D v ≡ true → v ≡ to → ⊥
      settled_other v i z = never (D to) (ap D (sym z) ∙ i) waiting

      kept_back : (v c w : ℕ) → Back ds got v c w → Back ds got' v c w
      kept_back v c w (l, b, x, g, z) = (l, b, x, kept_got w ∙ g, z)

      from : (v c : ℕ) → N' v ≡ Some c → (v ≡ s → ⊥) → Dec (v ≡ to) → (w : ℕ) × Back ds got' v c w
      from v c i ne (yes z) =
          let c-is : d + len ≡ c = same new (ap N' (sym z) ∙ i) in
          (u, (len, d, subst (λ (x : ℕ). Joined ds x u len) (sym z) (turn ds u to len j), kept_got u ∙ at, omega arith))
      from v c i ne (no k) = let b = p.from v c (sym (other v k) ∙ i) ne in (b.0, kept_back v c b.0 b.1)

-- each duct of u has been followed
pub followed : (ds : List Row) (tells : ℕ → Option ℕ) (s u d : ℕ) (N : ℕ → Option ℕ) (D : ℕ → Bool) (got : ℕ → Option ℕ) (q : List SearchEntry) → got u ≡ Some d → Pruning ds (DueBut ds got u) tells s d N D got q → ((w len : ℕ) → Joined ds u w len → AtMost (N w) (d + len)) → Pruning ds (Due ds got) tells s d N D got q
followed ds tells s u d N D got q at p all = record {
  kept = record { begins = p.kept.begins; ways = p.kept.ways; low = p.kept.low; shut = λ x w len a i j h. go x w len a i j h (ℕ_discrete x u); waits = p.kept.waits; listed = p.kept.listed };
  cut = p.cut;
  only = p.only;
  from = p.from;
}
  where
    go : (x w len a : ℕ) → D x ≡ true → Due ds got x w len → AtMost (N x) a → Dec (x ≡ u) → AtMost (N w) (a + len)
    go x w len a i j h (yes z) =
        let le : d ≤ a = subst (λ (o : Option ℕ). AtMost o a) (ap N z ∙ (p.only u d at).1) h in
        weaken (N w) (d + len) (a + len) (all w len (subst (λ (y : ℕ). Joined ds y w len) z j.0)) (omega arith)
    go x w len a i j h (no ne) = p.kept.shut x w len a i (j, ne) h

-- nothing waits: the search has done what is asked of it
pub finished : (n : ℕ) (ds : List Row) (order : List ℕ) (row : ℕ → List Entry) (r floor : ℕ) (N : ℕ → Option ℕ) (D : ℕ → Bool) (got : ℕ → Option ℕ) → Lawful n ds → place order r < n → Pruning ds (Due ds got) (said order row r) (place order r) floor N D got [] → Searched n ds order row r got
finished n ds order row r floor N D got lawful is p = record {
  start = tried (place order r) 0 p.kept.begins;
  goes_on = λ v w len b iv iw e j.
      let k = p.only w b e in
      subst (Tried order row r got v) (omega arith) (tried v (b + len) (p.kept.shut w v len b k.0 (j, (b, e)) (subst (λ (o : Option ℕ). AtMost o b) (sym k.1) (omega arith))));
  no_less = λ v d iv e.
      let w = subst (Reached ds (place order r) v) (p.only v d e).1 (p.kept.ways v) in
      let f = far_way n ds lawful (place order r) v w.0 is iv w.1 in
      (f.0, far_back n ds lawful (place order r) v f.0 is iv f.1, omega (arith, f.2, w.2));
  passed = λ v d iv e. (p.only v d e).2;
}
  where
    tried : (v c : ℕ) → AtMost (N v) c → Tried order row r got v c
    tried v c h = go (at_least (N v) c h)
      where
        known : (d : ℕ) → N v ≡ Some d → d ≤ c → (got v ≡ Some d) ⊎ (Less d (said order row r v) → ⊥) → Tried order row r got v c
        known d i le (inl g) = inl (d, g, le)
        known d i le (inr t) = inr (λ l. t (less_down d c (said order row r v) le l))

        settled : (b : Bool) → D v ≡ b → (d : ℕ) → N v ≡ Some d → d ≤ c → Tried order row r got v c
        settled true e d i le = known d i le (p.cut v d e i)
        settled false e d i le = absurd (p.kept.waits v d e i tt)

        go : ((d : ℕ) × (N v ≡ Some d) × (d ≤ c)) → Tried order row r got v c
        go (d, i, le) = settled (D v) refl d i le

-- what passes the test has the hub, at a distance that is no greater
pub is_hub : (n : ℕ) (ds : List Row) (order : List ℕ) (row : ℕ → List Entry) (r v d : ℕ) → Lawful n ds → Order n order → ExactBelow n ds order row r → r < n → v < n → Way ds (place order r) v d → Less d (said order row r v) → (c : ℕ) × Hub n ds order v r c
is_hub n ds order row r v d lawful o x ir iv w less =
    let is : place order r < n = place_in n order o r ir in
    let f = far_way n ds lawful (place order r) v w.0 is iv w.1 in
    let back = far_back n ds lawful (place order r) v f.0 is iv f.1 in
    (f.0, (pruned n ds order row r v f.0 lawful o x ir iv back).1 (less_down f.0 d (said order row r v) (omega (arith, f.2, w.2)) less))
