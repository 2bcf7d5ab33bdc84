-- The theory of the search: no code. Assumes nothing.
use Rattle.std.proofs.Common.{◌≡◌, ℕ, suc, ◌+◌, ◌≤◌, Bool, true, false, ◌⊎◌, List, [], ◌∷◌, Some, None, Option, sym, refl, ap, ◌∙◌, subst, inl, inr, arith}
use native.Mathlib.Decide.{ℕ_discrete, dec_le}
use Rattle.std.specs.List.{AllByRecursion}
use Rattle.std.specs.List.Sorted.{IsPermutation}
use Rattle.std.proofs.ByRecursion.{All-weaker, all_shuffled}
use Rattle.std.proofs.lemmas.List.Sorted.{IsPermutation-sym}
use Rattle.std.proofs.lemmas.Bool.{both_ways}
use Rattle.heap.specs.declared.search.SearchEntry.{SearchEntry}
use Rattle.ways.specs.declared.row.Row.{Row}
use Rattle.ways.specs.Way.{Hop, Joined, Leads, total, Way}
use Rattle.ways.specs.Options.{AtMost}
use Rattle.ways.specs.Distance.{Reached, IsDistance}
use Rattle.search.specs.State.{Waits, Kept, But}
use Rattle.ways.proofs.Graph.{weaken, is_distance, here}

-- a way from a place with a number: its end has a number no greater than the sum, or an unsettled place has a number on the way
module _ (ds : List Row) (N : ℕ → Option ℕ) (D : ℕ → Bool) (K : ℕ)
    (shut : (x w len a : ℕ) → D x ≡ true → Joined ds x w len → AtMost (N x) a → AtMost (N w) (a + len))
    (floor : (w k : ℕ) → D w ≡ false → AtMost (N w) k → K ≤ k) where
  pub along : (x v a : ℕ) (hs : List Hop) → AtMost (N x) a → Leads ds x hs v → AtMost (N v) (a + total hs) ⊎ (K ≤ a + total hs)
  along x v a [] h l = inl (subst (λ (y : ℕ). AtMost (N y) (a + 0)) l (weaken (N x) a (a + 0) h (omega arith)))
  along x v a (s ∷ hs) h l = go (D x) refl (λ e. along s.to v (a + s.length) hs (shut x s.to s.length a e l.0 h) l.1)
    where
      sum : a + s.length + total hs ≡ a + (s.length + total hs)
      sum = omega arith

      go : (b : Bool) → D x ≡ b → (D x ≡ true → AtMost (N v) (a + s.length + total hs) ⊎ (K ≤ a + s.length + total hs)) → AtMost (N v) (a + (s.length + total hs)) ⊎ (K ≤ a + (s.length + total hs))
      go true e r = subst (λ (t : ℕ). AtMost (N v) t ⊎ (K ≤ t)) sum (r e)
      go false e r = inr (omega (arith, floor x a e h))

  -- the unsettled place of the least number: every way to it is as long
  pub least : (s u : ℕ) → AtMost (N s) 0 → N u ≡ Some K → (hs : List Hop) → Leads ds s hs u → K ≤ total hs
  least s u h e hs l = go (along s u 0 hs h l)
    where
      go : AtMost (N u) (0 + total hs) ⊎ (K ≤ 0 + total hs) → K ≤ total hs
      go (inl k) = let r : K ≤ 0 + total hs = subst (λ (o : Option ℕ). AtMost o (0 + total hs)) e k in omega arith
      go (inr k) = omega arith

never : (b : Bool) → b ≡ true → b ≡ false → ⊥
never b p q = absurd (both_ways b q p)

all_both : {X : Type 0} (P Q : X → Type 0) (xs : List X) → AllByRecursion P xs → AllByRecursion Q xs → AllByRecursion (λ x. P x × Q x) xs
all_both P Q [] p q = tt
all_both P Q (x ∷ xs) p q = ((p.0, q.0), all_both P Q xs p.1 q.1)

-- an entry is put in
waits_more : (q q' : List SearchEntry) (e : SearchEntry) (k v : ℕ) → IsPermutation (e ∷ q) q' → Waits q k v → Waits q' k v
waits_more q q' e k v bag w = λ all. w (all_shuffled (λ e. e.distance ≡ k → e.place ≡ v → ⊥) q' (e ∷ q) (IsPermutation-sym (e ∷ q) q' bag) all).1

waits_new : (q q' : List SearchEntry) (e : SearchEntry) → IsPermutation (e ∷ q) q' → Waits q' e.distance e.place
waits_new q q' e bag = λ all. (all_shuffled (λ x. x.distance ≡ e.distance → x.place ≡ e.place → ⊥) q' (e ∷ q) (IsPermutation-sym (e ∷ q) q' bag) all).0 refl refl

-- an entry of another place is taken out
waits_less : (q q' : List SearchEntry) (e : SearchEntry) (k v : ℕ) → IsPermutation q (e ∷ q') → (e.place ≡ v → ⊥) → Waits q k v → Waits q' k v
waits_less q q' e k v bag ne w = λ all. w (all_shuffled (λ e. e.distance ≡ k → e.place ≡ v → ⊥) (e ∷ q') q (IsPermutation-sym q (e ∷ q') bag) ((λ _ p. ne p), all))

-- a place has a lesser number than before
module _ (ds : List Row) (Due : ℕ → ℕ → ℕ → Type 0) (s floor : ℕ) (N : ℕ → Option ℕ) (D : ℕ → Bool) (q : List SearchEntry)
    (N' : ℕ → Option ℕ) (D' : ℕ → Bool) (q' : List SearchEntry) (to n : ℕ)
    (new : N' to ≡ Some n) (other : (v : ℕ) → (v ≡ to → ⊥) → N' v ≡ N v) (same : (v : ℕ) → D' v ≡ D v)
    (fresh : AtMost (N to) n → ⊥) (bag : IsPermutation (record { distance = n; place = to } ∷ q) q') where
  pub lower : (v t : ℕ) → AtMost (N v) t → AtMost (N' v) t
  lower v t h = go (ℕ_discrete v to) (dec_le n t)
    where
      go : Dec (v ≡ to) → Dec (n ≤ t) → AtMost (N' v) t
      go (no ne) d = subst (λ (o : Option ℕ). AtMost o t) (sym (other v ne)) h
      go (yes e) (yes le) = subst (λ (o : Option ℕ). AtMost o t) (sym (ap N' e ∙ new)) le
      go (yes e) (no gt) = absurd (fresh (weaken (N to) t n (subst (λ (x : ℕ). AtMost (N x) t) e h) (omega arith)))

  pub bettered : floor ≤ n → Way ds s to n → Kept ds Due s floor N D q → Kept ds Due s floor N' D' q'
  bettered above way k = record {
    begins = lower s 0 k.begins;
    ways = λ v. ways v (ℕ_discrete v to);
    low = λ v e. lower v floor (k.low v (sym (same v) ∙ e));
    shut = shut;
    waits = λ v j e i. waits v j e i (ℕ_discrete v to);
    listed = all_shuffled _ (record { distance = n; place = to } ∷ q) q' bag (
      (above, subst (λ (o : Option ℕ). AtMost o n) (sym new) (omega arith)),
      All-weaker (λ e. (floor ≤ e.distance) × AtMost (N e.place) e.distance) (λ e. (floor ≤ e.distance) × AtMost (N' e.place) e.distance) (λ e h. (h.0, lower e.place e.distance h.1)) q k.listed,
    );
  }
    where
      ways : (v : ℕ) → Dec (v ≡ to) → Reached ds s v (N' v)
      ways v (yes e) = subst (λ (x : ℕ). Reached ds s x (N' x)) (sym e) (subst (Reached ds s to) (sym new) way)
      ways v (no ne) = subst (Reached ds s v) (sym (other v ne)) (k.ways v)

      shut : (x w len a : ℕ) → D' x ≡ true → Due x w len → AtMost (N' x) a → AtMost (N' w) (a + len)
      shut x w len a e due h =
          let was : D x ≡ true = sym (same x) ∙ e in
          let ne : x ≡ to → ⊥ = λ i. fresh (subst (λ (y : ℕ). AtMost (N y) n) i (weaken (N x) floor n (k.low x was) above)) in
          lower w (a + len) (k.shut x w len a was due (subst (λ (o : Option ℕ). AtMost o a) (other x ne) h))

      waits : (v j : ℕ) → D' v ≡ false → N' v ≡ Some j → Dec (v ≡ to) → Waits q' j v
      waits v j e i (yes p) =
          let z : n ≡ j = cc (ap N' p) in
          subst (λ (x : ℕ). Waits q' x v) z (subst (Waits q' n) (sym p) (waits_new q q' (record { distance = n; place = to }) bag))
      waits v j e i (no ne) = waits_more q q' (record { distance = n; place = to }) j v bag (k.waits v j (sym (same v) ∙ e) (sym (other v ne) ∙ i))

-- the least entry is taken out
module _ (ds : List Row) (s floor : ℕ) (N : ℕ → Option ℕ) (D : ℕ → Bool) (q q' : List SearchEntry) (e : SearchEntry)
    (k : Kept ds (Joined ds) s floor N D q) (bag : IsPermutation q (e ∷ q')) (first : AllByRecursion (λ y. e.distance ≤ y.distance) q) where
  moved : ((floor ≤ e.distance) × AtMost (N e.place) e.distance) × AllByRecursion (λ e. (floor ≤ e.distance) × AtMost (N e.place) e.distance) q'
  moved = all_shuffled (λ e. (floor ≤ e.distance) × AtMost (N e.place) e.distance) q (e ∷ q') bag k.listed

  -- of a place that is settled
  pub skipped : D e.place ≡ true → Kept ds (Joined ds) s floor N D q'
  skipped was = record {
    begins = k.begins;
    ways = k.ways;
    low = k.low;
    shut = k.shut;
    waits = λ v j d i. waits_less q q' e j v bag (λ p. never (D v) (ap D (sym p) ∙ was) d) (k.waits v j d i);
    listed = moved.1;
  }

  -- no unsettled number is less
  pub floor_holds : (w j : ℕ) → D w ≡ false → N w ≡ Some j → e.distance ≤ j
  floor_holds w j d i = go (dec_le e.distance j)
    where
      go : Dec (e.distance ≤ j) → e.distance ≤ j
      go (yes le) = le
      go (no gt) =
          absurd (k.waits w j d i (All-weaker (λ y. e.distance ≤ y.distance) (λ y. y.distance ≡ j → y.place ≡ w → ⊥) (λ y le p r. gt (subst (λ (t : ℕ). e.distance ≤ t) p le)) q first))

  pub floor_at_most : (w t : ℕ) → D w ≡ false → AtMost (N w) t → e.distance ≤ t
  floor_at_most w t d h = go (N w) refl h
    where
      go : (o : Option ℕ) → N w ≡ o → AtMost o t → e.distance ≤ t
      go None i a = absurd a
      go (Some j) i a = omega (arith, floor_holds w j d i)

  -- of a place that is not: its number is its distance
  module _ (open' : D e.place ≡ false) where
    pub exact : N e.place ≡ Some e.distance
    exact = go (N e.place) refl moved.0.1
      where
        go : (o : Option ℕ) → N e.place ≡ o → AtMost o e.distance → o ≡ Some e.distance
        go None i a = absurd a
        go (Some j) i a = ap Some (let le : e.distance ≤ j = floor_holds e.place j open' i in omega arith)

    pub settled_distance : IsDistance ds s e.place (Some e.distance)
    settled_distance = (
      subst (Reached ds s e.place) exact (k.ways e.place),
      λ hs l. least ds N D e.distance k.shut floor_at_most s e.place k.begins exact hs l,
    )

    pub settled : (N' : ℕ → Option ℕ) (D' : ℕ → Bool) → ((v : ℕ) → N' v ≡ N v) → D' e.place ≡ true → ((v : ℕ) → (v ≡ e.place → ⊥) → D' v ≡ D v) → Kept ds (But ds e.place) s e.distance N' D' q'
    settled N' D' same new other = record {
      begins = subst (λ (o : Option ℕ). AtMost o 0) (sym (same s)) k.begins;
      ways = λ v. subst (Reached ds s v) (sym (same v)) (k.ways v);
      low = λ v d. subst (λ (o : Option ℕ). AtMost o e.distance) (sym (same v)) (low v d (ℕ_discrete v e.place));
      shut = λ x w len a d due h. subst (λ (o : Option ℕ). AtMost o (a + len)) (sym (same w)) (k.shut x w len a (sym (other x due.1) ∙ d) due.0 (subst (λ (o : Option ℕ). AtMost o a) (same x) h));
      waits = λ v j d i.
          let ne : v ≡ e.place → ⊥ = λ p. never (D' v) (ap D' p ∙ new) d in
          waits_less q q' e j v bag (λ p. ne (sym p)) (k.waits v j (sym (other v ne) ∙ d) (sym (same v) ∙ i));
      listed = All-weaker (λ y. (e.distance ≤ y.distance) × ((floor ≤ y.distance) × AtMost (N y.place) y.distance)) (λ y. (e.distance ≤ y.distance) × AtMost (N' y.place) y.distance)
          (λ y h. (h.0, subst (λ (o : Option ℕ). AtMost o y.distance) (sym (same y.place)) h.1.1)) q'
          (all_shuffled _ q (e ∷ q') bag (all_both (λ y. e.distance ≤ y.distance) (λ y. (floor ≤ y.distance) × AtMost (N y.place) y.distance) q first k.listed)).1;
    }
      where
        low : (v : ℕ) → D' v ≡ true → Dec (v ≡ e.place) → AtMost (N v) e.distance
        low v d (yes p) = subst (λ (x : ℕ). AtMost (N x) e.distance) (sym p) moved.0.1
        low v d (no ne) = weaken (N v) floor e.distance (k.low v (sym (other v ne) ∙ d)) moved.0.0

-- each duct of u has been followed
pub followed : (ds : List Row) (s u n : ℕ) (N : ℕ → Option ℕ) (D : ℕ → Bool) (q : List SearchEntry) → Kept ds (But ds u) s n N D q → N u ≡ Some n → ((w len : ℕ) → Joined ds u w len → AtMost (N w) (n + len)) → Kept ds (Joined ds) s n N D q
followed ds s u n N D q k is all = record {
  begins = k.begins;
  ways = k.ways;
  low = k.low;
  shut = λ x w len a d j h. go x w len a d j h (ℕ_discrete x u);
  waits = k.waits;
  listed = k.listed;
}
  where
    go : (x w len a : ℕ) → D x ≡ true → Joined ds x w len → AtMost (N x) a → Dec (x ≡ u) → AtMost (N w) (a + len)
    go x w len a d j h (yes p) =
        let le : n ≤ a = subst (λ (o : Option ℕ). AtMost o a) (ap N p ∙ is) h in
        weaken (N w) (n + len) (a + len) (all w len (subst (λ (y : ℕ). Joined ds y w len) p j)) (omega arith)
    go x w len a d j h (no ne) = k.shut x w len a d (j, ne) h

-- nothing waits: each number is a distance
pub finished : (ds : List Row) (s floor : ℕ) (N : ℕ → Option ℕ) (D : ℕ → Bool) → Kept ds (Joined ds) s floor N D [] → (v : ℕ) → IsDistance ds s v (N v)
finished ds s floor N D k v = is_distance ds s v (N v) (k.ways v) (λ hs l. go hs (along ds N D (suc (total hs)) k.shut (λ w t d h. none w t (suc (total hs)) d h) s v 0 hs k.begins l))
  where
    none : (w t r : ℕ) → D w ≡ false → AtMost (N w) t → r ≤ t
    none w t r d h = in' (N w) refl h
      where
        in' : (o : Option ℕ) → N w ≡ o → AtMost o t → r ≤ t
        in' None i a = absurd a
        in' (Some j) i a = absurd (k.waits w j d i tt)

    go : (hs : List Hop) → AtMost (N v) (0 + total hs) ⊎ (suc (total hs) ≤ 0 + total hs) → AtMost (N v) (total hs)
    go hs (inl h) = weaken (N v) (0 + total hs) (total hs) h (omega arith)
    go hs (inr h) = absurd (omega arith)

-- only the source has a number, 0, and it waits
pub begun : (ds : List Row) (s : ℕ) (N : ℕ → Option ℕ) (D : ℕ → Bool) (q : List SearchEntry) → N s ≡ Some 0 → ((v : ℕ) → (v ≡ s → ⊥) → N v ≡ None) → ((v : ℕ) → D v ≡ false) → IsPermutation (record { distance = 0; place = s } ∷ []) q → Kept ds (Joined ds) s 0 N D q
begun ds s N D q is none no_one bag = record {
  begins = start;
  ways = λ v. ways v (ℕ_discrete v s);
  low = λ v e. absurd (never (D v) e (no_one v));
  shut = λ x w len a e. absurd (never (D x) e (no_one x));
  waits = λ v k e i. waits v k i (ℕ_discrete v s);
  listed = all_shuffled _ (record { distance = 0; place = s } ∷ []) q bag ((omega arith, start), tt);
}
  where
    start : AtMost (N s) 0
    start = subst (λ (o : Option ℕ). AtMost o 0) (sym is) (omega arith)

    ways : (v : ℕ) → Dec (v ≡ s) → Reached ds s v (N v)
    ways v (yes e) = subst (λ (x : ℕ). Reached ds s x (N x)) (sym e) (subst (Reached ds s s) (sym is) (here ds s))
    ways v (no ne) = subst (Reached ds s v) (sym (none v ne)) tt

    waits : (v k : ℕ) → N v ≡ Some k → Dec (v ≡ s) → Waits q k v
    waits v k i (yes e) =
        let z : 0 ≡ k = cc (ap N e) in
        subst (λ (x : ℕ). Waits q x v) z (subst (Waits q 0) (sym e) (waits_new [] q (record { distance = 0; place = s }) bag))
    waits v k i (no ne) = let z : ◌≡◌ {A = ℕ} 0 1 = cc (none v ne) in absurd (omega arith)
