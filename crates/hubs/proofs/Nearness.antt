-- The nearest focused place, by a record for each hub. Assumes nothing.
use Rattle.std.proofs.Common.{◌≡◌, ℕ, ◌+◌, ◌<◌, ◌≤◌, Bool, true, false, eqb, ltb, leb, ◌⊎◌, List, [], ◌∷◌, Some, None, Option, sym, refl, ap, ◌∙◌, subst, inl, inr, arith, ltb-false, ltb-true, eq-eqb, ne_eqb, eqb-true, leb-false, leb-true}
use native.Mathlib.Decide.{ℕ_discrete}
use borrow.Author.Tests.{eqb-false}
use Rattle.ways.specs.declared.row.Row.{Row}
use Rattle.ways.specs.Nearest.{Near}
use Rattle.ways.specs.Options.{pick}
use Rattle.ways.specs.Way.{Lawful}
use Rattle.ways.specs.Distance.{distance}
use Rattle.ways.specs.Nearest.{Nearest, Later, no_place, with_place}
use Rattle.ways.proofs.Metric.{same, not_both}
use Rattle.hubs.specs.Labels.{Entry, In, Rising, Shared, Table, Right}
use Rattle.hubs.specs.Records.{Before, Held, IsRecord, sooner, seen, folded, distance_of, placed}
use Rattle.hubs.specs.Theorems.{RightNearest}
use Rattle.hubs.proofs.Merging.{above_in}
use Rattle.hubs.proofs.Tables.{shared_sum}

trans : (p q r : Near) → Before p q → Before q r → Before p r
trans p q r h k = (omega (arith, h.0, k.0), λ e. omega (arith, h.0, k.0, h.1 (omega (arith, h.0, k.0)), k.1 (omega (arith, h.0, k.0))))

-- o is the first of all that have P
abbrev First : (Near → Type 0) → Option Near → Type 0
First P None = (p : Near) → P p → ⊥
First P (Some p) = P p × ((q : Near) → P q → Before p q)

-- the sooner of two firsts is the first of both
first_sooner : (P Q : Near → Type 0) (o w : Option Near) → First P o → First Q w → First (λ p. P p ⊎ Q p) (sooner o w)
first_sooner P Q None None h k = none
  where
    none : (p : Near) → P p ⊎ Q p → ⊥
    none p (inl x) = h p x
    none p (inr x) = k p x
first_sooner P Q None (Some q) h k = (inr k.0, least)
  where
    least : (x : Near) → P x ⊎ Q x → Before q x
    least x (inl i) = absurd (h x i)
    least x (inr i) = k.1 x i
first_sooner P Q (Some p) None h k = (inl h.0, least)
  where
    least : (x : Near) → P x ⊎ Q x → Before p x
    least x (inl i) = h.1 x i
    least x (inr i) = absurd (k x i)
first_sooner P Q (Some p) (Some q) h k = go (ltb p.distance q.distance) refl (eqb p.distance q.distance) refl (leb p.place q.place) refl
  where
    left : Before p q → First (λ x. P x ⊎ Q x) (Some p)
    left b = (inl h.0, least)
      where
        least : (x : Near) → P x ⊎ Q x → Before p x
        least x (inl i) = h.1 x i
        least x (inr i) = trans p q x b (k.1 x i)

    right : Before q p → First (λ x. P x ⊎ Q x) (Some q)
    right b = (inr k.0, least)
      where
        least : (x : Near) → P x ⊎ Q x → Before q x
        least x (inl i) = trans q p x b (h.1 x i)
        least x (inr i) = k.1 x i

    go : (a : Bool) → ltb p.distance q.distance ≡ a → (b : Bool) → eqb p.distance q.distance ≡ b → (c : Bool) → leb p.place q.place ≡ c → First (λ x. P x ⊎ Q x) (pick (pick a true (pick b c false)) (Some p) (Some q))
    go true x b y c z =
        let lt : p.distance < q.distance = ltb-true p.distance q.distance x in
        left (omega arith, λ e. omega arith)
    go false x true y true z = left (omega (arith, eqb-true p.distance q.distance y), λ e. leb-true p.place q.place z)
    go false x true y false z =
        let lt : q.place < p.place = leb-false p.place q.place z in
        right (omega (arith, eqb-true p.distance q.distance y), λ e. omega arith)
    go false x false y c z =
        let le : q.distance ≤ p.distance = ltb-false p.distance q.distance x in
        right (le, λ e. absurd (eqb-false p.distance q.distance y (sym e)))

first_as : (P Q : Near → Type 0) (o : Option Near) → ((p : Near) → P p → Q p) → ((p : Near) → Q p → P p) → First P o → First Q o
first_as P Q None to from h = λ p q. h p (from p q)
first_as P Q (Some x) to from h = (to x h.0, λ p q. h.1 p (from p q))

module _ (records : ℕ → Option Near) where
  -- p is the record of x's hub, seen over x
  abbrev Over : Entry → Near → Type 0
  Over x p = (q : Near) × (records x.rank ≡ Some q) × (p ≡ record { place = q.place; distance = x.distance + q.distance })

  abbrev OverAny : List Entry → Near → Type 0
  OverAny xs p = (x : Entry) × In x xs × Over x p

  first_seen : (x : Entry) → First (Over x) (seen x.distance (records x.rank))
  first_seen x = go (records x.rank) refl
    where
      go : (o : Option Near) → records x.rank ≡ o → First (Over x) (seen x.distance o)
      go None e = λ p (q, k, l). let z : ◌≡◌ {A = ℕ} 0 1 = cc in omega arith
      go (Some q) e = ((q, e, refl), least)
        where
          least : (p : Near) → Over x p → Before (record { place = q.place; distance = x.distance + q.distance }) p
          least p (r, k, l) =
              let m : q ≡ r = cc in
              let i : p.place ≡ q.place = ap (λ (y : Near). y.place) l ∙ ap (λ (y : Near). y.place) (sym m) in
              let j : p.distance ≡ x.distance + q.distance = ap (λ (y : Near). y.distance) l ∙ ap (λ (y : Near). x.distance + y.distance) (sym m) in
              (omega arith, λ z. omega arith)

  first_folded : (xs : List Entry) → First (OverAny xs) (folded records xs)
  first_folded [] = λ p (x, i, o). i
  first_folded (x ∷ xs) =
      first_as (λ p. Over x p ⊎ OverAny xs p) (OverAny (x ∷ xs)) (folded records (x ∷ xs)) to from (first_sooner (Over x) (OverAny xs) (seen x.distance (records x.rank)) (folded records xs) (first_seen x) (first_folded xs))
    where
      to : (p : Near) → Over x p ⊎ OverAny xs p → OverAny (x ∷ xs) p
      to p (inl o) = (x, inl refl, o)
      to p (inr (y, i, o)) = (y, inr i, o)

      from : (p : Near) → OverAny (x ∷ xs) p → Over x p ⊎ OverAny xs p
      from p (y, inl e, o) = inl (subst (λ (z : Entry). Over z p) e o)
      from p (y, inr i, o) = inr (y, i, o)

module _ (n : ℕ) (ds : List Row) (t : Table) (focus : ℕ → Bool) (records : ℕ → Option Near) (v : ℕ) (s : Lawful n ds) (k : Right n ds t) (iv : v < n) (is : (r : ℕ) → r < n → IsRecord n focus t.row r (records r)) where
  -- each focused place with a way is seen over some hub, no later than at its own distance
  sees : (g d : ℕ) → g < n → focus g ≡ true → distance n ds v g ≡ Some d → (p : Near) × OverAny records (t.row v) p × Before p (record { place = g; distance = d })
  sees g d ig fg far = go (records r) refl (is r ir)
    where
      c : (r : ℕ) × Shared (t.row v) (t.row g) r d
      c = k.cover v g d iv ig far

      r : ℕ
      r = c.0

      h : Shared (t.row v) (t.row g) r d
      h = c.1

      ir : r < n
      ir = subst (λ (x : ℕ). x < n) h.first_rank (k.entries v h.first iv h.first_in).rank_in

      held : Held n focus t.row r (record { place = g; distance = h.second.distance })
      held = record { inside = ig; focused = fg; entry = h.second; entry_in = h.second_in; at_rank = h.second_rank; at_distance = refl }

      go : (o : Option Near) → records r ≡ o → IsRecord n focus t.row r o → (p : Near) × OverAny records (t.row v) p × Before p (record { place = g; distance = d })
      go None e m = absurd (m (record { place = g; distance = h.second.distance }) held)
      go (Some q) e m =
          let b = m.1 (record { place = g; distance = h.second.distance }) held in
          let sum : h.first.distance + h.second.distance ≡ d = h.sum in
          (record { place = q.place; distance = h.first.distance + q.distance }, (h.first, h.first_in, (q, ap records h.first_rank ∙ e, refl)), (omega (arith, b.0), λ z. b.1 (omega arith)))

  -- what is seen is a focused place, no nearer than its distance
  seen_is : (p : Near) → OverAny records (t.row v) p → (p.place < n) × (focus p.place ≡ true) × ((d : ℕ) × (distance n ds v p.place ≡ Some d) × (d ≤ p.distance))
  seen_is p (x, i, (q, e, l)) =
      let m : IsRecord n focus t.row x.rank (Some q) = subst (IsRecord n focus t.row x.rank) e (is x.rank (k.entries v x iv i).rank_in) in
      let h = m.0 in
      let sp : q.place ≡ p.place = ap (λ (y : Near). y.place) (sym l) in
      let sd : p.distance ≡ x.distance + q.distance = ap (λ (y : Near). y.distance) l in
      let sh : Shared (t.row v) (t.row q.place) x.rank (x.distance + h.entry.distance) = record { first = x; second = h.entry; first_in = i; second_in = h.entry_in; first_rank = refl; second_rank = h.at_rank; sum = refl } in
      let w = shared_sum n ds t v q.place x.rank (x.distance + h.entry.distance) s k iv h.inside sh in (
        subst (λ (y : ℕ). y < n) sp h.inside,
        subst (λ (y : ℕ). focus y ≡ true) sp h.focused,
        (w.0, subst (λ (y : ℕ). distance n ds v y ≡ Some w.0) sp w.1, omega (arith, w.2, h.at_distance)),
      )

  nearest : (o : Option Near) → First (OverAny records (t.row v)) o → Nearest n focus (distance n ds v) o
  nearest None h = λ g ig fg. go g ig fg (distance n ds v g) refl
    where
      go : (g : ℕ) → g < n → focus g ≡ true → (o : Option ℕ) → distance n ds v g ≡ o → o ≡ None
      go g ig fg None e = refl
      go g ig fg (Some d) e = let p = sees g d ig fg e in absurd (h p.0 p.1)
  nearest (Some p) h =
      let w = seen_is p h.0 in
      let best : (g d : ℕ) → g < n → focus g ≡ true → distance n ds v g ≡ Some d → Before p (record { place = g; distance = d }) = λ g d ig fg e. let q = sees g d ig fg e in trans p q.0 (record { place = g; distance = d }) (h.1 q.0 q.1) q.2 in
      let z : w.2.0 ≡ p.distance = omega (arith, w.2.2, (best p.place w.2.0 w.0 w.1 w.2.1).0) in
      (w.0, w.1, w.2.1 ∙ ap Some z, λ g ig fg. go g ig fg (distance n ds v g) refl best)
    where
      go : (g : ℕ) → g < n → focus g ≡ true → (o : Option ℕ) → distance n ds v g ≡ o → ((g d : ℕ) → g < n → focus g ≡ true → distance n ds v g ≡ Some d → Before p (record { place = g; distance = d })) → Later p g o
      go g ig fg None e best = tt
      go g ig fg (Some d) e best = best g d ig fg e

pub right_nearest : RightNearest
right_nearest n ds t focus records v s k iv is = nearest n ds t focus records v s k iv is (folded records (t.row v)) (first_folded records (t.row v))

dist_in : (r d : ℕ) (xs : List Entry) → distance_of r xs ≡ Some d → (e : Entry) × In e xs × (e.rank ≡ r) × (e.distance ≡ d)
dist_in r d [] e = absurd (not_both refl e)
dist_in r d (x ∷ xs) e = go (eqb x.rank r) refl e (dist_in r d xs)
  where
    go : (b : Bool) → eqb x.rank r ≡ b → pick b (Some x.distance) (distance_of r xs) ≡ Some d → (distance_of r xs ≡ Some d → (e : Entry) × In e xs × (e.rank ≡ r) × (e.distance ≡ d)) → (e : Entry) × In e (x ∷ xs) × (e.rank ≡ r) × (e.distance ≡ d)
    go true q e rest = (x, inl refl, eqb-true x.rank r q, same refl e)
    go false q e rest = let k = rest e in (k.0, inr k.1, k.2, k.3)

in_dist : (e : Entry) (xs : List Entry) → Rising xs → In e xs → distance_of e.rank xs ≡ Some e.distance
in_dist e [] p i = absurd i
in_dist e (x ∷ xs) p (inl q) = rw (eq-eqb x.rank e.rank (ap (λ (y : Entry). y.rank) (sym q))) (ap (λ (y : Entry). Some y.distance) (sym q))
in_dist e (x ∷ xs) p (inr i) =
    let lt : x.rank < e.rank = above_in x.rank e xs p.0 i in
    rw (ne_eqb x.rank e.rank (λ z. omega arith)) (in_dist e xs p.1 i)

-- the place v alone
abbrev Alone : (ℕ → List Entry) → ℕ → ℕ → Near → Type 0
Alone row r v p = (p.place ≡ v) × (distance_of r (row v) ≡ Some p.distance)

first_alone : (row : ℕ → List Entry) (r v : ℕ) → First (Alone row r v) (placed v (distance_of r (row v)))
first_alone row r v = go (distance_of r (row v)) refl
  where
    go : (o : Option ℕ) → distance_of r (row v) ≡ o → First (Alone row r v) (placed v o)
    go None e = λ p (h, l). not_both e l
    go (Some d) e = ((refl, e), λ p (h, l). let z : d ≡ p.distance = same e l in (omega arith, λ y. omega arith))

first_is : (n : ℕ) (focus : ℕ → Bool) (row : ℕ → List Entry) (r : ℕ) (o : Option Near) → First (Held n focus row r) o → IsRecord n focus row r o
first_is n focus row r None h = h
first_is n focus row r (Some p) h = h

is_first : (n : ℕ) (focus : ℕ → Bool) (row : ℕ → List Entry) (r : ℕ) (o : Option Near) → IsRecord n focus row r o → First (Held n focus row r) o
is_first n focus row r None h = h
is_first n focus row r (Some p) h = h

-- with no place in focus each record is empty
pub record_none : (n : ℕ) (row : ℕ → List Entry) (r : ℕ) → IsRecord n no_place row r None
record_none n row r p h = let z : ◌≡◌ {A = Bool} false true = h.focused in let y : ◌≡◌ {A = ℕ} 0 1 = cc in omega arith

-- one more place in focus: a hub of its row has the sooner of the two
pub record_more : (n : ℕ) (focus : ℕ → Bool) (row : ℕ → List Entry) (r v : ℕ) (o : Option Near) → v < n → Rising (row v) → IsRecord n focus row r o → IsRecord n (with_place v focus) row r (sooner o (placed v (distance_of r (row v))))
record_more n focus row r v o iv up is =
    first_is n (with_place v focus) row r (sooner o (placed v (distance_of r (row v))))
    (first_as (λ p. Held n focus row r p ⊎ Alone row r v p) (Held n (with_place v focus) row r) (sooner o (placed v (distance_of r (row v)))) to from
    (first_sooner (Held n focus row r) (Alone row r v) o (placed v (distance_of r (row v))) (is_first n focus row r o is) (first_alone row r v)))
  where
    to : (p : Near) → Held n focus row r p ⊎ Alone row r v p → Held n (with_place v focus) row r p
    to p (inl h) = record { inside = h.inside; focused = go (eqb p.place v); entry = h.entry; entry_in = h.entry_in; at_rank = h.at_rank; at_distance = h.at_distance }
      where
        go : (b : Bool) → pick b true (focus p.place) ≡ true
        go true = refl
        go false = h.focused
    to p (inr (e, l)) =
        let m = dist_in r p.distance (row v) l in
        record { inside = subst (λ (y : ℕ). y < n) (sym e) iv; focused = rw (eq-eqb p.place v e) refl; entry = m.0; entry_in = subst (λ (y : ℕ). In m.0 (row y)) (sym e) m.1; at_rank = m.2; at_distance = m.3 }

    from : (p : Near) → Held n (with_place v focus) row r p → Held n focus row r p ⊎ Alone row r v p
    from p h = go (ℕ_discrete p.place v)
      where
        go : Dec (p.place ≡ v) → Held n focus row r p ⊎ Alone row r v p
        go (yes e) =
            let i : In h.entry (row v) = subst (λ (y : ℕ). In h.entry (row y)) e h.entry_in in
            inr (e, subst (λ (y : ℕ). distance_of y (row v) ≡ Some p.distance) h.at_rank (in_dist h.entry (row v) up i ∙ ap Some h.at_distance))
        go (no ne) = inl (record { inside = h.inside; focused = rw (ne_eqb p.place v ne) at h.focused; entry = h.entry; entry_in = h.entry_in; at_rank = h.at_rank; at_distance = h.at_distance })
