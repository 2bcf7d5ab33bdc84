-- For each order there are exact rows, and no two. Assumes nothing.
use Rattle.std.proofs.Common.{◌≡◌, ℕ, zero, suc, ◌+◌, ◌-◌, ◌<◌, ◌≤◌, ◌⊎◌, List, [], ◌∷◌, ◌++◌, Some, None, Option, sym, refl, ap, ◌∙◌, subst, inl, inr, arith}
use native.Mathlib.Decide.{ℕ_discrete, dec_lt, dec_le}
use Rattle.ways.specs.declared.row.Row.{Row}
use Rattle.ways.specs.Places.{Order}
use Rattle.ways.specs.Way.{Joined, Lawful}
use Rattle.ways.specs.Distance.{distance}
use Rattle.ways.proofs.Metric.{same, not_both, far_self, far_first}
use Rattle.hubs.specs.Labels.{place, Hub, Lowest, Entry, In, Rising, Onward, Table, ExactEntry, Exact}
use Rattle.hubs.specs.Theorems.{ExactExists, ExactOnce}
use Rattle.hubs.proofs.Hubs.{Least, least, place_in, cover}
use Rattle.hubs.proofs.Merging.{above_in}
use Rattle.hubs.proofs.Build.{RowBelow, row_grows, below_ends}

either_dec : {A B : Type 0} → Dec A → Dec B → Dec (A ⊎ B)
either_dec (yes a) d = yes (inl a)
either_dec (no a) (yes b) = yes (inr b)
either_dec {A} {B} (no a) (no b) = no neither
  where
    neither : A ⊎ B → ⊥
    neither (inl x) = a x
    neither (inr x) = b x

both_dec : {A B : Type 0} → Dec A → Dec B → Dec (A × B)
both_dec (yes a) (yes b) = yes (a, b)
both_dec (yes a) (no b) = no (λ p. b p.1)
both_dec (no a) d = no (λ p. a p.0)

joined? : (ds : List Row) (u w len : ℕ) → Dec (Joined ds u w len)
joined? [] u w len = no (λ j. j)
joined? (d ∷ ds) u w len =
    either_dec
    (both_dec (ℕ_discrete d.length len) (either_dec (both_dec (ℕ_discrete d.first u) (ℕ_discrete d.second w)) (both_dec (ℕ_discrete d.first w) (ℕ_discrete d.second u))))
    (joined? ds u w len)

onward? : (n : ℕ) (ds : List Row) (v h d w : ℕ) → Dec (Onward n ds v h d w)
onward? n ds v h d w = go (distance n ds w h) refl
  where
    room : (b : ℕ) → distance n ds w h ≡ Some b → b ≤ d → Dec (Joined ds v w (d - b)) → Dec (Onward n ds v h d w)
    room b e l (yes j) = yes (d - b, b, j, e, omega arith)
    room b e l (no ne) = no (λ (len, c, j, k, q). let z : c ≡ b = same k e in let y : len ≡ d - b = omega arith in ne (subst (Joined ds v w) y j))

    fits : (b : ℕ) → distance n ds w h ≡ Some b → Dec (b ≤ d) → Dec (Onward n ds v h d w)
    fits b e (yes l) = room b e l (joined? ds v w (d - b))
    fits b e (no ne) = no (λ (len, c, j, k, q). let z : c ≡ b = same k e in ne (omega arith))

    go : (o : Option ℕ) → distance n ds w h ≡ o → Dec (Onward n ds v h d w)
    go None e = no (λ (len, c, j, k, q). not_both e k)
    go (Some b) e = fits b e (dec_le b d)

module _ (n : ℕ) (ds : List Row) (order : List ℕ) (s : Lawful n ds) (o : Order n order) where
  pub hub? : (v r : ℕ) → v < n → r < n → ((d : ℕ) × Hub n ds order v r d) ⊎ ((d : ℕ) → Hub n ds order v r d → ⊥)
  hub? v r iv ir = go (distance n ds v (place order r)) refl
    where
      ih : place order r < n
      ih = place_in n order o r ir

      known : (d : ℕ) → distance n ds v (place order r) ≡ Some d → (q : ℕ) → Lowest n ds order v (place order r) d q → ((a : ℕ) × (b : ℕ) × Hub n ds order v q a × Hub n ds order (place order r) q b × (a + b ≡ d)) → Dec (q < r) → ((d : ℕ) × Hub n ds order v r d) ⊎ ((d : ℕ) → Hub n ds order v r d → ⊥)
      known d e q l k (yes lt) =
          let (a, b, p, g, z) = l.between in
          inr (λ c h. omega (arith, same h.reached e, h.less q a b lt p g, z))
      known d e q l k (no ge) = equal (dec_lt r q)
        where
          equal : Dec (r < q) → ((d : ℕ) × Hub n ds order v r d) ⊎ ((d : ℕ) → Hub n ds order v r d → ⊥)
          equal (yes lt) = absurd (l.none_lower r lt (d, 0, e, far_self n ds s (place order r) ih, omega arith))
          equal (no le) = let z : q ≡ r = omega arith in inl (k.0, subst (λ (w : ℕ). Hub n ds order v w k.0) z k.2)

      go : (x : Option ℕ) → distance n ds v (place order r) ≡ x → ((d : ℕ) × Hub n ds order v r d) ⊎ ((d : ℕ) → Hub n ds order v r d → ⊥)
      go None e = inr (λ d h. not_both e h.reached)
      go (Some d) e =
          let c = cover n ds order v (place order r) d s o iv ih e in
          known d e c.0.0 c.0.1 (c.1 c.0.0 c.0.1) (dec_lt c.0.0 r)

  -- the entry of a hub
  entry_for : (v r d : ℕ) → v < n → Hub n ds order v r d → (e : Entry) × (e.rank ≡ r) × ExactEntry n ds order v e
  entry_for v r d iv h = go (ℕ_discrete (place order r) v)
    where
      ih : place order r < n
      ih = place_in n order o r h.inside

      found : (place order r ≡ v → ⊥) → (((q : ℕ) → q < n → Onward n ds v (place order r) d q → ⊥) ⊎ Least (Onward n ds v (place order r) d) n) → (e : Entry) × (e.rank ≡ r) × ExactEntry n ds order v e
      found ne (inl none) =
          let k = far_first n ds s v (place order r) d iv ih (λ z. ne (sym z)) h.reached in
          absurd (none k.0 k.1 k.2)
      found ne (inr (w, iw, on, first)) =
          (record { rank = r; distance = d; neighbour = w }, refl, record { is_hub = h; own = λ z. absurd (ne z); onward = λ _. on; smallest = λ _ y k. no_less y k (dec_lt y w) })
        where
          no_less : (y : ℕ) → Onward n ds v (place order r) d y → Dec (y < w) → w ≤ y
          no_less y k (yes l) = absurd (first y l k)
          no_less y k (no l) = omega arith

      go : Dec (place order r ≡ v) → (e : Entry) × (e.rank ≡ r) × ExactEntry n ds order v e
      go (yes z) = (record { rank = r; distance = d; neighbour = v }, refl, record { is_hub = h; own = λ _. refl; onward = λ ne. absurd (ne z); smallest = λ ne. absurd (ne z) })
      go (no ne) = found ne (least (Onward n ds v (place order r) d) (onward? n ds v (place order r) d) n)

  rows : (v : ℕ) → v < n → (r : ℕ) → r ≤ n → (xs : List Entry) × RowBelow n ds order r v xs
  rows v iv zero l = ([], record { rising = tt; only = λ e i. absurd i; every = λ q d k h. absurd (omega arith) })
  rows v iv (suc r) l = go (rows v iv r (omega arith)) (hub? v r iv (omega arith))
    where
      go : ((xs : List Entry) × RowBelow n ds order r v xs) → ((d : ℕ) × Hub n ds order v r d) ⊎ ((d : ℕ) → Hub n ds order v r d → ⊥) → (xs : List Entry) × RowBelow n ds order (suc r) v xs
      go (xs, b) (inr none) = (xs, row_grows n ds order r v xs xs b (inl (none, refl)))
      go (xs, b) (inl (d, h)) =
          let (e, at, ex) = entry_for v r d iv h in
          (xs ++ (e ∷ []), row_grows n ds order r v xs (xs ++ (e ∷ [])) b (inr (e, at, ex, refl)))

  row_for : (v : ℕ) → Dec (v < n) → List Entry
  row_for v (yes i) = (rows v i n (omega arith)).0
  row_for v (no i) = []

  row_is : (v : ℕ) (d : Dec (v < n)) → v < n → RowBelow n ds order n v (row_for v d)
  unfolding row_for
  row_is v (yes i) iv = (rows v i n (omega arith)).1
  row_is v (no i) iv = absurd (i iv)

  table : Table
  table = record { order = order; row = λ v. row_for v (dec_lt v n) }

  exists : (t : Table) × (t.order ≡ order) × Exact n ds t
  unfolding table
  exists =
      let is : (v : ℕ) → v < n → RowBelow n ds order n v (table.row v) = λ v iv. row_is v (dec_lt v n) iv in
      (table, refl, below_ends n ds table o (record { rising = λ v iv. (is v iv).rising; only = λ v e iv i. (is v iv).only e i; every = λ v q d iv l h. (is v iv).every q d l h }))

pub exact_exists : ExactExists
exact_exists n ds order s o = exists n ds order s o

-- rising rows with the same entries are the same
rising_same : (xs ys : List Entry) → Rising xs → Rising ys → ((e : Entry) → In e xs → In e ys) → ((e : Entry) → In e ys → In e xs) → xs ≡ ys
rising_same [] [] p q to from = refl
rising_same [] (y ∷ ys) p q to from = absurd (from y (inl refl))
rising_same (x ∷ xs) [] p q to from = absurd (to x (inl refl))
rising_same (x ∷ xs) (y ∷ ys) p q to from =
    let rest : xs ≡ ys = rising_same xs ys p.1 q.1 (λ e i. there e i (to e (inr i))) (λ e i. back e i (from e (inr i))) in
    λ i. first i ∷ rest i
  where
    firsts : In x (y ∷ ys) → In y (x ∷ xs) → x ≡ y
    firsts (inl e) j = e
    firsts (inr i) (inl e) = sym e
    firsts (inr i) (inr j) = absurd (omega (arith, above_in y.rank x ys q.0 i, above_in x.rank y xs p.0 j))

    first : x ≡ y
    first = firsts (to x (inl refl)) (from y (inl refl))

    heads : x.rank ≡ y.rank
    heads = ap (λ (e : Entry). e.rank) first

    there : (e : Entry) → In e xs → In e (y ∷ ys) → In e ys
    there e i (inl z) = absurd (omega (arith, above_in x.rank e xs p.0 i, ap (λ (g : Entry). g.rank) z, heads))
    there e i (inr j) = j

    back : (e : Entry) → In e ys → In e (x ∷ xs) → In e xs
    back e i (inl z) = absurd (omega (arith, above_in y.rank e ys q.0 i, ap (λ (g : Entry). g.rank) z, heads))
    back e i (inr j) = j

-- a hub has one exact entry
entry_same : (n : ℕ) (ds : List Row) (order : List ℕ) (v : ℕ) (e g : Entry) → ExactEntry n ds order v e → ExactEntry n ds order v g → e.rank ≡ g.rank → e ≡ g
entry_same n ds order v e g x y h =
    let next : e.neighbour ≡ g.neighbour = nexts (ℕ_discrete (place order e.rank) v) in
    λ i. record { rank = h i; distance = dist i; neighbour = next i }
  where
    dist : e.distance ≡ g.distance
    dist = same x.is_hub.reached (subst (λ (r : ℕ). distance n ds v (place order r) ≡ Some g.distance) (sym h) y.is_hub.reached)

    other : place order e.rank ≡ place order g.rank
    other = ap (place order) h

    nexts : Dec (place order e.rank ≡ v) → e.neighbour ≡ g.neighbour
    nexts (yes z) = x.own z ∙ sym (y.own (sym other ∙ z))
    nexts (no ne) =
        let m : place order g.rank ≡ v → ⊥ = λ z. ne (other ∙ z) in
        let a : Onward n ds v (place order g.rank) g.distance e.neighbour = subst (λ (d : ℕ). Onward n ds v (place order g.rank) d e.neighbour) dist (subst (λ (p : ℕ). Onward n ds v p e.distance e.neighbour) other (x.onward ne)) in
        let b : Onward n ds v (place order e.rank) e.distance g.neighbour = subst (λ (d : ℕ). Onward n ds v (place order e.rank) d g.neighbour) (sym dist) (subst (λ (p : ℕ). Onward n ds v p g.distance g.neighbour) (sym other) (y.onward m)) in
        omega (arith, x.smallest ne g.neighbour b, y.smallest m e.neighbour a)

pub exact_once : ExactOnce
exact_once n ds t k v x y o iv = rising_same (t.row v) (k.row v) (x.rising v iv) (y.rising v iv) (across t k x y o) (across k t y x (sym o))
  where
    across : (t k : Table) → Exact n ds t → Exact n ds k → t.order ≡ k.order → (e : Entry) → In e (t.row v) → In e (k.row v)
    across t k x y o e i =
        let ex : ExactEntry n ds k.order v e = subst (λ (r : List ℕ). ExactEntry n ds r v e) o (x.only v e iv i) in
        let g = y.every v e.rank e.distance iv ex.is_hub in
        let z : g.0 ≡ e = entry_same n ds k.order v g.0 e (y.only v g.0 iv g.1) ex g.2 in
        subst (λ (w : Entry). In w (k.row v)) z g.1
