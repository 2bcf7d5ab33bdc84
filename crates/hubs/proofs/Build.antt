-- How exact rows are built, rank by rank. Assumes nothing.
use Rattle.std.proofs.Common.{◌≡◌, ℕ, suc, ◌+◌, ◌<◌, ◌≤◌, ◌⊎◌, List, [], ◌∷◌, ◌++◌, Some, sym, refl, ap, ◌∙◌, subst, inl, inr, arith}
use native.Mathlib.Decide.{ℕ_discrete}
use Rattle.ways.specs.declared.row.Row.{Row}
use Rattle.ways.specs.Places.{Order}
use Rattle.ways.specs.Way.{Hop, Joined, Leads, total, Lawful}
use Rattle.ways.specs.Distance.{distance}
use Rattle.ways.proofs.Graph.{to_in}
use Rattle.ways.proofs.Metric.{same, far_way, far_via}
use Rattle.hubs.specs.Labels.{place, Hub, Entry, In, Has, Above, Rising, Onward, Table, ExactEntry, Exact, ExactBelow}
use Rattle.hubs.proofs.Hubs.{place_in, closed}
use Rattle.hubs.proofs.Tables.{onward_near}

-- v's row with the hub of rank r behind it, if it is one
abbrev pub Grown : ℕ → List Row → List ℕ → ℕ → ℕ → List Entry → List Entry → Type 0
Grown n ds order r v old new = (((d : ℕ) → Hub n ds order v r d → ⊥) × (new ≡ old)) ⊎ ((e : Entry) × (e.rank ≡ r) × ExactEntry n ds order v e × (new ≡ old ++ (e ∷ [])))

-- each place on a way from v has the hub of rank r, at the length of what is left of the way
abbrev pub AllHubs : ℕ → List Row → List ℕ → ℕ → ℕ → List Hop → Type 0
AllHubs n ds order r v [] = Hub n ds order v r 0
AllHubs n ds order r v (h ∷ hs) = Hub n ds order v r (total (h ∷ hs)) × AllHubs n ds order r h.to hs

-- empty rows hold the hubs of no rank
pub below_starts : (n : ℕ) (ds : List Row) (order : List ℕ) (row : ℕ → List Entry) → ((v : ℕ) → v < n → row v ≡ []) → ExactBelow n ds order row 0
below_starts n ds order row none = record {
  rising = λ v iv. subst Rising (sym (none v iv)) tt;
  only = λ v e iv i. absurd (subst (In e) (none v iv) i);
  every = λ v q d iv l h. absurd (omega arith);
}

-- one more entry behind a row

pub above_push : (r : ℕ) (e : Entry) (xs : List Entry) → Above r xs → r < e.rank → Above r (xs ++ (e ∷ []))
above_push r e [] a l = (l, tt)
above_push r e (x ∷ xs) a l = (a.0, above_push r e xs a.1 l)

pub in_push : (g e : Entry) (xs : List Entry) → In g xs → In g (xs ++ (e ∷ []))
in_push g e [] i = absurd i
in_push g e (x ∷ xs) (inl q) = inl q
in_push g e (x ∷ xs) (inr i) = inr (in_push g e xs i)

pub in_last : (e : Entry) (xs : List Entry) → In e (xs ++ (e ∷ []))
in_last e [] = inl refl
in_last e (x ∷ xs) = inr (in_last e xs)

pub in_split : (g e : Entry) (xs : List Entry) → In g (xs ++ (e ∷ [])) → In g xs ⊎ (g ≡ e)
in_split g e [] (inl q) = inr q
in_split g e [] (inr i) = absurd i
in_split g e (x ∷ xs) (inl q) = inl (inl q)
in_split g e (x ∷ xs) (inr i) = go (in_split g e xs i)
  where
    go : In g xs ⊎ (g ≡ e) → In g (x ∷ xs) ⊎ (g ≡ e)
    go (inl k) = inl (inr k)
    go (inr k) = inr k

pub rising_push : (e : Entry) (xs : List Entry) → Rising xs → ((g : Entry) → In g xs → g.rank < e.rank) → Rising (xs ++ (e ∷ []))
rising_push e [] p l = (tt, tt)
rising_push e (x ∷ xs) p l = (above_push x.rank e xs p.0 (l x (inl refl)), rising_push e xs p.1 (λ g i. l g (inr i)))

-- what ExactBelow says of one place's row
pub record RowBelow (n : ℕ) (ds : List Row) (order : List ℕ) (r v : ℕ) (xs : List Entry) : Type 0 where
  pub rising : Rising xs
  pub only : (e : Entry) → In e xs → (e.rank < r) × ExactEntry n ds order v e
  pub every : (q d : ℕ) → q < r → Hub n ds order v q d → Has xs q

pub row_grows : (n : ℕ) (ds : List Row) (order : List ℕ) (r v : ℕ) (old new : List Entry) → RowBelow n ds order r v old → Grown n ds order r v old new → RowBelow n ds order (suc r) v new
row_grows n ds order r v old new b (inl (none, e)) =
    subst (RowBelow n ds order (suc r) v) (sym e)
    (record { rising = b.rising; only = λ g i. let k = b.only g i in (omega (arith, k.0), k.1); every = λ q d l h. go q d l h (ℕ_discrete q r) })
  where
    go : (q d : ℕ) → q < suc r → Hub n ds order v q d → Dec (q ≡ r) → Has old q
    go q d l h (yes z) = absurd (none d (subst (λ (y : ℕ). Hub n ds order v y d) z h))
    go q d l h (no ne) = b.every q d (omega arith) h
row_grows n ds order r v old new b (inr (e, at, ex, z)) =
    subst (RowBelow n ds order (suc r) v) (sym z)
    (record { rising = rising_push e old b.rising (λ g i. omega (arith, (b.only g i).0)); only = λ g i. which g (in_split g e old i); every = λ q d l h. go q d l h (ℕ_discrete q r) })
  where
    which : (g : Entry) → In g old ⊎ (g ≡ e) → (g.rank < suc r) × ExactEntry n ds order v g
    which g (inl i) = let k = b.only g i in (omega (arith, k.0), k.1)
    which g (inr q) = subst (λ (y : Entry). (y.rank < suc r) × ExactEntry n ds order v y) (sym q) (omega arith, ex)

    go : (q d : ℕ) → q < suc r → Hub n ds order v q d → Dec (q ≡ r) → Has (old ++ (e ∷ [])) q
    go q d l h (yes y) = (e, in_last e old, at ∙ sym y)
    go q d l h (no ne) = let k = b.every q d (omega arith) h in (k.0, in_push k.0 e old k.1, k.2)

-- with the hubs of one rank more
pub below_grows : (n : ℕ) (ds : List Row) (order : List ℕ) (row new : ℕ → List Entry) (r : ℕ) → ExactBelow n ds order row r → ((v : ℕ) → v < n → Grown n ds order r v (row v) (new v)) → ExactBelow n ds order new (1 + r)
below_grows n ds order row new r b g = subst (ExactBelow n ds order new) (omega arith) all
  where
    each : (v : ℕ) → v < n → RowBelow n ds order (suc r) v (new v)
    each v iv = row_grows n ds order r v (row v) (new v) (record { rising = b.rising v iv; only = λ e i. b.only v e iv i; every = λ q d l h. b.every v q d iv l h }) (g v iv)

    all : ExactBelow n ds order new (suc r)
    all = record { rising = λ v iv. (each v iv).rising; only = λ v e iv i. (each v iv).only e i; every = λ v q d iv l h. (each v iv).every q d l h }

-- with the hubs of every rank the rows are exact
pub below_ends : (n : ℕ) (ds : List Row) (t : Table) → Order n t.order → ExactBelow n ds t.order t.row n → Exact n ds t
below_ends n ds t o b = record { ordered = o; rising = b.rising; only = λ v e iv i. (b.only v e iv i).1; every = λ v r d iv h. b.every v r d iv h.inside h }

-- a neighbour of v towards a hub has that hub
pub onward_hub : (n : ℕ) (ds : List Row) (order : List ℕ) (v r d w : ℕ) → Lawful n ds → Order n order → v < n → Hub n ds order v r d → Onward n ds v (place order r) d w → (len : ℕ) × (b : ℕ) × Joined ds v w len × Hub n ds order w r b × (len + b ≡ d)
onward_hub n ds order v r d w s o iv h k =
    let ih : place order r < n = place_in n order o r h.inside in
    let near = onward_near n ds v (place order r) d w s iv ih h.reached k in
    (k.0, k.1, k.2, closed n ds order v w r d k.0 k.1 s o iv near.0 h near.1 k.3 k.4, k.4)

-- on a shortest way from v to a hub of v, each place has that hub
pub hub_way : (n : ℕ) (ds : List Row) (order : List ℕ) (v r : ℕ) (hs : List Hop) → Lawful n ds → Order n order → v < n → Hub n ds order v r (total hs) → Leads ds v hs (place order r) → AllHubs n ds order r v hs
hub_way n ds order v r [] s o iv h l = h
hub_way n ds order v r (x ∷ hs) s o iv h l =
    let iw : x.to < n = to_in n ds v x.to x.length s l.0 in
    let ih : place order r < n = place_in n order o r h.inside in
    let b = far_way n ds s x.to (place order r) hs iw ih l.1 in
    let le : x.length + total hs ≤ x.length + b.0 = far_via n ds s v x.to (place order r) x.length b.0 (x.length + total hs) iv ih l.0 b.1 h.reached in
    let z : b.0 ≡ total hs = omega (arith, b.2) in
    let far : distance n ds x.to (place order r) ≡ Some (total hs) = b.1 ∙ ap Some z in
    let k = onward_hub n ds order v r (x.length + total hs) x.to s o iv h (x.length, total hs, l.0, far, refl) in
    let hub : Hub n ds order x.to r (total hs) = subst (Hub n ds order x.to r) (same k.3.reached far) k.3 in
    (h, hub_way n ds order x.to r hs s o iw hub l.1)
