-- The pruned search finds the hubs of its rank. Assumes nothing.
use Rattle.std.proofs.Common.{◌≡◌, ℕ, zero, suc, ◌+◌, ◌<◌, ◌≤◌, List, [], ◌∷◌, length, get_or, Some, None, Option, sym, refl, ap, ◌∙◌, subst, inl, inr, arith}
use Rattle.ways.specs.declared.row.Row.{Row}
use Rattle.ways.specs.Places.{Off, Apart, Order}
use Rattle.ways.specs.Way.{Hop, Leads, total, Lawful}
use Rattle.ways.specs.Distance.{distance}
use Rattle.ways.proofs.Graph.{turn, to_in}
use Rattle.ways.proofs.Metric.{same, not_both, far_self, far_zero, way_of}
use Rattle.hubs.specs.Labels.{place, Hub, Entry, ExactEntry, ExactBelow}
use Rattle.hubs.specs.Merge.{Less}
use Rattle.hubs.specs.Search.{said, Tried, Searched, BackFirst, Written}
use Rattle.hubs.specs.Theorems.{SearchFinds}
use Rattle.hubs.proofs.Hubs.{place_in}
use Rattle.hubs.proofs.Build.{Grown, AllHubs, hub_way, onward_hub, below_grows}
use Rattle.hubs.proofs.Prune.{pruned}

off_at : (x : ℕ) (xs : List ℕ) (r : ℕ) → Off x xs → r < length xs → x ≡ get_or xs r 0 → ⊥
off_at x [] r o l e = omega arith
off_at x (y ∷ ys) zero o l e = o.0 e
off_at x (y ∷ ys) (suc r) o l e = off_at x ys r o.1 (omega arith) e

at_once : (xs : List ℕ) (q r : ℕ) → Apart xs → r < length xs → q < r → get_or xs q 0 ≡ get_or xs r 0 → ⊥
at_once [] q r a l lt e = omega arith
at_once (x ∷ xs) q zero a l lt e = omega arith
at_once (x ∷ xs) zero (suc r) a l lt e = off_at x xs r a.0 (omega arith) e
at_once (x ∷ xs) (suc q) (suc r) a l lt e = at_once xs q r a.1 (omega arith) (omega arith) e

-- a place is a hub of itself
pub own_hub : (n : ℕ) (ds : List Row) (order : List ℕ) (v r : ℕ) → Lawful n ds → Order n order → v < n → r < n → place order r ≡ v → Hub n ds order v r 0
own_hub n ds order v r s o iv ir e = record {
  inside = ir;
  reached = subst (λ (x : ℕ). distance n ds v x ≡ Some 0) (sym e) (far_self n ds s v iv);
  less = less;
}
  where
    less : (q a b : ℕ) → q < r → distance n ds v (place order q) ≡ Some a → distance n ds (place order q) (place order r) ≡ Some b → 0 < a + b
    less q zero b lt p k =
        absurd (at_once order q r o.apart (omega (arith, o.count)) lt (sym (far_zero n ds s v (place order q) iv (place_in n order o q (omega arith)) p) ∙ sym e))
    less q (suc a) b lt p k = omega arith

module _ (n : ℕ) (ds : List Row) (order : List ℕ) (row : ℕ → List Entry) (r : ℕ) (got : ℕ → Option ℕ) (s : Lawful n ds) (o : Order n order) (x : ExactBelow n ds order row r) (ir : r < n) (k : Searched n ds order row r got) where
  ih : place order r < n
  ih = place_in n order o r ir

  -- a hub that was tried at its distance was come to
  settled : (v c : ℕ) → v < n → Hub n ds order v r c → Tried order row r got v c → got v ≡ Some c
  settled v c iv h (inl (d, e, l)) =
      let low = k.no_less v d iv e in
      let z : low.0 ≡ c = same low.1 h.reached in
      let y : d ≡ c = omega (arith, low.2) in
      e ∙ ap Some y
  settled v c iv h (inr no_more) = absurd (no_more ((pruned n ds order row r v c s o x ir iv h.reached).0 h))

  came : (v : ℕ) (hs : List Hop) → v < n → AllHubs n ds order r v hs → Leads ds v hs (place order r) → got v ≡ Some (total hs)
  came v [] iv a l = settled v 0 iv a (subst (λ (y : ℕ). Tried order row r got y 0) (sym l) k.start)
  came v (y ∷ hs) iv a l =
      let iw : y.to < n = to_in n ds v y.to y.length s l.0 in
      settled v (y.length + total hs) iv a.0 (k.goes_on v y.to y.length (total hs) iv iw (came y.to hs iw a.1 l.1) (turn ds v y.to y.length l.0))

  finds : (v d : ℕ) → v < n → Hub n ds order v r d → got v ≡ Some d
  finds v d iv h =
      let w = way_of n ds s v (place order r) d iv ih h.reached in
      let hub : Hub n ds order v r (total w.0) = subst (Hub n ds order v r) (sym w.2) h in
      came v w.0 iv (hub_way n ds order v r w.0 s o iv hub w.1) w.1 ∙ ap Some w.2

  less_down : (c d : ℕ) (p : Option ℕ) → c ≤ d → Less d p → Less c p
  less_down c d None l h = tt
  less_down c d (Some z) l h = omega arith

  only : (v d : ℕ) → v < n → got v ≡ Some d → Hub n ds order v r d
  only v d iv e =
      let low = k.no_less v d iv e in
      let h : Hub n ds order v r low.0 = (pruned n ds order row r v low.0 s o x ir iv low.1).1 (less_down low.0 d (said order row r v) low.2 (k.passed v d iv e)) in
      subst (Hub n ds order v r) (same (finds v low.0 iv h) e) h

  entry : (v d w : ℕ) → v < n → got v ≡ Some d → BackFirst ds order r got v d w → ExactEntry n ds order v (record { rank = r; distance = d; neighbour = w })
  entry v d w iv e first = record {
    is_hub = only v d iv e;
    own = first.own;
    onward = λ ne.
        let (len, c, j, g, q) = first.back ne in
        (len, c, j, (only w c (to_in n ds v w len s j) g).reached, q);
    smallest = λ ne y on.
        let (len, c, j, h, q) = onward_hub n ds order v r d y s o iv (only v d iv e) on in
        first.first ne y (len, c, j, finds y c (to_in n ds v y len s j) h, q);
  }

  grown : (new : ℕ → List Entry) (v : ℕ) → v < n → Written ds order r got v (got v) (row v) (new v) → Grown n ds order r v (row v) (new v)
  grown new v iv = go (got v) refl
    where
      go : (p : Option ℕ) → got v ≡ p → Written ds order r got v p (row v) (new v) → Grown n ds order r v (row v) (new v)
      go None e z = inl (λ d h. not_both e (finds v d iv h), z)
      go (Some d) e (w, first, z) = inr (record { rank = r; distance = d; neighbour = w }, refl, entry v d w iv e first, z)

pub search_finds : SearchFinds
search_finds n ds order row r got v d s o x ir k iv = (only n ds order row r got s o x ir k v d iv, finds n ds order row r got s o x ir k v d iv)

-- the rows with what a pruned search found hold the hubs of one rank more
pub search_grows : (n : ℕ) (ds : List Row) (order : List ℕ) (row new : ℕ → List Entry) (r : ℕ) (got : ℕ → Option ℕ) → Lawful n ds → Order n order → ExactBelow n ds order row r → r < n → Searched n ds order row r got → ((v : ℕ) → v < n → Written ds order r got v (got v) (row v) (new v)) → ExactBelow n ds order new (1 + r)
search_grows n ds order row new r got s o x ir k b = below_grows n ds order row new r x (λ v iv. grown n ds order row r got s o x ir k new v iv (b v iv))
