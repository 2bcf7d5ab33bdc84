-- The pruning step. Assumes nothing.
use Rattle.std.proofs.Common.{◌≡◌, ℕ, ◌+◌, ◌<◌, ◌⊎◌, List, Some, None, Option, ap, subst, inl, inr, arith}
use native.Mathlib.Decide.{dec_lt}
use Rattle.ways.specs.declared.row.Row.{Row}
use Rattle.ways.specs.Places.{Order}
use Rattle.ways.specs.Way.{Lawful}
use Rattle.ways.specs.Distance.{distance}
use Rattle.ways.proofs.Metric.{same, far_self, far_le, far_back}
use Rattle.hubs.specs.Labels.{place, Hub, Lowest, Entry, In, Shared, ExactBelow}
use Rattle.hubs.specs.Merge.{Meeting, Merged, merge, sum_of, Less}
use Rattle.hubs.proofs.Hubs.{place_in, cover}
use Rattle.hubs.proofs.Merging.{merge_finds}

module _ (n : ℕ) (ds : List Row) (order : List ℕ) (row : ℕ → List Entry) (r v d : ℕ) (s : Lawful n ds) (o : Order n order) (x : ExactBelow n ds order row r) (ir : r < n) (iv : v < n) (far : distance n ds v (place order r) ≡ Some d) where
  abbrev h : ℕ
  h = place order r

  ih : place order r < n
  ih = place_in n order o r ir

  -- what the rows share, they share at a lower rank
  pub record Low (q a b : ℕ) : Type 0 where
    pub lower : q < r
    pub first : distance n ds v (place order q) ≡ Some a
    pub second : distance n ds (place order q) (place order r) ≡ Some b

  low : (q c : ℕ) → (e : Shared (row v) (row (place order r)) q c) → Low q e.first.distance e.second.distance
  low q c e =
      let p = x.only v e.first iv e.first_in in
      let k = x.only h e.second ih e.second_in in
      let lt : q < r = omega (arith, p.0, e.first_rank) in
      let g : distance n ds h (place order q) ≡ Some e.second.distance = subst (λ (y : ℕ). distance n ds h (place order y) ≡ Some e.second.distance) e.second_rank k.1.is_hub.reached in
      record {
        lower = lt;
        first = subst (λ (y : ℕ). distance n ds v (place order y) ≡ Some e.first.distance) e.first_rank p.1.is_hub.reached;
        second = far_back n ds s h (place order q) e.second.distance ih (place_in n order o q (omega arith)) g;
      }

  -- a hub is nearer than all that the rows share
  hub_less : Hub n ds order v r d → (m : Option Meeting) → Merged (row v) (row (place order r)) m → Less d (sum_of m)
  hub_less k None m = tt
  hub_less k (Some y) m =
      let e = m.0 in
      let l = low y.rank y.sum e in
      omega (arith, e.sum, k.less y.rank e.first.distance e.second.distance l.lower l.first l.second)

  entry : (u q a : ℕ) → u < n → q < r → Hub n ds order u q a → (e : Entry) × In e (row u) × (e.rank ≡ q) × (e.distance ≡ a)
  entry u q a iu lt k =
      let e = x.every u q a iu lt k in
      let g : distance n ds u (place order q) ≡ Some e.0.distance = subst (λ (y : ℕ). distance n ds u (place order y) ≡ Some e.0.distance) e.2 (x.only u e.0 iu e.1).1.is_hub.reached in
      (e.0, e.1, e.2, same g k.reached)

  -- either it is a hub, or the rows share a hub on the shortest way to it
  either : Hub n ds order v r d ⊎ ((q : ℕ) × Shared (row v) (row (place order r)) q d)
  either =
      let c = cover n ds order v h d s o iv ih far in
      let q : ℕ = c.0.0 in
      go q c.0.1 (c.1 q c.0.1) (dec_lt q r)
    where
      go : (q : ℕ) → Lowest n ds order v (place order r) d q → ((a : ℕ) × (b : ℕ) × Hub n ds order v q a × Hub n ds order (place order r) q b × (a + b ≡ d)) → Dec (q < r) → Hub n ds order v r d ⊎ ((q : ℕ) × Shared (row v) (row (place order r)) q d)
      go q l (a, b, p, k, e) (yes lt) =
          let i = entry v q a iv lt p in
          let j = entry (place order r) q b ih lt k in
          inr (q, record { first = i.0; second = j.0; first_in = i.1; second_in = j.1; first_rank = i.2; second_rank = j.2; sum = omega (arith, i.3, j.3) })
      go q l (a, b, p, k, e) (no ge) = equal (dec_lt r q)
        where
          equal : Dec (r < q) → Hub n ds order v r d ⊎ ((q : ℕ) × Shared (row v) (row (place order r)) q d)
          equal (yes lt) = absurd (l.none_lower r lt (d, 0, far, far_self n ds s (place order r) ih, omega arith))
          equal (no le) =
              let z : q ≡ r = omega arith in
              let y : Hub n ds order v r a = subst (λ (w : ℕ). Hub n ds order v w a) z p in
              inl (subst (λ (w : ℕ). Hub n ds order v r w) (same y.reached far) y)

  less_hub : (m : Option Meeting) → Merged (row v) (row (place order r)) m → Less d (sum_of m) → Hub n ds order v r d
  less_hub m k l = go m k l either
    where
      go : (m : Option Meeting) → Merged (row v) (row (place order r)) m → Less d (sum_of m) → Hub n ds order v r d ⊎ ((q : ℕ) × Shared (row v) (row (place order r)) q d) → Hub n ds order v r d
      go m k l (inl y) = y
      go None k l (inr (q, e)) = absurd (k q d e)
      go (Some y) k l (inr (q, e)) = absurd (omega (arith, (k.1 q d e).0))

  not_hub : (m : Option Meeting) → Merged (row v) (row (place order r)) m → (Hub n ds order v r d → ⊥) → sum_of m ≡ Some d
  not_hub m k ne = go m k either
    where
      go : (m : Option Meeting) → Merged (row v) (row (place order r)) m → Hub n ds order v r d ⊎ ((q : ℕ) × Shared (row v) (row (place order r)) q d) → sum_of m ≡ Some d
      go m k (inl y) = absurd (ne y)
      go None k (inr (q, e)) = absurd (k q d e)
      go (Some y) k (inr (q, e)) =
          let w = k.0 in
          let l = low y.rank y.sum w in
          let t = far_le n ds s v (place order y.rank) (place order r) w.first.distance w.second.distance d iv (place_in n order o y.rank (omega (arith, l.lower))) ih l.first l.second far in
          let z : y.sum ≡ d = omega (arith, w.sum, (k.1 q d e).0) in
          ap Some z

-- given the hubs of rank below r, the next rank is a hub of v exactly if it is nearer than the rows so far say
abbrev Pruned : Type 0
Pruned = (n : ℕ) (ds : List Row) (order : List ℕ) (row : ℕ → List Entry) (r v d : ℕ) → Lawful n ds → Order n order → ExactBelow n ds order row r → r < n → v < n → distance n ds v (place order r) ≡ Some d → let said : Option ℕ = sum_of (merge (row v) (row (place order r))) in (Hub n ds order v r d → Less d said) × (Less d said → Hub n ds order v r d) × ((Hub n ds order v r d → ⊥) → said ≡ Some d)

pub pruned : Pruned
pruned n ds order row r v d s o x ir iv far =
    let m : Merged (row v) (row (place order r)) (merge (row v) (row (place order r))) = merge_finds (row v) (row (place order r)) (x.rising v iv) (x.rising (place order r) (ih n ds order row r v d s o x ir iv far)) in
    let g : Option Meeting = merge (row v) (row (place order r)) in
    (λ k. hub_less n ds order row r v d s o x ir iv far k g m, λ l. less_hub n ds order row r v d s o x ir iv far g m l, λ k. not_hub n ds order row r v d s o x ir iv far g m k)
