-- Rows that hold exactly the hubs make a right table, and right tables answer distances. Assumes nothing.
use Rattle.std.proofs.Common.{◌≡◌, ℕ, ◌<◌, ◌≤◌, List, Some, None, Option, refl, ap, ◌∙◌, subst, arith}
use Rattle.ways.specs.declared.row.Row.{Row}
use Rattle.ways.specs.Way.{Lawful}
use Rattle.ways.specs.Distance.{distance}
use Rattle.ways.proofs.Graph.{to_in}
use Rattle.ways.proofs.Metric.{same, not_both, far_sum, far_le, far_back, far_duct}
use Rattle.hubs.specs.Labels.{place, Hub, Entry, In, Shared, Onward, Table, RightEntry, Right, Exact}
use Rattle.hubs.specs.Merge.{Meeting, Merged, merge, sum_of}
use Rattle.hubs.specs.Theorems.{ExactRight, RightAnswers}
use Rattle.hubs.proofs.Hubs.{place_in, cover, closed}
use Rattle.hubs.proofs.Merging.{merge_finds}

-- a neighbour on the way to h is as far as its duct is long
pub onward_near : (n : ℕ) (ds : List Row) (v h d w : ℕ) → Lawful n ds → v < n → h < n → distance n ds v h ≡ Some d → (o : Onward n ds v h d w) → (w < n) × (distance n ds v w ≡ Some o.0)
onward_near n ds v h d w s iv ih e (len, b, j, p, q) =
    let iw : w < n = to_in n ds v w len s j in
    let t = far_duct n ds s v w len iv j in
    let l = far_le n ds s v w h t.0 b d iv iw ih t.1 p e in
    let z : t.0 ≡ len = omega (arith, t.2) in
    (iw, t.1 ∙ ap Some z)

module _ (n : ℕ) (ds : List Row) (t : Table) (s : Lawful n ds) (x : Exact n ds t) where
  -- the row's entry for a hub has the hub's distance
  pub exact_entry : (v r d : ℕ) → v < n → Hub n ds t.order v r d → (e : Entry) × In e (t.row v) × (e.rank ≡ r) × (e.distance ≡ d)
  exact_entry v r d iv h =
      let k = x.every v r d iv h in
      let far : distance n ds v (place t.order r) ≡ Some k.0.distance = subst (λ (q : ℕ). distance n ds v (place t.order q) ≡ Some k.0.distance) k.2 (x.only v k.0 iv k.1).is_hub.reached in
      (k.0, k.1, k.2, same far h.reached)

  right_entry : (v : ℕ) (e : Entry) → v < n → In e (t.row v) → RightEntry n ds t v e
  right_entry v e iv i =
      let k = x.only v e iv i in
      let h : ℕ = place t.order e.rank in
      let ih : h < n = place_in n t.order x.ordered e.rank k.is_hub.inside in
      record {
        rank_in = k.is_hub.inside;
        true_distance = k.is_hub.reached;
        own = k.own;
        onward = λ ne.
            let o = k.onward ne in
            let near = onward_near n ds v h e.distance e.neighbour s iv ih k.is_hub.reached o in
            (o, x.every e.neighbour e.rank o.1 near.0 (closed n ds t.order v e.neighbour e.rank e.distance o.0 o.1 s x.ordered iv near.0 k.is_hub near.1 o.3 o.4));
      }

  covered : (u v d : ℕ) → u < n → v < n → distance n ds u v ≡ Some d → (r : ℕ) × Shared (t.row u) (t.row v) r d
  covered u v d iu iv far =
      let c = cover n ds t.order u v d s x.ordered iu iv far in
      let r : ℕ = c.0.0 in
      let k = c.1 r c.0.1 in
      let p = exact_entry u r k.0 iu k.2 in
      let q = exact_entry v r k.1 iv k.3 in
      (r, record { first = p.0; second = q.0; first_in = p.1; second_in = q.1; first_rank = p.2; second_rank = q.2; sum = omega (arith, p.3, q.3, k.4) })

pub exact_right : ExactRight
exact_right n ds t s x = record { ordered = x.ordered; rising = x.rising; entries = right_entry n ds t s x; cover = covered n ds t s x }

-- what two rows share is the length of a way
pub shared_sum : (n : ℕ) (ds : List Row) (t : Table) (u v r d : ℕ) → Lawful n ds → Right n ds t → u < n → v < n → Shared (t.row u) (t.row v) r d → (c : ℕ) × (distance n ds u v ≡ Some c) × (c ≤ d)
shared_sum n ds t u v r d s k iu iv h =
    let p = k.entries u h.first iu h.first_in in
    let q = k.entries v h.second iv h.second_in in
    let o = t.order in
    let ir : r < n = subst (λ (x : ℕ). x < n) h.first_rank p.rank_in in
    let ih : place o r < n = place_in n o k.ordered r ir in
    let fp : distance n ds u (place o r) ≡ Some h.first.distance = subst (λ (x : ℕ). distance n ds u (place o x) ≡ Some h.first.distance) h.first_rank p.true_distance in
    let fq : distance n ds v (place o r) ≡ Some h.second.distance = subst (λ (x : ℕ). distance n ds v (place o x) ≡ Some h.second.distance) h.second_rank q.true_distance in
    let z = far_sum n ds s u (place o r) v h.first.distance h.second.distance iu ih iv fp (far_back n ds s v (place o r) h.second.distance iv ih fq) in
    (z.0, z.1, omega (arith, z.2, h.sum))

-- any right answer of a merge is the distance
pub merged_far : (n : ℕ) (ds : List Row) (t : Table) (u v : ℕ) (o : Option Meeting) → Lawful n ds → Right n ds t → u < n → v < n → Merged (t.row u) (t.row v) o → distance n ds u v ≡ sum_of o
merged_far n ds t u v o s k iu iv m = go o (distance n ds u v) refl m
  where
    go : (o : Option Meeting) (d : Option ℕ) → distance n ds u v ≡ d → Merged (t.row u) (t.row v) o → d ≡ sum_of o
    go None None e m = refl
    go None (Some d) e m = let c = k.cover u v d iu iv e in absurd (m c.0 d c.1)
    go (Some a) None e m = absurd (not_both e (shared_sum n ds t u v a.rank a.sum s k iu iv m.0).1)
    go (Some a) (Some d) e m =
        let p = shared_sum n ds t u v a.rank a.sum s k iu iv m.0 in
        let c = k.cover u v d iu iv e in
        let l = m.1 c.0 d c.1 in
        let z : p.0 ≡ d = same p.1 e in
        let y : d ≡ a.sum = omega (arith, p.2, l.0) in
        ap Some y

pub right_answers : RightAnswers
right_answers n ds t u v s k iu iv =
    merged_far n ds t u v (merge (t.row u) (t.row v)) s k iu iv (merge_finds (t.row u) (t.row v) (k.rising u iu) (k.rising v iv))
