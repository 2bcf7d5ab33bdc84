-- The way rule by labels. Assumes nothing.
use Rattle.std.proofs.Common.{◌≡◌, ℕ, zero, suc, ◌+◌, ◌-◌, ◌<◌, ◌≤◌, Bool, true, false, eqb, List, [], ◌∷◌, Some, None, Option, sym, refl, ap, ◌∙◌, subst, inl, inr, arith, eq-eqb, ne_eqb, eqb-true}
use borrow.Author.Tests.{eqb-false}
use Rattle.ways.specs.declared.row.Row.{Row}
use Rattle.ways.specs.Options.{pick}
use Rattle.ways.specs.Way.{Joined, Lawful}
use Rattle.ways.specs.Distance.{distance}
use Rattle.ways.proofs.Graph.{turn, to_in, some_length}
use Rattle.ways.proofs.Metric.{same, not_both, far_self, far_sum, far_le, far_back}
use Rattle.hubs.specs.Labels.{place, Entry, In, Rising, Table, Right}
use Rattle.hubs.specs.Merge.{Meeting, Merged, merge, sum_of}
use Rattle.hubs.specs.Rule.{neighbour_at, distance_at, last_before, hop_over, hop_by, Towards}
use Rattle.hubs.specs.Theorems.{RightRule}
use Rattle.hubs.proofs.Hubs.{place_in}
use Rattle.hubs.proofs.Merging.{above_in, one_entry, merge_finds}
use Rattle.hubs.proofs.Tables.{onward_near, merged_far, right_answers}

next_is : (e : Entry) (xs : List Entry) → Rising xs → In e xs → neighbour_at e.rank xs ≡ e.neighbour
next_is e [] p i = absurd i
next_is e (x ∷ xs) p (inl q) = rw (eq-eqb x.rank e.rank (ap (λ (y : Entry). y.rank) (sym q))) (ap (λ (y : Entry). y.neighbour) (sym q))
next_is e (x ∷ xs) p (inr i) =
    let lt : x.rank < e.rank = above_in x.rank e xs p.0 i in
    rw (ne_eqb x.rank e.rank (λ z. omega arith)) (next_is e xs p.1 i)

dist_is : (e : Entry) (xs : List Entry) → Rising xs → In e xs → distance_at e.rank xs ≡ e.distance
dist_is e [] p i = absurd i
dist_is e (x ∷ xs) p (inl q) = rw (eq-eqb x.rank e.rank (ap (λ (y : Entry). y.rank) (sym q))) (ap (λ (y : Entry). y.distance) (sym q))
dist_is e (x ∷ xs) p (inr i) =
    let lt : x.rank < e.rank = above_in x.rank e xs p.0 i in
    rw (ne_eqb x.rank e.rank (λ z. omega arith)) (dist_is e xs p.1 i)

module _ (n : ℕ) (ds : List Row) (t : Table) (s : Lawful n ds) (k : Right n ds t) where
  -- v's entry for the hub of rank r
  pub record At (r v : ℕ) (e : Entry) : Type 0 where
    pub inside : v < n
    pub entry_in : In e (t.row v)
    pub at_rank : e.rank ≡ r

  hub_in : (r v : ℕ) (e : Entry) → At r v e → place t.order r < n
  hub_in r v e a = place_in n t.order k.ordered r (subst (λ (x : ℕ). x < n) a.at_rank (k.entries v e a.inside a.entry_in).rank_in)

  hub_far : (r v : ℕ) (e : Entry) → At r v e → distance n ds v (place t.order r) ≡ Some e.distance
  hub_far r v e a = subst (λ (x : ℕ). distance n ds v (place t.order x) ≡ Some e.distance) a.at_rank (k.entries v e a.inside a.entry_in).true_distance

  -- one step of the chain
  pub record Step (r v : ℕ) (e g : Entry) : Type 0 where
    pub length : ℕ
    pub joined : Joined ds v e.neighbour length
    pub at_next : At r e.neighbour g
    pub near : distance n ds v e.neighbour ≡ Some length
    pub falls : length + g.distance ≡ e.distance

  step : (r v : ℕ) (e : Entry) → At r v e → (place t.order r ≡ v → ⊥) → (g : Entry) × Step r v e g
  step r v e a ne =
      let h : ℕ = place t.order e.rank in
      let re = k.entries v e a.inside a.entry_in in
      let ih : h < n = place_in n t.order k.ordered e.rank re.rank_in in
      let q = re.onward (λ z. ne (ap (place t.order) (sym a.at_rank) ∙ z)) in
      let o = q.0 in
      let near = onward_near n ds v h e.distance e.neighbour s a.inside ih re.true_distance o in
      let g : Entry = q.1.0 in
      let at : At r e.neighbour g = record { inside = near.0; entry_in = q.1.1; at_rank = q.1.2 ∙ a.at_rank } in
      let gf : distance n ds e.neighbour h ≡ Some g.distance = subst (λ (x : ℕ). distance n ds e.neighbour (place t.order x) ≡ Some g.distance) (sym a.at_rank) (hub_far r e.neighbour g at) in
      let same-b : g.distance ≡ o.1 = same gf o.3 in
      (g, record { length = o.0; joined = o.2; at_next = at; near = near.1; falls = omega (arith, o.4) })

  outward : (u v : ℕ) (m : Meeting) (e g : Entry) → u < n → v < n → Merged (t.row u) (t.row v) (Some m) → (place t.order m.rank ≡ u → ⊥) → In e (t.row u) → e.rank ≡ m.rank → In g (t.row e.neighbour) → g.rank ≡ m.rank → Towards n ds u v m.sum (record { to = e.neighbour; length = e.distance - g.distance })
  outward u v m e g iu iv mm ne ie he ig hg =
      let r : ℕ = m.rank in
      let at : At r u e = record { inside = iu; entry_in = ie; at_rank = he } in
      let st = step r u e at ne in
      let sg : Step r u e st.0 = st.1 in
      let iw : e.neighbour < n = sg.at_next.inside in
      let eg : st.0 ≡ g = one_entry st.0 g (t.row e.neighbour) (k.rising e.neighbour iw) sg.at_next.entry_in ig (sg.at_next.at_rank ∙ sym hg) in
      let dg : st.0.distance ≡ g.distance = ap (λ (y : Entry). y.distance) eg in
      let sh = mm.0 in
      let eo : sh.first ≡ e = one_entry sh.first e (t.row u) (k.rising u iu) sh.first_in ie (sh.first_rank ∙ sym he) in
      let dd : sh.first.distance ≡ e.distance = ap (λ (y : Entry). y.distance) eo in
      let av : At r v sh.second = record { inside = iv; entry_in = sh.second_in; at_rank = sh.second_rank } in
      let ih : place t.order r < n = hub_in r u e at in
      let hv : distance n ds (place t.order r) v ≡ Some sh.second.distance = far_back n ds s v (place t.order r) sh.second.distance iv ih (hub_far r v sh.second av) in
      let c = far_sum n ds s e.neighbour (place t.order r) v st.0.distance sh.second.distance iw ih iv (hub_far r e.neighbour st.0 sg.at_next) hv in
      let le = far_le n ds s u e.neighbour v sg.length c.0 m.sum iu iw iv sg.near c.1 (merged_far n ds t u v (Some m) s k iu iv mm) in
      let len : sg.length ≡ e.distance - g.distance = omega (arith, sg.falls) in
      (subst (λ (x : ℕ). Joined ds u e.neighbour x) len sg.joined, (c.0, c.1, omega (arith, c.2, sh.sum, sg.falls)))

  -- x ends the chain from v: the hub of rank r is next, and x is on the shortest way, of length d, from v to it
  abbrev Ends : ℕ → ℕ → ℕ → ℕ → Type 0
  Ends r v d x = (e : Entry) × At r x e × Joined ds x (place t.order r) e.distance × ((c : ℕ) × (distance n ds v x ≡ Some c) × (c + e.distance ≡ d))

  -- the chain from v, come to x
  pub record Come (r v d x : ℕ) (e : Entry) : Type 0 where
    pub at_x : At r x e
    pub apart : place t.order r ≡ x → ⊥
    pub behind : ℕ
    pub came : distance n ds v x ≡ Some behind
    pub left : behind + e.distance ≡ d

  chain : (r v d : ℕ) → v < n → distance n ds v (place t.order r) ≡ Some d → (k x : ℕ) (e : Entry) → Come r v d x e → e.distance ≤ k → Ends r v d (last_before t r k x)
  chain r v d iv far zero x e c l =
      let st = step r x e c.at_x c.apart in
      absurd (omega (arith, some_length n ds x e.neighbour st.1.length s st.1.joined, st.1.falls))
  chain r v d iv far (suc k') x e c l = go (eqb (neighbour_at r (t.row x)) h) refl (chain r v d iv far k')
    where
      h : ℕ
      h = place t.order r

      at : At r x e
      at = c.at_x

      g : Entry
      g = (step r x e at c.apart).0

      st : Step r x e g
      st = (step r x e at c.apart).1

      next : neighbour_at r (t.row x) ≡ e.neighbour
      next = subst (λ (y : ℕ). neighbour_at y (t.row x) ≡ e.neighbour) at.at_rank (next_is e (t.row x) (k.rising x at.inside) at.entry_in)

      go : (b : Bool) → eqb (neighbour_at r (t.row x)) h ≡ b → ((y : ℕ) (e : Entry) → Come r v d y e → e.distance ≤ k' → Ends r v d (last_before t r k' y)) → Ends r v d (pick b x (last_before t r k' (neighbour_at r (t.row x))))
      go true q rest =
          let eh : e.neighbour ≡ h = sym next ∙ eqb-true (neighbour_at r (t.row x)) h q in
          let hh : distance n ds h h ≡ Some g.distance = subst (λ (y : ℕ). distance n ds y h ≡ Some g.distance) eh (hub_far r e.neighbour g st.at_next) in
          let zero-d : g.distance ≡ 0 = same hh (far_self n ds s h (hub_in r x e at)) in
          let len : st.length ≡ e.distance = omega (arith, st.falls) in
          (e, at, subst (λ (y : ℕ). Joined ds x h y) len (subst (λ (y : ℕ). Joined ds x y st.length) eh st.joined), (c.behind, c.came, c.left))
      go false q rest =
          subst (λ (y : ℕ). Ends r v d (last_before t r k' y)) (sym next)
          (rest e.neighbour g (record { at_x = st.at_next; apart = λ z. eqb-false (neighbour_at r (t.row x)) h q (next ∙ sym z); behind = on.0; came = on.1; left = whole })
          (omega (arith, st.falls, l, some_length n ds x e.neighbour st.length s st.joined)))
        where
          iw : e.neighbour < n
          iw = st.at_next.inside

          on : (b : ℕ) × (distance n ds v e.neighbour ≡ Some b) × (b ≤ c.behind + st.length)
          on = far_sum n ds s v x e.neighbour c.behind st.length iv at.inside iw c.came st.near

          whole : on.0 + g.distance ≡ d
          whole = omega (arith, on.2, c.left, st.falls, far_le n ds s v e.neighbour h on.0 g.distance d iv iw (hub_in r x e at) on.1 (hub_far r e.neighbour g st.at_next) far)

  -- from u, which is the hub, the last place before u on the chain from v leads on
  inward : (u v : ℕ) (m : Meeting) → u < n → v < n → (u ≡ v → ⊥) → Merged (t.row u) (t.row v) (Some m) → place t.order m.rank ≡ u → (e : Entry) × In e (t.row (last_before t m.rank m.sum v)) × (e.rank ≡ m.rank) × Towards n ds u v m.sum (record { to = last_before t m.rank m.sum v; length = e.distance })
  inward u v m iu iv uv mm hu =
      let r : ℕ = m.rank in
      let sh = mm.0 in
      let au : At r u sh.first = record { inside = iu; entry_in = sh.first_in; at_rank = sh.first_rank } in
      let av : At r v sh.second = record { inside = iv; entry_in = sh.second_in; at_rank = sh.second_rank } in
      let uu : distance n ds u u ≡ Some sh.first.distance = subst (λ (y : ℕ). distance n ds u y ≡ Some sh.first.distance) hu (hub_far r u sh.first au) in
      let none : sh.first.distance ≡ 0 = same uu (far_self n ds s u iu) in
      let d : ℕ = sh.second.distance in
      let start : Come r v d v sh.second = record { at_x = av; apart = λ z. uv (sym hu ∙ z); behind = 0; came = far_self n ds s v iv; left = omega arith } in
      let c = chain r v d iv (hub_far r v sh.second av) m.sum v sh.second start (omega (arith, sh.sum)) in
      let x : ℕ = last_before t r m.sum v in
      let e : Entry = c.0 in
      let j : Joined ds u x e.distance = subst (λ (y : ℕ). Joined ds y x e.distance) hu (turn ds x (place t.order r) e.distance c.2) in
      (e, c.1.entry_in, c.1.at_rank, (j, (c.3.0, far_back n ds s v x c.3.0 iv c.1.inside c.3.1, omega (arith, c.3.2, sh.sum))))

  neighbour_in : (r z : ℕ) (e : Entry) → At r z e → neighbour_at r (t.row z) ≡ e.neighbour
  neighbour_in r z e a = subst (λ (y : ℕ). neighbour_at y (t.row z) ≡ e.neighbour) a.at_rank (next_is e (t.row z) (k.rising z a.inside) a.entry_in)

  distance_in : (r z : ℕ) (e : Entry) → At r z e → distance_at r (t.row z) ≡ e.distance
  distance_in r z e a = subst (λ (y : ℕ). distance_at y (t.row z) ≡ e.distance) a.at_rank (dist_is e (t.row z) (k.rising z a.inside) a.entry_in)

  over : (u v : ℕ) (m : Meeting) → u < n → v < n → (u ≡ v → ⊥) → Merged (t.row u) (t.row v) (Some m) → Towards n ds u v m.sum (hop_over t u v m)
  over u v m iu iv uv mm = go (eqb (place t.order r) u) refl
    where
      r : ℕ
      r = m.rank

      w : ℕ
      w = neighbour_at r (t.row u)

      x : ℕ
      x = last_before t r m.sum v

      go : (b : Bool) → eqb (place t.order r) u ≡ b → Towards n ds u v m.sum (pick b (record { to = x; length = distance_at r (t.row x) }) (record { to = w; length = distance_at r (t.row u) - distance_at r (t.row w) }))
      go true q =
          let c = inward u v m iu iv uv mm (eqb-true (place t.order r) u q) in
          let ix : x < n = to_in n ds u x c.0.distance s c.3.0 in
          subst (λ (l : ℕ). Towards n ds u v m.sum (record { to = x; length = l })) (sym (distance_in r x c.0 (record { inside = ix; entry_in = c.1; at_rank = c.2 }))) c.3
      go false q =
          let sh = mm.0 in
          let e : Entry = sh.first in
          let at : At r u e = record { inside = iu; entry_in = sh.first_in; at_rank = sh.first_rank } in
          let ne : place t.order r ≡ u → ⊥ = eqb-false (place t.order r) u q in
          let st = step r u e at ne in
          let g : Entry = st.0 in
          let an = st.1.at_next in
          let we : w ≡ e.neighbour = neighbour_in r u e at in
          let c = outward u v m e g iu iv mm ne sh.first_in sh.first_rank an.entry_in an.at_rank in
          let du : distance_at r (t.row u) ≡ e.distance = distance_in r u e at in
          let dw : distance_at r (t.row w) ≡ g.distance = ap (λ (y : ℕ). distance_at r (t.row y)) we ∙ distance_in r e.neighbour g an in
          let len : e.distance - g.distance ≡ distance_at r (t.row u) - distance_at r (t.row w) = omega arith in
          subst (λ (y : ℕ). Towards n ds u v m.sum (record { to = y; length = distance_at r (t.row u) - distance_at r (t.row w) })) (sym we) (subst (λ (l : ℕ). Towards n ds u v m.sum (record { to = e.neighbour; length = l })) len c)

pub right_rule : RightRule
right_rule n ds t u v d s k iu iv uv far = go (merge (t.row u) (t.row v)) (merge_finds (t.row u) (t.row v) (k.rising u iu) (k.rising v iv)) (sym (right_answers n ds t u v s k iu iv) ∙ far)
  where
    go : (o : Option Meeting) → Merged (t.row u) (t.row v) o → sum_of o ≡ Some d → Towards n ds u v d (hop_by t u v o)
    go None m e = absurd (not_both refl e)
    go (Some a) m e = subst (λ (c : ℕ). Towards n ds u v c (hop_over t u v a)) (same refl e) (over n ds t s k u v a iu iv uv m)
