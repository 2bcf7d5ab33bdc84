-- The distances of a frame: one for two places, symmetric, with the triangle. Assumes nothing.
use Rattle.std.proofs.Common.{◌≡◌, ℕ, ◌+◌, ◌<◌, ◌≤◌, List, [], ◌∷◌, Some, None, Option, sym, refl, ap, ◌∙◌, subst, arith}
use Rattle.ways.specs.declared.row.Row.{Row}
use Rattle.ways.specs.Options.{AtMost}
use Rattle.ways.specs.Way.{Hop, Joined, Leads, total, Way, Lawful}
use Rattle.ways.specs.Distance.{Reached, IsDistance, distance}
use Rattle.ways.specs.Laws.{DistanceSelf, DistanceSymmetric, DistanceTriangle, DistanceBounded}
use Rattle.ways.proofs.Graph.{reached, at_most, join, one_hop, back, to_in, some_length}
use Rattle.ways.proofs.Simple.{Simple, simplify, few_hops, total_bound}
use Rattle.ways.proofs.Reaches.{distance_is}

pub same : {o : Option ℕ} {a b : ℕ} → o ≡ Some a → o ≡ Some b → a ≡ b
same p q = cc

pub not_both : {o : Option ℕ} {a : ℕ} → o ≡ None → o ≡ Some a → ⊥
not_both p q = let z : ◌≡◌ {A = ℕ} 0 1 = cc in omega arith

module _ (n : ℕ) (ds : List Row) (s : Lawful n ds) where
  pub way_of : (u v d : ℕ) → u < n → v < n → distance n ds u v ≡ Some d → Way ds u v d
  way_of u v d iu iv e = subst (λ (o : Option ℕ). Reached ds u v o) e (reached ds u v (distance n ds u v) (distance_is n ds u v s iu))

  far_of : (u v t : ℕ) → u < n → v < n → Way ds u v t → (d : ℕ) × (distance n ds u v ≡ Some d) × (d ≤ t)
  far_of u v t iu iv w = go (distance n ds u v) refl (at_most ds u v t (distance n ds u v) (distance_is n ds u v s iu) w)
    where
      go : (o : Option ℕ) → distance n ds u v ≡ o → AtMost o t → (d : ℕ) × (distance n ds u v ≡ Some d) × (d ≤ t)
      go None e h = absurd h
      go (Some d) e h = (d, e, h)

  pub far_self : (u : ℕ) → u < n → distance n ds u u ≡ Some 0
  far_self u iu =
      let r = far_of u u 0 iu iu ([], refl, refl) in
      let z : r.0 ≡ 0 = omega (arith, r.2) in
      r.1 ∙ ap Some z

  -- the triangle
  pub far_sum : (u w v a b : ℕ) → u < n → w < n → v < n → distance n ds u w ≡ Some a → distance n ds w v ≡ Some b → (d : ℕ) × (distance n ds u v ≡ Some d) × (d ≤ a + b)
  far_sum u w v a b iu iw iv p q = far_of u v (a + b) iu iv (join ds u w v a b (way_of u w a iu iw p) (way_of w v b iw iv q))

  pub far_le : (u w v a b d : ℕ) → u < n → w < n → v < n → distance n ds u w ≡ Some a → distance n ds w v ≡ Some b → distance n ds u v ≡ Some d → d ≤ a + b
  far_le u w v a b d iu iw iv p q r =
      let t = far_sum u w v a b iu iw iv p q in
      let e : t.0 ≡ d = same t.1 r in
      omega (arith, t.2)

  pub far_back : (u v d : ℕ) → u < n → v < n → distance n ds u v ≡ Some d → distance n ds v u ≡ Some d
  far_back u v d iu iv e =
      let w = way_of u v d iu iv e in
      let r = far_of v u d iv iu (subst (λ (n : ℕ). Way ds v u n) w.2 (back ds u v w.0 w.1)) in
      let x = way_of v u r.0 iv iu r.1 in
      let k = far_of u v r.0 iu iv (subst (λ (n : ℕ). Way ds u v n) x.2 (back ds v u x.0 x.1)) in
      let l : k.0 ≡ d = same {a = k.0} k.1 e in
      let z : r.0 ≡ d = omega (arith, r.2, k.2) in
      r.1 ∙ ap Some z

  pub far_duct : (u w len : ℕ) → u < n → Joined ds u w len → (a : ℕ) × (distance n ds u w ≡ Some a) × (a ≤ len)
  far_duct u w len iu j = far_of u w len iu (to_in (n) ds u w len s j) (one_hop ds u w len j)

  -- no distance is 0 but from a place to itself
  pub far_zero : (u v : ℕ) → u < n → v < n → distance n ds u v ≡ Some 0 → u ≡ v
  far_zero u v iu iv e = go (way_of u v 0 iu iv e)
    where
      go : Way ds u v 0 → u ≡ v
      go ([], l, t) = l
      go (h ∷ hs, l, t) = absurd (omega (arith, t, some_length (n) ds u h.to h.length s l.0))

  pub far_way : (u v : ℕ) (hs : List Hop) → u < n → v < n → Leads ds u hs v → (d : ℕ) × (distance n ds u v ≡ Some d) × (d ≤ total hs)
  far_way u v hs iu iv l = far_of u v (total hs) iu iv (hs, l, refl)

  -- over a duct first
  pub far_via : (u w v len b d : ℕ) → u < n → v < n → Joined ds u w len → distance n ds w v ≡ Some b → distance n ds u v ≡ Some d → d ≤ len + b
  far_via u w v len b d iu iv j p q =
      let iw : w < n = to_in (n) ds u w len s j in
      let t = far_duct u w len iu j in
      omega (arith, t.2, far_le u w v t.0 b d iu iw iv t.1 p q)

  -- the first hop of a shortest way
  pub far_first : (u v d : ℕ) → u < n → v < n → (u ≡ v → ⊥) → distance n ds u v ≡ Some d → (w : ℕ) × (w < n) × ((len : ℕ) × (b : ℕ) × Joined ds u w len × (distance n ds w v ≡ Some b) × (len + b ≡ d))
  far_first u v d iu iv ne e = go (way_of u v d iu iv e)
    where
      go : Way ds u v d → (w : ℕ) × (w < n) × ((len : ℕ) × (b : ℕ) × Joined ds u w len × (distance n ds w v ≡ Some b) × (len + b ≡ d))
      go ([], l, t) = absurd (ne l)
      go (h ∷ hs, l, t) =
          let iw : h.to < n = to_in (n) ds u h.to h.length s l.0 in
          let b = far_way h.to v hs iw iv l.1 in
          (h.to, iw, (h.length, b.0, l.0, b.1, omega (arith, b.2, t, far_via u h.to v h.length b.0 d iu iv l.0 b.1 e)))

pub distance_self : DistanceSelf
distance_self n ds u l h = far_self n ds l u h

pub distance_symmetric : DistanceSymmetric
distance_symmetric n ds u v l hu hv = go (distance n ds u v) refl (distance n ds v u) refl
  where
    go : (o : Option ℕ) → distance n ds u v ≡ o → (p : Option ℕ) → distance n ds v u ≡ p → distance n ds u v ≡ distance n ds v u
    go (Some d) e p f = e ∙ sym (far_back n ds l u v d hu hv e)
    go None e (Some d) f = far_back n ds l v u d hv hu f ∙ sym f
    go None e None f = e ∙ sym f

pub distance_triangle : DistanceTriangle
distance_triangle n ds u w v a b l hu hw hv p q = far_sum n ds l u w v a b hu hw hv p q

pub distance_bounded : DistanceBounded
distance_bounded n ds u v d l h e =
    let i : IsDistance ds u v (Some d) = subst (IsDistance ds u v) e (distance_is n ds u v l h) in
    let s : Simple ds u v (total i.0.0) = simplify ds u v i.0.0 i.0.1 in
    omega (arith, i.1 s.0 s.1, total_bound n ds u v s.0 l s.1, few_hops n ds u v (total i.0.0) l h s)

-- so it fits 32 bits
pub short : (n : ℕ) (ds : List Row) (u v d : ℕ) → n ≤ 4096 → Lawful n ds → u < n → distance n ds u v ≡ Some d → d ≤ 4095000000
short n ds u v d few l h e = omega (arith, distance_bounded n ds u v d l h e)
