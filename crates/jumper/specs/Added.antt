-- One more duct: the distance is the least of three sums. Assumes nothing.
use Rattle.std.proofs.Common.{sym, subst, inl, inr, arith}
use Rattle.std.specs.Prelude.{ℕ, ◌+◌, ◌≤◌, List, [], ◌∷◌, Some, None, Option, refl}
use Rattle.ways.specs.declared.row.Row.{Row}
use Rattle.ways.specs.Options.{AtMost, within, lesser, through}
use Rattle.ways.specs.Way.{Hop, Joins, Joined, Leads, total, Way}
use Rattle.ways.specs.Distance.{Reached, IsDistance}
use Rattle.jumper.specs.Jumped.{duct}
use Rattle.ways.proofs.Graph.{here, hop, join, more, reached, at_most, is_distance, pick_has, lesser_left, lesser_right, at_most_through, weaken}

-- a way with the new duct is no shorter than one without it, or than one that takes it once
data Split (ds : List Row) (a b len u v t : ℕ) : Type 0 where
  stays : (s : ℕ) → Way ds u v s → s ≤ t → Split ds a b len u v t
  there : (s r : ℕ) → Way ds u a s → Way ds b v r → s + len + r ≤ t → Split ds a b len u v t
  back : (s r : ℕ) → Way ds u b s → Way ds a v r → s + len + r ≤ t → Split ds a b len u v t

along : (ds : List Row) (a b len u v t : ℕ) (h : Hop) → Joined ds u h.to h.length → Split ds a b len h.to v t → Split ds a b len u v (h.length + t)
along ds a b len u v t h j (stays s w k) = stays (h.length + s) (hop ds u v h s j w) (omega arith)
along ds a b len u v t h j (there s r w x k) = there (h.length + s) r (hop ds u a h s j w) x (omega arith)
along ds a b len u v t h j (back s r w x k) = back (h.length + s) r (hop ds u b h s j w) x (omega arith)

-- from a over the duct to b
over : (ds : List Row) (a b len v t : ℕ) → Split ds a b len b v t → Split ds a b len a v (len + t)
over ds a b len v t (stays s w k) = there 0 s (here ds a) w (omega arith)
over ds a b len v t (there s r w x k) = there 0 r (here ds a) x (omega arith)
over ds a b len v t (back s r w x k) = stays r x (omega arith)

-- and from b to a
under : (ds : List Row) (a b len v t : ℕ) → Split ds a b len a v t → Split ds a b len b v (len + t)
under ds a b len v t (stays s w k) = back 0 s (here ds b) w (omega arith)
under ds a b len v t (there s r w x k) = stays r x (omega arith)
under ds a b len v t (back s r w x k) = back 0 r (here ds b) x (omega arith)

module _ (ds : List Row) (a b len : ℕ) where
  abbrev new : Row
  new = duct a b len

  across : (u v t : ℕ) (h : Hop) → Joins new u h.to h.length → Split ds a b len h.to v t → Split ds a b len u v (h.length + t)
  across u v t h (e, inl (p, q)) s =
      subst (λ (x : ℕ). Split ds a b len x v (h.length + t)) p
      (subst (λ (l : ℕ). Split ds a b len a v (l + t)) e (over ds a b len v t (subst (λ (y : ℕ). Split ds a b len y v t) (sym q) s)))
  across u v t h (e, inr (p, q)) s =
      subst (λ (x : ℕ). Split ds a b len x v (h.length + t)) q
      (subst (λ (l : ℕ). Split ds a b len b v (l + t)) e (under ds a b len v t (subst (λ (y : ℕ). Split ds a b len y v t) (sym p) s)))

  split : (u v : ℕ) (hs : List Hop) → Leads (new ∷ ds) u hs v → Split ds a b len u v (total hs)
  split u v [] l = stays 0 ([], l, refl) (omega arith)
  split u v (h ∷ hs) (inl j, l) = across u v (total hs) h j (split h.to v hs l)
  split u v (h ∷ hs) (inr j, l) = along ds a b len u v (total hs) h j (split h.to v hs l)

  reached_more : (u v : ℕ) (o : Option ℕ) → Reached ds u v o → Reached (new ∷ ds) u v o
  reached_more u v None r = tt
  reached_more u v (Some d) r = more new ds u v d r

  -- over a duct from x to y
  reached_through : (u v x y : ℕ) (q r : Option ℕ) → Joined (new ∷ ds) x y len → Reached ds u x q → Reached ds y v r → Reached (new ∷ ds) u v (through q len r)
  reached_through u v x y None r j h k = tt
  reached_through u v x y (Some d) None j h k = tt
  reached_through u v x y (Some d) (Some e) j h k =
      let last : Way (new ∷ ds) x v (len + e) = hop (new ∷ ds) x v (record { to = y; length = len }) e j (more new ds y v e k) in
      subst (λ (n : ℕ). Way (new ∷ ds) u v n) (omega arith) (join (new ∷ ds) u x v d (len + e) (more new ds u x d h) last)

  -- with one more duct, the distance is the least of three sums
  pub three_sums : (u v : ℕ) (p q r s t : Option ℕ) → IsDistance ds u v p → IsDistance ds u a q → IsDistance ds b v r → IsDistance ds u b s → IsDistance ds a v t → IsDistance (new ∷ ds) u v (lesser p (lesser (through q len r) (through s len t)))
  three_sums u v p q r s t ip iq ir is it =
      is_distance (new ∷ ds) u v _
      (pick_has (Reached (new ∷ ds) u v) (within p (lesser (through q len r) (through s len t))) p _
      (reached_more u v p (reached ds u v p ip))
      (pick_has (Reached (new ∷ ds) u v) (within (through q len r) (through s len t)) _ _
      (reached_through u v a b q r (inl (refl, inl (refl, refl))) (reached ds u a q iq) (reached ds b v r ir))
      (reached_through u v b a s t (inl (refl, inr (refl, refl))) (reached ds u b s is) (reached ds a v t it))))
      (λ hs l. bound hs (split u v hs l))
    where
      bound : (hs : List Hop) → Split ds a b len u v (total hs) → AtMost (lesser p (lesser (through q len r) (through s len t))) (total hs)
      bound hs (stays n w k) = lesser_left p _ (total hs) (weaken p n (total hs) (at_most ds u v n p ip w) k)
      bound hs (there m n w x k) =
          lesser_right p _ (total hs)
          (lesser_left (through q len r) _ (total hs) (at_most_through q r len m n (total hs) (at_most ds u a m q iq w) (at_most ds b v n r ir x) k))
      bound hs (back m n w x k) =
          lesser_right p _ (total hs)
          (lesser_right (through q len r) _ (total hs) (at_most_through s t len m n (total hs) (at_most ds u b m s is w) (at_most ds a v n t it x) k))
