-- How long a way that comes to no place twice can be. Assumes nothing.
use Rattle.std.proofs.Common.{◌≡◌, ℕ, ◌+◌, ◌⊎◌, List, [], ◌∷◌, sym, ap, ◌∙◌, inl, inr, arith}
use Rattle.ways.specs.declared.row.Row.{Row}
use Rattle.ways.specs.Places.{Off}
use Rattle.ways.specs.Way.{Hop, Joins, Joined, Leads, tos}
use Rattle.trees.specs.Connected.{weight}
use Rattle.trees.specs.Laws.{WayInWeight}

-- a duct that joins u to something joins no two places other than u
misses : (e : Row) (u w len x y l : ℕ) → Joins e u w len → (u ≡ x → ⊥) → (u ≡ y → ⊥) → Joins e x y l → ⊥
misses e u w len x y l j nx ny k = go j.1 k.1
  where
    go : (((e.first ≡ u) × (e.second ≡ w)) ⊎ ((e.first ≡ w) × (e.second ≡ u))) → (((e.first ≡ x) × (e.second ≡ y)) ⊎ ((e.first ≡ y) × (e.second ≡ x))) → ⊥
    go (inl a) (inl b) = nx (sym a.0 ∙ b.0)
    go (inl a) (inr b) = ny (sym a.0 ∙ b.0)
    go (inr a) (inl b) = ny (sym a.1 ∙ b.1)
    go (inr a) (inr b) = nx (sym a.1 ∙ b.1)

-- what is left of a list when a duct of the length len at u is taken out: all that joins other places
abbrev Left : List Row → ℕ → ℕ → Type 0
Left es u len = (rest : List Row) × (weight es ≡ len + weight rest) × ((x y l : ℕ) → (u ≡ x → ⊥) → (u ≡ y → ⊥) → Joined es x y l → Joined rest x y l)

take_out : (es : List Row) (u w len : ℕ) → Joined es u w len → Left es u len
take_out [] u w len j = absurd j
take_out (e ∷ es) u w len (inl j) = (es, ap (λ n. n + weight es) j.0, keep)
  where
    keep : (x y l : ℕ) → (u ≡ x → ⊥) → (u ≡ y → ⊥) → Joined (e ∷ es) x y l → Joined es x y l
    keep x y l nx ny (inl k) = absurd (misses e u w len x y l j nx ny k)
    keep x y l nx ny (inr k) = k
take_out (e ∷ es) u w len (inr j) = go (take_out es u w len j)
  where
    go : Left es u len → Left (e ∷ es) u len
    go t = (e ∷ t.0, omega (arith, t.1), keep)
      where
        keep : (x y l : ℕ) → (u ≡ x → ⊥) → (u ≡ y → ⊥) → Joined (e ∷ es) x y l → Joined (e ∷ t.0) x y l
        keep x y l nx ny (inl k) = inl k
        keep x y l nx ny (inr k) = inr (t.2 x y l nx ny k)

-- a way that never comes to u goes over what is left
leads_left : (es : List Row) (u len : ℕ) (t : Left es u len) (x v : ℕ) (hs : List Hop) → Leads es x hs v → Off u (x ∷ tos hs) → Leads t.0 x hs v
leads_left es u len t x v [] l f = l
leads_left es u len t x v (h ∷ hs) l f = (t.2 x h.to h.length f.0 f.1.0 l.0, leads_left es u len t h.to v hs l.1 f.1)

pub way_in_weight : WayInWeight
way_in_weight es u v [] l a = omega arith
way_in_weight es u v (h ∷ hs) l a =
    let t : Left es u h.length = take_out es u h.to h.length l.0 in
    omega (arith, t.1, way_in_weight t.0 h.to v hs (leads_left es u h.length t h.to v hs l.1 a.0) a.1)
