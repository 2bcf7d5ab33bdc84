-- The focus on the places of a list. Assumes nothing.
use Rattle.std.proofs.Common.{◌≡◌, ℕ, Bool, true, false, eqb, ◌⊎◌, List, [], ◌∷◌, ◌++◌, refl, ap, inl, inr, arith, eq-eqb, eqb-true}
use Rattle.ways.specs.Nearest.{no_place, with_place}
use Rattle.ways.specs.Options.{pick}
use Rattle.ways.specs.Places.{On}
use Rattle.trees.specs.Groups.{with_places, focus_on}

with_on : (v : ℕ) (f : ℕ → Bool) (p : ℕ) → with_place v f p ≡ true → (p ≡ v) ⊎ (f p ≡ true)
with_on v f p e = go (eqb p v) refl e
  where
    go : (b : Bool) → eqb p v ≡ b → pick b true (f p) ≡ true → (p ≡ v) ⊎ (f p ≡ true)
    go true q k = inl (eqb-true p v q)
    go false q k = inr k

with_all : (v : ℕ) (f : ℕ → Bool) (p : ℕ) → (p ≡ v) ⊎ (f p ≡ true) → with_place v f p ≡ true
with_all v f p (inl e) = ap (λ (b : Bool). pick b true (f p)) (eq-eqb p v e)
with_all v f p (inr e) = go (eqb p v)
  where
    go : (b : Bool) → pick b true (f p) ≡ true
    go true = refl
    go false = e

pub places_on : (ps : List ℕ) (f : ℕ → Bool) (p : ℕ) → with_places ps f p ≡ true → On p ps ⊎ (f p ≡ true)
places_on [] f p e = inr e
places_on (q ∷ ps) f p e = go (places_on ps (with_place q f) p e)
  where
    next : (p ≡ q) ⊎ (f p ≡ true) → On p (q ∷ ps) ⊎ (f p ≡ true)
    next (inl k) = inl (inl k)
    next (inr k) = inr k

    go : On p ps ⊎ (with_place q f p ≡ true) → On p (q ∷ ps) ⊎ (f p ≡ true)
    go (inl o) = inl (inr o)
    go (inr k) = next (with_on q f p k)

pub places_all : (ps : List ℕ) (f : ℕ → Bool) (p : ℕ) → On p ps ⊎ (f p ≡ true) → with_places ps f p ≡ true
places_all [] f p (inl o) = absurd o
places_all [] f p (inr e) = e
places_all (q ∷ ps) f p (inl (inl k)) = places_all ps (with_place q f) p (inr (with_all q f p (inl k)))
places_all (q ∷ ps) f p (inl (inr o)) = places_all ps (with_place q f) p (inl o)
places_all (q ∷ ps) f p (inr e) = places_all ps (with_place q f) p (inr (with_all q f p (inr e)))

-- in focus is what is on the list
pub focus_is : (g : List ℕ) (p : ℕ) → focus_on g p ≡ true → On p g
focus_is g p e = go (places_on g no_place p e)
  where
    go : On p g ⊎ (◌≡◌ {A = Bool} false true) → On p g
    go (inl o) = o
    go (inr z) = absurd (let y : ◌≡◌ {A = ℕ} 0 1 = cc in omega arith)

pub focus_all : (g : List ℕ) (p : ℕ) → On p g → focus_on g p ≡ true
focus_all g p o = places_all g no_place p (inl o)

pub places_push : (ps : List ℕ) (p : ℕ) (f : ℕ → Bool) → with_places (ps ++ (p ∷ [])) f ≡ with_place p (with_places ps f)
places_push [] p f = refl
places_push (q ∷ ps) p f = places_push ps p (with_place q f)

-- two lists, one after the other
pub places_append : (ps qs : List ℕ) (f : ℕ → Bool) → with_places (ps ++ qs) f ≡ with_places qs (with_places ps f)
places_append [] qs f = refl
places_append (p ∷ ps) qs f = places_append ps qs (with_place p f)

-- one place more
pub focus_push : (ps : List ℕ) (p : ℕ) → focus_on (ps ++ (p ∷ [])) ≡ with_place p (focus_on ps)
focus_push ps p = places_push ps p no_place
