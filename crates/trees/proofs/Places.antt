-- Lists of places: what is on one, off one, and on two put together. Assumes nothing.
use Rattle.std.proofs.Common.{◌≡◌, ℕ, zero, suc, ◌<◌, ◌⊎◌, List, [], ◌∷◌, ◌++◌, length, get_or, sym, refl, subst, inl, inr, arith}
use Rattle.ways.specs.Places.{On, Off, Apart, AllBelow}

pub off_on : (x : ℕ) (ps : List ℕ) → Off x ps → On x ps → ⊥
off_on x [] f o = o
off_on x (p ∷ ps) f (inl e) = f.0 e
off_on x (p ∷ ps) f (inr o) = off_on x ps f.1 o

pub not_on : (x : ℕ) (ps : List ℕ) → (On x ps → ⊥) → Off x ps
not_on x [] f = tt
not_on x (p ∷ ps) f = (λ e. f (inl e), not_on x ps (λ o. f (inr o)))

pub below_on : (n x : ℕ) (ps : List ℕ) → AllBelow n ps → On x ps → x < n
below_on n x [] b o = absurd o
below_on n x (p ∷ ps) b (inl e) = subst (λ (y : ℕ). y < n) (sym e) b.0
below_on n x (p ∷ ps) b (inr o) = below_on n x ps b.1 o

-- what stands at an index is on the list
pub get_or_on : (xs : List ℕ) (i : ℕ) → i < length xs → On (get_or xs i 0) xs
get_or_on [] i l = absurd (omega arith)
get_or_on (x ∷ xs) zero l = inl refl
get_or_on (x ∷ xs) (suc i) l = inr (get_or_on xs i (omega arith))

-- two lists put together

pub on_left : (x : ℕ) (ps qs : List ℕ) → On x ps → On x (ps ++ qs)
on_left x [] qs o = absurd o
on_left x (p ∷ ps) qs (inl e) = inl e
on_left x (p ∷ ps) qs (inr o) = inr (on_left x ps qs o)

pub on_right : (x : ℕ) (ps qs : List ℕ) → On x qs → On x (ps ++ qs)
on_right x [] qs o = o
on_right x (p ∷ ps) qs o = inr (on_right x ps qs o)

pub on_split : (x : ℕ) (ps qs : List ℕ) → On x (ps ++ qs) → On x ps ⊎ On x qs
on_split x [] qs o = inr o
on_split x (r ∷ rs) qs (inl e) = inl (inl e)
on_split x (r ∷ rs) qs (inr o) = also (on_split x rs qs o)
  where
    also : On x rs ⊎ On x qs → On x (r ∷ rs) ⊎ On x qs
    also (inl i) = inl (inr i)
    also (inr i) = inr i

pub on_turned : (x : ℕ) (ps qs : List ℕ) → On x (ps ++ qs) → On x (qs ++ ps)
on_turned x ps qs o = go (on_split x ps qs o)
  where
    go : On x ps ⊎ On x qs → On x (qs ++ ps)
    go (inl i) = on_right x qs ps i
    go (inr i) = on_left x qs ps i

pub off_append : (x : ℕ) (ps qs : List ℕ) → Off x ps → Off x qs → Off x (ps ++ qs)
off_append x [] qs f g = g
off_append x (p ∷ ps) qs f g = (f.0, off_append x ps qs f.1 g)

off_turned : (x : ℕ) (ps qs : List ℕ) → Off x (ps ++ qs) → Off x (qs ++ ps)
off_turned x ps qs f = not_on x (qs ++ ps) (λ o. off_on x (ps ++ qs) f (on_turned x qs ps o))

-- p moved from the front of qs to behind rs
apart_moved : (p : ℕ) (rs qs : List ℕ) → Off p (rs ++ qs) → Apart (rs ++ qs) → Apart (rs ++ (p ∷ qs))
apart_moved p [] qs f a = (f, a)
apart_moved p (r ∷ rs) qs f a = (off_moved rs (λ e. f.0 (sym e)) a.0, apart_moved p rs qs f.1 a.1)
  where
    off_moved : (rs : List ℕ) → (r ≡ p → ⊥) → Off r (rs ++ qs) → Off r (rs ++ (p ∷ qs))
    off_moved [] ne g = (ne, g)
    off_moved (s ∷ ss) ne g = (g.0, off_moved ss ne g.1)

pub apart_turned : (ps qs : List ℕ) → Apart (ps ++ qs) → Apart (qs ++ ps)
apart_turned [] qs a = plain qs a
  where
    plain : (qs : List ℕ) → Apart qs → Apart (qs ++ [])
    plain [] a = tt
    plain (q ∷ qs) a = (off_turned q [] qs a.0, plain qs a.1)
apart_turned (p ∷ ps) qs a = apart_moved p qs ps (off_turned p ps qs a.0) (apart_turned ps qs a.1)

pub below_append : (n : ℕ) (ps qs : List ℕ) → AllBelow n ps → AllBelow n qs → AllBelow n (ps ++ qs)
below_append n [] qs b d = d
below_append n (p ∷ ps) qs b d = (b.0, below_append n ps qs b.1 d)

pub below_left : (n : ℕ) (ps qs : List ℕ) → AllBelow n (ps ++ qs) → AllBelow n ps
below_left n [] qs b = tt
below_left n (p ∷ ps) qs b = (b.0, below_left n ps qs b.1)

pub below_right : (n : ℕ) (ps qs : List ℕ) → AllBelow n (ps ++ qs) → AllBelow n qs
below_right n [] qs b = b
below_right n (p ∷ ps) qs b = below_right n ps qs b.1
