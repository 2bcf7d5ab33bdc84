-- Ways that come to no place twice. Assumes nothing.
use Rattle.std.proofs.Common.{◌≡◌, ℕ, zero, suc, ◌+◌, ◌*◌, ◌<◌, ◌≤◌, ◌⊎◌, List, [], ◌∷◌, length, sym, ◌∙◌, subst, inl, inr, arith}
use native.Mathlib.Decide.{ℕ_discrete}
use Rattle.ways.specs.declared.row.Row.{Row}
use Rattle.ways.specs.Places.{Off, Apart, AllBelow}
use Rattle.ways.specs.Way.{Hop, Leads, total, tos, Lawful}
use Rattle.ways.specs.Laws.{ShortestApart}
use Rattle.ways.proofs.Graph.{to_in, some_length, no_longer}

lower : (n : ℕ) (xs : List ℕ) → Off n xs → AllBelow (suc n) xs → AllBelow n xs
lower n [] f b = tt
lower n (x ∷ xs) f b =
    let ne : n ≡ x → ⊥ = f.0 in
    (omega arith, lower n xs f.1 b.1)

-- what is left without the place n
abbrev Without : ℕ → List ℕ → Type 0
Without n xs = (ys : List ℕ) × Apart ys × AllBelow n ys × (length xs ≤ length ys + 1) × ((z : ℕ) → Off z xs → Off z ys)

without : (n : ℕ) (xs : List ℕ) → Apart xs → AllBelow (suc n) xs → Without n xs
without n [] a b = ([], tt, tt, omega arith, λ z f. tt)
without n (x ∷ xs) a b = go (ℕ_discrete x n) (without n xs a.1 b.1)
  where
    go : Dec (x ≡ n) → Without n xs → Without n (x ∷ xs)
    go (yes e) w = (xs, a.1, lower n xs (subst (λ (y : ℕ). Off y xs) e a.0) b.1, omega arith, λ z f. f.1)
    go (no ne) w =
        (x ∷ w.0, (w.4 x a.0, w.1), (omega (arith, b.0), w.2), omega (arith, w.3), λ z f. (f.0, w.4 z f.1))

-- so many places below n that differ are at most n
pub fit : (n : ℕ) (xs : List ℕ) → Apart xs → AllBelow n xs → length xs ≤ n
fit zero [] a b = omega arith
fit zero (x ∷ xs) a b = omega (arith, b.0)
fit (suc n) xs a b =
    let w : Without n xs = without n xs a b in
    omega (arith, w.3, fit n w.0 w.1 w.2)

-- a way that comes to no place twice, and is no longer than t
abbrev pub Simple : List Row → ℕ → ℕ → ℕ → Type 0
Simple ds u v t = (hs : List Hop) × Leads ds u hs v × (total hs ≤ t) × Apart (u ∷ tos hs)

-- u is not on the way, or the way goes on from it
pub cut : (ds : List Row) (u x v : ℕ) (hs : List Hop) → Leads ds x hs v → Apart (x ∷ tos hs) → Off u (x ∷ tos hs) ⊎ Simple ds u v (total hs)
cut ds u x v [] l a = go (ℕ_discrete u x)
  where
    go : Dec (u ≡ x) → Off u (x ∷ []) ⊎ Simple ds u v 0
    go (yes e) = inr ([], e ∙ l, omega arith, (tt, tt))
    go (no ne) = inl (ne, tt)
cut ds u x v (h ∷ hs) l a = go (ℕ_discrete u x) (cut ds u h.to v hs l.1 a.1)
  where
    go : Dec (u ≡ x) → (Off u (h.to ∷ tos hs) ⊎ Simple ds u v (total hs)) → Off u (x ∷ h.to ∷ tos hs) ⊎ Simple ds u v (h.length + total hs)
    go (yes e) c =
        inr (subst (λ (y : ℕ). Simple ds y v (h.length + total hs)) (sym e) (h ∷ hs, l, omega arith, a))
    go (no ne) (inl f) = inl (ne, f)
    go (no ne) (inr s) = inr (s.0, s.1, omega (arith, s.2), s.3)

-- each way can be made one that comes to no place twice and is no longer
pub simplify : (ds : List Row) (u v : ℕ) (hs : List Hop) → Leads ds u hs v → Simple ds u v (total hs)
simplify ds u v [] l = ([], l, omega arith, (tt, tt))
simplify ds u v (h ∷ hs) l = go (simplify ds h.to v hs l.1)
  where
    last : (s : Simple ds h.to v (total hs)) → (Off u (h.to ∷ tos s.0) ⊎ Simple ds u v (total s.0)) → Simple ds u v (h.length + total hs)
    last s (inl f) = (h ∷ s.0, (l.0, s.1), omega (arith, s.2), (f, s.3))
    last s (inr r) = (r.0, r.1, omega (arith, r.2, s.2), r.3)

    go : Simple ds h.to v (total hs) → Simple ds u v (h.length + total hs)
    go s = last s (cut ds u h.to v s.0 s.1 s.3)

pub total_bound : (n : ℕ) (ds : List Row) (u v : ℕ) (hs : List Hop) → Lawful n ds → Leads ds u hs v → total hs ≤ 1000000 * length (tos hs)
total_bound n ds u v [] l k = omega arith
total_bound n ds u v (h ∷ hs) l k = omega (arith, no_longer n ds u h.to h.length l k.0, total_bound n ds h.to v hs l k.1)

-- the places of a way are below n
pub all_in : (n : ℕ) (ds : List Row) (u v : ℕ) (hs : List Hop) → Lawful n ds → Leads ds u hs v → u < n → AllBelow n (u ∷ tos hs)
all_in n ds u v [] l k h = (h, tt)
all_in n ds u v (x ∷ hs) l k h = (h, all_in n ds x.to v hs l k.1 (to_in n ds u x.to x.length l k.0))

-- such a way has fewer hops than there are places
pub few_hops : (n : ℕ) (ds : List Row) (u v t : ℕ) → Lawful n ds → u < n → (s : Simple ds u v t) → length (tos s.0) + 1 ≤ n
few_hops n ds u v t l h s =
    let room : length (u ∷ tos s.0) ≤ n = fit n (u ∷ tos s.0) s.3 (all_in n ds u v s.0 l s.1 h) in
    omega arith

-- where every way from u is longer than the one from x, that one does not come to u
passes : (ds : List Row) (u x v : ℕ) (hs : List Hop) → Leads ds x hs v → ((ks : List Hop) → Leads ds u ks v → total hs < total ks) → Off u (x ∷ tos hs)
passes ds u x v [] l b = (λ e. let r : 0 < 0 = b [] (e ∙ l) in omega arith, tt)
passes ds u x v (h ∷ hs) l b = (
  λ e. let r : total (h ∷ hs) < total (h ∷ hs) = b (h ∷ hs) (subst (λ (y : ℕ). Leads ds y (h ∷ hs) v) (sym e) l) in omega arith,
  passes ds u h.to v hs l.1 (λ ks m. omega (arith, b ks m)),
)

pub shortest_apart : ShortestApart
shortest_apart n ds u v [] lawful l b = (tt, tt)
shortest_apart n ds u v (h ∷ hs) lawful l b =
    let some : 1 ≤ h.length = some_length n ds u h.to h.length lawful l.0 in (
      passes ds u h.to v hs l.1 (λ ks m. omega (arith, b ks m)),
      shortest_apart n ds h.to v hs lawful l.1 (λ ks m. omega (arith, b (h ∷ ks) (l.0, m))),
    )
