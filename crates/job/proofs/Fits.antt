-- The tests of a fitting's places, and what they say. Assumes nothing.
use Rattle.std.proofs.Common.{◌≡◌, ℕ, zero, suc, ◌<◌, ◌≤◌, Bool, true, false, ◌&&◌, ltb, leb, List, [], ◌∷◌, length, get_or, None, sym, refl, ap, ◌∙◌, add-one, arith, length-take}
use Rattle.std.specs.List.{IsAllAdjacentAnswer}
use Rattle.std.proofs.lemmas.Bool.{and_from, le-leb}
use Rattle.ways.specs.declared.few.Few.{Few}
use Rattle.ways.specs.Few.{members}
use Rattle.ways.specs.Places.{AllBelow, outside}
use Rattle.job.specs.Places.{Rises, Fitted, rises, formed, lawful}

rises_so : (p : ℕ) (ps : List ℕ) → rises p ps ≡ true → Rises p ps
rises_so p [] e = tt
rises_so p (q ∷ qs) e = (grind arith, rises_so q qs (grind arith))

rises_check : (p : ℕ) (ps : List ℕ) → Rises p ps → rises p ps ≡ true
rises_check p [] h = refl
rises_check p (q ∷ qs) h = let e = rises_check q qs h.1 in grind arith

inside_so : (n : ℕ) (ps : List ℕ) → outside n ps ≡ None → AllBelow n ps
inside_so n [] e = tt
inside_so n (p ∷ ps) e = (grind arith, inside_so n ps (grind arith))

inside_check : (n : ℕ) (ps : List ℕ) → AllBelow n ps → outside n ps ≡ None
inside_check n [] h = refl
inside_check n (p ∷ ps) h = let e = inside_check n ps h.1 in grind arith

-- places of which each is above the one before
all_rise : (p : ℕ) (ps : List ℕ) → ((k d : ℕ) → k < length ps → true ≡ ltb (get_or (p ∷ ps) k d) (get_or ps k d)) → rises p ps ≡ true
all_rise p [] h = refl
all_rise p (q ∷ qs) h = and_from (ltb p q) (rises q qs) (sym (h 0 0 (omega arith))) (all_rise q qs (λ k d l. h (suc k) d (omega arith)))

-- places of which one is not
one_falls : (k p : ℕ) (ps : List ℕ) → k < length ps → ((d : ℕ) → false ≡ ltb (get_or (p ∷ ps) k d) (get_or ps k d)) → rises p ps ≡ false
one_falls k p [] l h = absurd (omega arith)
one_falls zero p (q ∷ qs) l h = ap (λ (t : Bool). t && rises q qs) (sym (h 0))
one_falls (suc k) p (q ∷ qs) l h = let e = one_falls k q qs (omega arith) h in grind arith

-- 1 to 16 places pass where each is above the one before
pub formed_if : (ps : List ℕ) (r : Bool) → IsAllAdjacentAnswer (λ x y b. b ≡ ltb x y) ps r → 1 ≤ length ps → length ps ≤ 16 → formed ps ≡ r
formed_if [] r h some few = absurd (omega arith)
formed_if (p ∷ ps) true h some few = and_from (leb (length ps) 15) (rises p ps) (le-leb (length ps) 15 (omega arith)) (all_rise p ps next)
  where
    next : (k d : ℕ) → k < length ps → true ≡ ltb (get_or (p ∷ ps) k d) (get_or ps k d)
    next k d l = h k d (omega arith) ∙ ap (λ (j : ℕ). ltb (get_or (p ∷ ps) k d) (get_or (p ∷ ps) j d)) (add-one k)
formed_if (p ∷ ps) false h some few =
    ap (λ (t : Bool). t && rises p ps) (le-leb (length ps) 15 (omega arith))
    ∙ one_falls h.0 p ps (omega (arith, h.1)) (λ d. h.2 d ∙ ap (λ (j : ℕ). ltb (get_or (p ∷ ps) h.0 d) (get_or (p ∷ ps) j d)) (add-one h.0))

-- a fitting has at most 16 places
pub few_members : (f : Few ℕ 16) → length (members f) ≤ 16
few_members f = omega (arith, length-take f.count f.items)

-- more than 16 places do not pass
pub formed_long : (ps : List ℕ) → 16 < length ps → formed ps ≡ false
formed_long [] h = refl
formed_long (p ∷ ps) h = grind arith

-- places that pass the tests are lawful
pub fitted_so : (n : ℕ) (ps : List ℕ) → formed ps ≡ true → outside n ps ≡ None → Fitted n ps
fitted_so n [] e o = absurd cc
fitted_so n (p ∷ ps) e o =
    record { some = omega arith; few = grind arith; rising = rises_so p ps (grind arith); inside = inside_so n (p ∷ ps) o }

-- lawful places pass the tests
pub fitted_checks : (n : ℕ) (ps : List ℕ) → Fitted n ps → (formed ps ≡ true) × (outside n ps ≡ None)
fitted_checks n [] h = absurd (omega (arith, h.some))
fitted_checks n (p ∷ ps) h = let e = rises_check p ps h.rising in (grind (arith, h.few), inside_check n (p ∷ ps) h.inside)

-- the same of both tests in one
pub lawful_fitted : (n : ℕ) (ps : List ℕ) → lawful n ps ≡ true → Fitted n ps
lawful_fitted n ps e = fitted_so n ps (grind arith) (grind arith)
