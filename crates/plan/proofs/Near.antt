-- What is nearest of the places in focus. Assumes nothing.
use Rattle.std.proofs.Common.{◌≡◌, ℕ, ◌<◌, ◌≤◌, Bool, true, false, eqb, List, Some, None, Option, MatchOption, sym, refl, ap, ◌∙◌, subst, arith, eqb-true}
use borrow.Author.Tests.{eqb-false}
use Rattle.ways.specs.Nearest.{Near}
use Rattle.ways.specs.Distance.{IsDistance}
use Rattle.ways.specs.Nearest.{Later, Nearest}
use Rattle.ways.specs.Way.{Hop, Leads, total}
use Rattle.ways.proofs.Metric.{not_both, far_self, far_zero}
use Rattle.ways.proofs.Reaches.{distance_is}
use Rattle.oracle.specs.Meaning.{Meaning, far, Sound}

-- a test that is not true is false
pub not_true : (b : Bool) → (b ≡ true → ⊥) → b ≡ false
not_true true f = absurd (f refl)
not_true false f = refl

pub true_false : (b : Bool) → b ≡ true → b ≡ false → ⊥
true_false b p q = let z : ◌≡◌ {A = ℕ} 0 1 = cc in omega arith

-- there is one nearest place
pub nearest_unique : (n : ℕ) (f : ℕ → Bool) (to : ℕ → Option ℕ) (p q : Near) → Nearest n f to (Some p) → Nearest n f to (Some q) → (p.place ≡ q.place) × (p.distance ≡ q.distance)
nearest_unique n f to p q k l =
    let a : Later p q.place (Some q.distance) = subst (Later p q.place) l.2 (k.3 q.place l.0 l.1) in
    let b : Later q p.place (Some p.distance) = subst (Later q p.place) k.2 (l.3 p.place k.0 k.1) in
    let e : p.distance ≡ q.distance = omega (arith, a.0, b.0) in
    (omega (arith, a.1 e, b.1 (sym e)), e)

module _ (m : Meaning) (s : Sound m) (f : ℕ → Bool) (v : ℕ) (iv : v < m.count) where
  self : far m v v ≡ Some 0
  self = far_self m.count m.ducts s.lawful v iv

  -- a place in focus is at the distance 0 from the focus, and no other
  pub focus_near : (p : Near) → Nearest m.count f (far m v) (Some p) → eqb p.distance 0 ≡ f v
  focus_near p k = go (eqb p.distance 0) refl
    where
      go : (b : Bool) → eqb p.distance 0 ≡ b → b ≡ f v
      go true e =
          let z : p.distance ≡ 0 = eqb-true p.distance 0 e in
          let here : v ≡ p.place = far_zero m.count m.ducts s.lawful v p.place iv k.0 (k.2 ∙ ap Some z) in
          sym (ap f here ∙ k.1)
      go false e =
          sym (not_true (f v) (λ on.
          let l : Later p v (Some 0) = subst (Later p v) self (k.3 v iv on) in
          eqb-false p.distance 0 e (omega (arith, l.0))))

  pub focus_none : Nearest m.count f (far m v) None → false ≡ f v
  focus_none k = sym (not_true (f v) (λ on. not_both (k v iv on) self))

  -- whether the nearest is at the distance 0
  pub focus_asked : (r : Option Near) (b : Bool) → Nearest m.count f (far m v) r → MatchOption r (b ≡ false) (λ p. b ≡ eqb p.distance 0) → b ≡ f v
  focus_asked None b k e = e ∙ focus_none k
  focus_asked (Some p) b k e = e ∙ focus_near p k

  -- no way to a place in focus is shorter than the distance of the nearest
  pub nearest_least : (q : Near) (p : ℕ) → p < m.count → Nearest m.count f (far m v) (Some q) → f p ≡ true → (ks : List Hop) → Leads m.ducts v ks p → q.distance ≤ total ks
  nearest_least q p ip near e ks l = go (far m v p) (distance_is m.count m.ducts v p s.lawful iv) (near.3 p ip e)
    where
      go : (o : Option ℕ) → IsDistance m.ducts v p o → Later q p o → q.distance ≤ total ks
      go None i k = absurd (i ks l)
      go (Some d) i k = omega (arith, k.0, i.1 ks l)
