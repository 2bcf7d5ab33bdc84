-- One trunk grows from a place. Assumes nothing.
use Rattle.std.proofs.Common.{◌≡◌, ℕ, Bool, List, [], ◌∷◌, ◌++◌, sym, refl, ap, ◌∙◌, subst, inl, inr, arith}
use Rattle.ways.specs.Nearest.{Near}
use Rattle.ways.specs.declared.row.Row.{Row}
use Rattle.ways.specs.Way.{Hop}
use Rattle.oracle.specs.Meaning.{Meaning, far}
use Rattle.trees.specs.Growth.{laid, held}
use Rattle.trees.specs.Groups.{focus_on}
use Rattle.plan.specs.declared.branch.Branch.{Branch}
use Rattle.plan.specs.Walks.{Walked}
use Rattle.plan.specs.Trunks.{NearTrunk, Holds, Next, Grows, done, more}
use Rattle.plan.proofs.Near.{nearest_unique, true_false}

next_unique : (m : Meaning) (f : ℕ → Bool) (cs : List ℕ) (b c : Branch) → Next m f cs b → Next m f cs c → b ≡ c
next_unique m f cs b c n k =
    let q : Near = record { place = b.to; distance = b.distance } in
    let r : Near = record { place = c.to; distance = c.distance } in
    let u = n.soonest c.from k.chosen k.off r k.near in
    let v = k.soonest b.from n.chosen n.off q n.near in
    let e : b.distance ≡ c.distance = omega (arith, u.0, v.0) in
    let f' : b.from ≡ c.from = omega (arith, u.1 e, v.1 (sym e)) in
    let t = nearest_unique m.count f (far m c.from) q r (subst (λ (y : ℕ). NearTrunk m f y q) f' n.near) k.near in
    λ i. record { from = f' i; to = t.0 i; distance = e i }

-- the rest of a walk is a walk
tail : (rule : ℕ → ℕ → Hop) (f : ℕ → Bool) (t goal : ℕ) (h : Hop) (hs : List Hop) (meet : ℕ) → Walked rule f t goal (h ∷ hs) meet → Walked rule f h.to goal hs meet
tail rule f t goal h hs meet w = record { along = w.along.2; met = w.met; first = λ p o. w.first p (inr o) }

walked_unique : (rule : ℕ → ℕ → Hop) (f : ℕ → Bool) (t goal : ℕ) (hs ks : List Hop) (u v : ℕ) → Walked rule f t goal hs u → Walked rule f t goal ks v → hs ≡ ks
walked_unique rule f t goal [] [] u v w x = refl
walked_unique rule f t goal [] (k ∷ ks) u v w x = absurd (true_false (f t) (ap f w.along ∙ w.met) (x.first t (inl refl)))
walked_unique rule f t goal (h ∷ hs) [] u v w x = absurd (true_false (f t) (ap f x.along ∙ x.met) (w.first t (inl refl)))
walked_unique rule f t goal (h ∷ hs) (k ∷ ks) u v w x =
    let e : h ≡ k = w.along.1 ∙ sym x.along.1 in
    let r : hs ≡ ks = walked_unique rule f h.to goal hs ks u v (tail rule f t goal h hs u w) (subst (λ (y : Hop). Walked rule f y.to goal ks v) (sym e) (tail rule f t goal k ks v x)) in
    ap (λ (y : Hop). y ∷ hs) e ∙ ap (λ (ys : List Hop). k ∷ ys) r

module _ (m : Meaning) (x : ℕ) (cs : List ℕ) where
  held_none : (ds : List Row) (b : Branch) → Holds (focus_on (held x ds)) cs → Next m (focus_on (held x ds)) cs b → ⊥
  held_none ds b h n = true_false (focus_on (held x ds) b.from) (h b.from n.chosen) n.off

  pub grows_unique : (ds es fs : List Row) → Grows m x cs ds es → Grows m x cs ds fs → es ≡ fs
  grows_unique ds es fs (done h e) (done k f) = e ∙ sym f
  grows_unique ds es fs (done h e) (more b hs meet n w g) = absurd (held_none ds b h n)
  grows_unique ds es fs (more b hs meet n w g) (done k f) = absurd (held_none ds b k n)
  grows_unique ds es fs (more b hs meet n w g) (more c ks met k x' g') =
      let e : b ≡ c = next_unique m (focus_on (held x ds)) cs b c n k in
      let r : hs ≡ ks = walked_unique m.rule (focus_on (held x ds)) b.from b.to hs ks meet met w (subst (λ (y : Branch). Walked m.rule (focus_on (held x ds)) y.from y.to ks met) (sym e) x') in
      grows_unique (ds ++ laid b.from hs) es fs g (subst (λ (y : List Hop). Grows m x cs (ds ++ laid b.from y) fs) (sym r) (subst (λ (y : Branch). Grows m x cs (ds ++ laid y.from ks) fs) (sym e) g'))
