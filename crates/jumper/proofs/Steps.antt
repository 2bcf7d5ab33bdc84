-- What a jumper answers, from what the oracle below it answers. Assumes nothing.
use Rattle.std.proofs.Common.{◌≡◌, ℕ, ◌<◌, Bool, true, false, eqb, Some, None, Ok, Err, Option, Result, sym, refl, ap, ◌∙◌, subst, arith, eq-eqb, ne_eqb, eqb-true}
use Rattle.ways.specs.Options.{pick, within, lesser, through}
use Rattle.ways.specs.Way.{Hop, LawfulDuct}
use Rattle.oracle.specs.declared.fault.OracleFault.{OracleFault}
use Rattle.oracle.specs.declared.step.Step.{Step}
use Rattle.oracle.specs.declared.step.Step.TheVariants.{Here, Next}
use Rattle.jumper.specs.declared.sums.Sums.{Sums}
use Rattle.ways.specs.declared.row.Row.{Row}
use Rattle.jumper.specs.Crossings.{Summed, chosen}
use Rattle.oracle.specs.Meaning.{Meaning, Sound, far}
use Rattle.oracle.specs.Answers.{Stepped, step_for, step_of}
use Rattle.jumper.specs.Jumped.{duct, crossing, enter, rule_with, with_duct}
use Rattle.jumper.specs.Sounds.{three_sums}

pub pick_at : {A : Type 0} (x y : ℕ) (p q : A) → x ≡ y → pick (eqb x y) p q ≡ p
pick_at x y p q e = ap (λ (c : Bool). pick c p q) (eq-eqb x y e)

pub pick_off : {A : Type 0} (x y : ℕ) (p q : A) → (x ≡ y → ⊥) → pick (eqb x y) p q ≡ q
pick_off x y p q ne = ap (λ (c : Bool). pick c p q) (ne_eqb x y ne)

-- a step below that is the same is the answer
pub stepped_as : (k m : Meaning) (u v x : ℕ) (r : Result Step OracleFault) → k.count ≡ m.count → u < m.count → v < m.count → x < m.count → step_of k u v ≡ step_of m u x → Stepped m u x r → Stepped k u v r
stepped_as k m u v x (Ok t) c iu iv ix e h = (omega arith, omega arith, h.2 ∙ sym e)
stepped_as k m u v x (Err f) c iu iv ix e h = absurd (omega (arith, h.0 iu))

-- what is not within another length is longer than some
some_beyond : (p q : Option ℕ) → within p q ≡ false → (d : ℕ) × (q ≡ Some d)
some_beyond p None e = cc
some_beyond p (Some d) e = (d, refl)

module _ (m : Meaning) (a b len : ℕ) (s : Sound m) (l : LawfulDuct m.count (duct a b len)) (u v : ℕ) (iu : u < m.count) (iv : v < m.count) where
  abbrev new : Meaning
  new = with_duct m a b len

  step_at : (o : Option ℕ) (h : Hop) → far new u v ≡ o → rule_with m a b len u v ≡ h → step_of new u v ≡ pick (eqb u v) Here (step_for o h)
  step_at o h p q = ap (λ (x : Option ℕ). pick (eqb u v) Here (step_for x (rule_with m a b len u v))) p ∙ ap (λ (x : Hop). pick (eqb u v) Here (step_for o x)) q

  -- without the duct
  pub step_stays : within (far m u v) (lesser (crossing m a b len u v) (crossing m b a len u v)) ≡ true → step_of new u v ≡ step_of m u v
  step_stays e =
      let rest : Hop = pick (within (crossing m a b len u v) (crossing m b a len u v)) (enter m a b len u) (enter m b a len u) in
      let over : Option ℕ = lesser (crossing m a b len u v) (crossing m b a len u v) in
      step_at (far m u v) (m.rule u v)
      (three_sums m a b len u v s l iu iv ∙ ap (λ (c : Bool). pick c (far m u v) over) e)
      (ap (λ (c : Bool). pick c (m.rule u v) rest) e)

  -- over the duct, from x to y
  step_over : (x y d : ℕ) → (u ≡ v → ⊥) → far new u v ≡ crossing m x y len u v → rule_with m a b len u v ≡ enter m x y len u → crossing m x y len u v ≡ Some d → step_of new u v ≡ pick (eqb u x) (Next y len) (step_of m u x)
  step_over x y d ne p q e = step_at (crossing m x y len u v) (enter m x y len u) p q ∙ go (eqb u v) refl (eqb u x) (far m u x) (far m y v) e
    where
      go : (t : Bool) → eqb u v ≡ t → (c : Bool) (o r : Option ℕ) → through o len r ≡ Some d → pick t Here (step_for (through o len r) (pick c (record { to = y; length = len }) (m.rule u x))) ≡ pick c (Next y len) (pick c Here (step_for o (m.rule u x)))
      go true f c o r k = absurd (ne (eqb-true u v f))
      go false f c None r k = cc
      go false f c (Some n) None k = cc
      go false f true (Some n) (Some w) k = refl
      go false f false (Some n) (Some w) k = refl

  pub step_crosses : (k : Row) → (u ≡ v → ⊥) → within (far m u v) (lesser (crossing m a b len u v) (crossing m b a len u v)) ≡ false → k ≡ pick (within (crossing m a b len u v) (crossing m b a len u v)) (duct a b len) (duct b a len) → (k.first < m.count) × (step_of new u v ≡ pick (eqb u k.first) (Next k.second k.length) (step_of m u k.first))
  step_crosses k ne e f = go (within there back) refl
    where
      there : Option ℕ
      there = crossing m a b len u v

      back : Option ℕ
      back = crossing m b a len u v

      over : Option ℕ
      over = lesser there back

      rest : Hop
      rest = pick (within there back) (enter m a b len u) (enter m b a len u)

      far_over : far new u v ≡ over
      far_over = three_sums m a b len u v s l iu iv ∙ ap (λ (c : Bool). pick c (far m u v) over) e

      rule_over : rule_with m a b len u v ≡ rest
      rule_over = ap (λ (c : Bool). pick c (m.rule u v) rest) e

      go : (c : Bool) → within there back ≡ c → (k.first < m.count) × (step_of new u v ≡ pick (eqb u k.first) (Next k.second k.length) (step_of m u k.first))
      go true q =
          let d = some_beyond (far m u v) over e in
          let is : k ≡ duct a b len = f ∙ ap (λ (c : Bool). pick c (duct a b len) (duct b a len)) q in
          let way : over ≡ there = ap (λ (c : Bool). pick c there back) q in
          subst (λ (x : Row). (x.first < m.count) × (step_of new u v ≡ pick (eqb u x.first) (Next x.second x.length) (step_of m u x.first))) (sym is)
          (l.first_in, step_over a b d.0 ne (far_over ∙ way) (rule_over ∙ ap (λ (c : Bool). pick c (enter m a b len u) (enter m b a len u)) q) (sym way ∙ d.1))
      go false q =
          let d = some_beyond (far m u v) over e in
          let is : k ≡ duct b a len = f ∙ ap (λ (c : Bool). pick c (duct a b len) (duct b a len)) q in
          let way : over ≡ back = ap (λ (c : Bool). pick c there back) q in
          subst (λ (x : Row). (x.first < m.count) × (step_of new u v ≡ pick (eqb u x.first) (Next x.second x.length) (step_of m u x.first))) (sym is)
          (l.second_in, step_over b a d.0 ne (far_over ∙ way) (rule_over ∙ ap (λ (c : Bool). pick c (enter m a b len u) (enter m b a len u)) q) (sym way ∙ d.1))

abbrev over : Meaning → Row → Meaning
over m d = with_duct m d.first d.second d.length

-- where no way over the duct is shorter, the step below is the answer
pub steps_below : (m : Meaning) (d : Row) (u v : ℕ) (t : Sums) (r : Result Step OracleFault) → Sound m → LawfulDuct m.count d → Summed m d u v (Ok t) → within t.direct (lesser t.there t.back) ≡ true → Stepped m u v r → Stepped (over m d) u v r
steps_below m d u v t r s l h e b =
    stepped_as (over m d) m u v v r refl h.0 h.1 h.1 (step_stays m d.first d.second d.length s l u v h.0 h.1 (cc)) b

-- else it leads over the duct from its near mark
pub steps_over : (m : Meaning) (d : Row) (u v : ℕ) (t : Sums) (k : Row) → Sound m → LawfulDuct m.count d → Summed m d u v (Ok t) → (u ≡ v → ⊥) → within t.direct (lesser t.there t.back) ≡ false → k ≡ chosen d t → u ≡ k.first → Stepped (over m d) u v (Ok (Next k.second k.length))
steps_over m d u v t k s l h ne e f at =
    let c = step_crosses m d.first d.second d.length s l u v h.0 h.1 k ne (cc) (cc) in
    (h.0, h.1, sym (c.1 ∙ pick_at u k.first _ _ at))

-- and goes towards that mark from elsewhere
pub steps_near : (m : Meaning) (d : Row) (u v : ℕ) (t : Sums) (k : Row) (r : Result Step OracleFault) → Sound m → LawfulDuct m.count d → Summed m d u v (Ok t) → (u ≡ v → ⊥) → within t.direct (lesser t.there t.back) ≡ false → k ≡ chosen d t → (u ≡ k.first → ⊥) → Stepped m u k.first r → Stepped (over m d) u v r
steps_near m d u v t k r s l h ne e f off b =
    let c = step_crosses m d.first d.second d.length s l u v h.0 h.1 k ne (cc) (cc) in
    stepped_as (over m d) m u v k.first r refl h.0 h.1 c.0 (c.1 ∙ pick_off u k.first _ _ off) b
