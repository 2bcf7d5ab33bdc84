-- The plain way rule leads to the goal, and a scan of the neighbours by rising number finds it. Assumes nothing.
use Rattle.std.specs.Prelude.{◌≡◌, ℕ, ◌+◌, ◌<◌, ◌≤◌, Bool, true, false, List, [], ◌∷◌, Some, None, Option, ◌==◌, ◌≢◌, nat_le, refl}
use Rattle.std.proofs.Common.{sym, ap, subst, ◌∙◌, inl, inr, arith, eqb-true, leb-true, leb-false, eq-eqb}
use Rattle.std.proofs.lemmas.Bool.{both_ways, eqb-false}
use Rattle.ways.specs.declared.row.Row.{Row}
use Rattle.ways.specs.Way.{Hop, Joins, Joined, Lawful}
use Rattle.ways.specs.Options.{pick, plus}
use Rattle.ways.specs.Distance.{distance}
use Rattle.ways.proofs.Metric.{far_first}
use Rattle.oracle.specs.Meaning.{Meaning, Sound, Towards}
use Rattle.search.specs.Plain.{alike, onward, leading, smaller, smallest, hop_or, plain_rule, nowhere, enough, plain_meaning}

-- what two lengths that are alike are
alike_both : (p q : Option ℕ) → alike p q ≡ true → (d : ℕ) × (p ≡ Some d) × (q ≡ Some d)
alike_both None q h = absurd (both_ways false refl h)
alike_both (Some d) None h = absurd (both_ways false refl h)
alike_both (Some d) (Some e) h = (d, refl, ap Some (sym (eqb-true d e h)))

pub alike_from : (d : ℕ) (p q : Option ℕ) → p ≡ Some d → q ≡ Some d → alike p q ≡ true
alike_from d p q e f = (λ i. alike (e i) (f i)) ∙ eq-eqb d d refl

-- the rest of the way, and the sum
pub onward_sum : (F : ℕ → Option ℕ) (u w len : ℕ) → onward F u w len ≡ true → (e : ℕ) × (F w ≡ Some e) × (F u ≡ Some (len + e))
onward_sum F u w len h = go (F w) refl (alike_both (plus (Some len) (F w)) (F u) h)
  where
    go : (o : Option ℕ) → F w ≡ o → ((d : ℕ) × (plus (Some len) (F w) ≡ Some d) × (F u ≡ Some d)) → (e : ℕ) × (F w ≡ Some e) × (F u ≡ Some (len + e))
    go None e (d, p, q) =
        let z : None ≡ Some d = ap (plus (Some len)) (sym e) ∙ p in
        let y : ◌≡◌ {A = ℕ} 0 1 = cc in absurd (omega arith)
    go (Some x) e (d, p, q) = (x, e, q ∙ sym p ∙ ap (plus (Some len)) e)

-- the hop goes by a duct of u that begins a shortest way, and no such duct leads to a smaller place; none where no duct does
abbrev pub Least : (ℕ → Option ℕ) → List Row → ℕ → Option Hop → Type 0
Least F ds u None = (w len : ℕ) → Joined ds u w len → onward F u w len ≢ true
Least F ds u (Some h) =
    Joined ds u h.to h.length × (onward F u h.to h.length ≡ true) × ((w len : ℕ) → Joined ds u w len → onward F u w len ≡ true → h.to ≤ w)

-- one end of a duct
abbrev At : (ℕ → Option ℕ) → ℕ → ℕ → ℕ → ℕ → Option Hop → Type 0
At F a b len u None = a ≡ u → onward F u b len ≢ true
At F a b len u (Some h) = (a ≡ u) × (h.to ≡ b) × (h.length ≡ len) × (onward F u b len ≡ true)

at_end : (F : ℕ → Option ℕ) (a b len u : ℕ) → At F a b len u (leading F a b len u)
at_end F a b len u = go (a == u) refl (onward F u b len) refl
  where
    go : (x : Bool) → (a == u) ≡ x → (y : Bool) → onward F u b len ≡ y → At F a b len u (pick x (pick y (Some (record { to = b; length = len })) None) None)
    go true p true q = (eqb-true a u p, refl, refl, q)
    go true p false q = λ e h. absurd (both_ways (onward F u b len) q h)
    go false p y q = λ e h. eqb-false a u p e

joined_by : (d : Row) (u w len : ℕ) → Joins d u w len → Joined (d ∷ []) u w len
joined_by d u w len j = inl j

-- both ends of one duct
least_one : (F : ℕ → Option ℕ) (d : Row) (u : ℕ) (p q : Option Hop) → At F d.first d.second d.length u p → At F d.second d.first d.length u q → Least F (d ∷ []) u (smaller p q)
least_one F d u None None a b = none
  where
    none : (w len : ℕ) → Joined (d ∷ []) u w len → onward F u w len ≢ true
    none w len (inl (e, inl (x, y))) h = a x (subst (λ (k : ℕ). onward F u d.second k ≡ true) (sym e) (subst (λ (k : ℕ). onward F u k len ≡ true) (sym y) h))
    none w len (inl (e, inr (x, y))) h = b y (subst (λ (k : ℕ). onward F u d.first k ≡ true) (sym e) (subst (λ (k : ℕ). onward F u k len ≡ true) (sym x) h))
    none w len (inr j) h = j
least_one F d u (Some h) None a b = (
  inl (sym a.2, inl (a.0, sym a.1)),
  subst (λ (k : ℕ). onward F u k h.length ≡ true) (sym a.1) (subst (λ (k : ℕ). onward F u d.second k ≡ true) (sym a.2) a.3),
  all,
)
  where
    all : (w len : ℕ) → Joined (d ∷ []) u w len → onward F u w len ≡ true → h.to ≤ w
    all w len (inl (e, inl (x, y))) g = omega (arith, a.1)
    all w len (inl (e, inr (x, y))) g = absurd (b y (subst (λ (k : ℕ). onward F u d.first k ≡ true) (sym e) (subst (λ (k : ℕ). onward F u k len ≡ true) (sym x) g)))
    all w len (inr j) g = absurd j
least_one F d u None (Some h) a b = (
  inl (sym b.2, inr (sym b.1, b.0)),
  subst (λ (k : ℕ). onward F u k h.length ≡ true) (sym b.1) (subst (λ (k : ℕ). onward F u d.first k ≡ true) (sym b.2) b.3),
  all,
)
  where
    all : (w len : ℕ) → Joined (d ∷ []) u w len → onward F u w len ≡ true → h.to ≤ w
    all w len (inl (e, inl (x, y))) g = absurd (a x (subst (λ (k : ℕ). onward F u d.second k ≡ true) (sym e) (subst (λ (k : ℕ). onward F u k len ≡ true) (sym y) g)))
    all w len (inl (e, inr (x, y))) g = omega (arith, b.1)
    all w len (inr j) g = absurd j
least_one F d u (Some h) (Some k) a b = go (nat_le h.to k.to) refl
  where
    go : (x : Bool) → nat_le h.to k.to ≡ x → Least F (d ∷ []) u (pick x (Some h) (Some k))
    go true e = (
      inl (sym a.2, inl (a.0, sym a.1)),
      subst (λ (z : ℕ). onward F u z h.length ≡ true) (sym a.1) (subst (λ (z : ℕ). onward F u d.second z ≡ true) (sym a.2) a.3),
      all,
    )
      where
        all : (w len : ℕ) → Joined (d ∷ []) u w len → onward F u w len ≡ true → h.to ≤ w
        all w len (inl (f, inl (x, y))) g = omega (arith, a.1)
        all w len (inl (f, inr (x, y))) g = omega (arith, b.1, leb-true h.to k.to e)
        all w len (inr j) g = absurd j
    go false e = (
      inl (sym b.2, inr (sym b.1, b.0)),
      subst (λ (z : ℕ). onward F u z k.length ≡ true) (sym b.1) (subst (λ (z : ℕ). onward F u d.first z ≡ true) (sym b.2) b.3),
      all,
    )
      where
        all : (w len : ℕ) → Joined (d ∷ []) u w len → onward F u w len ≡ true → k.to ≤ w
        all w len (inl (f, inl (x, y))) g = omega (arith, a.1, leb-false h.to k.to e)
        all w len (inl (f, inr (x, y))) g = omega (arith, b.1)
        all w len (inr j) g = absurd j

-- one duct and the others
least_both : (F : ℕ → Option ℕ) (d : Row) (ds : List Row) (u : ℕ) (p q : Option Hop) → Least F (d ∷ []) u p → Least F ds u q → Least F (d ∷ ds) u (smaller p q)
least_both F d ds u None None a b = none
  where
    none : (w len : ℕ) → Joined (d ∷ ds) u w len → onward F u w len ≢ true
    none w len (inl j) h = a w len (inl j) h
    none w len (inr j) h = b w len j h
least_both F d ds u (Some h) None (inl j, o, l) b = (inl j, o, all)
  where
    all : (w len : ℕ) → Joined (d ∷ ds) u w len → onward F u w len ≡ true → h.to ≤ w
    all w len (inl i) g = l w len (inl i) g
    all w len (inr i) g = absurd (b w len i g)
least_both F d ds u (Some h) None (inr j, o, l) b = absurd j
least_both F d ds u None (Some k) a (j, o, l) = (inr j, o, all)
  where
    all : (w len : ℕ) → Joined (d ∷ ds) u w len → onward F u w len ≡ true → k.to ≤ w
    all w len (inl i) g = absurd (a w len (inl i) g)
    all w len (inr i) g = l w len i g
least_both F d ds u (Some h) (Some k) (inr j, o, l) b = absurd j
least_both F d ds u (Some h) (Some k) (inl j, o, l) (i, p, m) = go (nat_le h.to k.to) refl
  where
    go : (x : Bool) → nat_le h.to k.to ≡ x → Least F (d ∷ ds) u (pick x (Some h) (Some k))
    go true e = (inl j, o, all)
      where
        all : (w len : ℕ) → Joined (d ∷ ds) u w len → onward F u w len ≡ true → h.to ≤ w
        all w len (inl x) g = l w len (inl x) g
        all w len (inr x) g = omega (arith, m w len x g, leb-true h.to k.to e)
    go false e = (inr i, p, all)
      where
        all : (w len : ℕ) → Joined (d ∷ ds) u w len → onward F u w len ≡ true → k.to ≤ w
        all w len (inl x) g = omega (arith, l w len (inl x) g, leb-false h.to k.to e)
        all w len (inr x) g = m w len x g

pub smallest_least : (F : ℕ → Option ℕ) (ds : List Row) (u : ℕ) → Least F ds u (smallest F ds u)
smallest_least F [] u = λ w len j h. j
smallest_least F (d ∷ ds) u =
    least_both F d ds u _ (smallest F ds u)
    (least_one F d u (leading F d.first d.second d.length u) (leading F d.second d.first d.length u)
    (at_end F d.first d.second d.length u) (at_end F d.second d.first d.length u))
    (smallest_least F ds u)

-- at most one hop is the least
pub least_once : (F : ℕ → Option ℕ) (ds : List Row) (u : ℕ) (h k : Hop) → Least F ds u (Some h) → Least F ds u (Some k) → (h.to ≡ k.to) × (h.length ≡ k.length)
least_once F ds u h k a b =
    let e : h.to ≡ k.to = omega (arith, a.2 k.to k.length b.0 b.1, b.2 h.to h.length a.0 a.1) in
    let p = onward_sum F u h.to h.length a.1 in
    let q = onward_sum F u k.to k.length b.1 in
    let same_rest : p.0 ≡ q.0 = cc (ap F e) in
    let same_sum : h.length + p.0 ≡ k.length + q.0 = cc in
    (e, omega arith)

-- where there is a way, the plain rule names the least hop
pub rule_least : (n : ℕ) (ds : List Row) (u v d : ℕ) → Lawful n ds → u < n → v < n → (u ≢ v) → distance n ds u v ≡ Some d → Least (λ x. distance n ds x v) ds u (Some (plain_rule n ds u v))
unfolding plain_rule
rule_least n ds u v d l iu iv ne e = go (smallest F ds u) (smallest_least F ds u)
  where
    F : ℕ → Option ℕ
    F x = distance n ds x v

    go : (o : Option Hop) → Least F ds u o → Least F ds u (Some (hop_or o))
    go (Some h) least = least
    go None least =
        let r = far_first n ds l u v d iu iv ne e in
        let w = r.0 in
        let len = r.2.0 in
        let b = r.2.1 in
        absurd (least w len r.2.2 (alike_from d (plus (Some len) (F w)) (F u) (ap (plus (Some len)) r.2.3 ∙ ap Some r.2.4) e))

pub frame_sound : (n : ℕ) (ds : List Row) → n ≤ 4096 → Lawful n ds → Sound (record { count = n; ducts = ds; rule = plain_rule n ds })
frame_sound n ds few l = record { few = few; lawful = l; leads = λ u v iu iv ne. go u v iu iv ne (distance n ds u v) refl }
  where
    m : Meaning
    m = record { count = n; ducts = ds; rule = plain_rule n ds }

    go : (u v : ℕ) → u < n → v < n → (u ≢ v) → (o : Option ℕ) → distance n ds u v ≡ o → Towards m u v (plain_rule n ds u v) o
    go u v iu iv ne None e = tt
    go u v iu iv ne (Some d) e =
        let least = rule_least n ds u v d l iu iv ne e in
        let s = onward_sum (λ x. distance n ds x v) u (plain_rule n ds u v).to (plain_rule n ds u v).length least.1 in
        let sum : (plain_rule n ds u v).length + s.0 ≡ d = cc in
        (least.0, (s.0, s.1, sum))

nowhere_sound : Sound nowhere
nowhere_sound = record { few = omega arith; lawful = tt; leads = λ u v iu iv ne. absurd (omega arith) }

pub plain_sound : (n : ℕ) (ds : List Row) (records room : ℕ) → n ≤ 4096 → Lawful n ds → Sound (plain_meaning n ds records room)
plain_sound n ds records room few l = go (enough n _ records room)
  where
    go : (b : Bool) → Sound (pick b (record { count = n; ducts = ds; rule = plain_rule n ds }) nowhere)
    go true = frame_sound n ds few l
    go false = nowhere_sound
