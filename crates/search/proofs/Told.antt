-- What the plain oracle tells, from the records of a search towards the goal. Assumes nothing.
use Rattle.std.proofs.Common.{◌≡◌, ℕ, ◌*◌, ◌<◌, ◌≤◌, Bool, true, false, ltb, leb, List, length, get_or, Some, None, Option, sym, refl, ap, ◌∙◌, subst, arith, ltb-true, ne_eqb, leb-true}
use mathlib.Core.Path.{fun_ext}
use native.Mathlib.Decide.{dec_le}
use Rattle.std.proofs.lemmas.Bool.{both_ways}
use Rattle.std.proofs.lemmas.List.{get_or_read}
use Rattle.std.proofs.ByRecursion.{All-from_get_or, All-get_or}
use Rattle.ways.specs.declared.row.Row.{Row}
use Rattle.ways.specs.Way.{Joined, Lawful}
use Rattle.ways.specs.Options.{pick, plus}
use Rattle.ways.specs.Nearest.{Near}
use Rattle.ways.specs.Distance.{distance}
use Rattle.ways.specs.Nearest.{Nearest}
use Rattle.ways.proofs.Graph.{to_in}
use Rattle.ways.proofs.Metric.{distance_symmetric}
use Rattle.frame.specs.declared.arc.Arc.{Arc}
use Rattle.frame.specs.Fans.{arc_at, no_arc}
use Rattle.frame.specs.Neighbours.{Neighbours}
use Rattle.oracle.specs.declared.step.Step.TheVariants.{Here, NoWay, Next}
use Rattle.oracle.specs.Meaning.{Meaning, far}
use Rattle.oracle.specs.Answers.{step_for, step_of}
use Rattle.search.specs.declared.record.Record.{Record}
use Rattle.search.specs.State.{blank, known, lit}
use Rattle.search.specs.Plain.{alike, onward, plain_rule, nowhere, enough, plain_meaning}
use Rattle.search.specs.Scan.{leads_on, Chosen}
use Rattle.search.specs.Rules.{Least, least_once, rule_least}

-- the frame as an oracle's meaning
abbrev pub framed : ℕ → List Row → Meaning
framed n ds = record { count = n; ducts = ds; rule = plain_rule n ds }

-- a record that is read tells what is known of its place
pub known_read : (rs : List Record) (u : ℕ) (r : Record) {o : Option ℕ} → u < length rs → r ≡ get_or rs u r → r.distance ≡ o → known rs u ≡ o
known_read rs u r inside read tells = sym (ap (λ (x : Record). x.distance) (get_or_read rs u r inside read blank)) ∙ tells

-- what enough memory is
pub enough_records : (n m k r : ℕ) → enough n m k r ≡ true → n ≤ k
enough_records n m k r h = go (leb n k) refl h
  where
    go : (b : Bool) → leb n k ≡ b → pick b (ltb (2 * m) r) false ≡ true → n ≤ k
    go true e x = leb-true n k e
    go false e x = absurd (both_ways false refl x)

pub enough_room : (n m k r : ℕ) → enough n m k r ≡ true → 2 * m < r
enough_room n m k r h = go (leb n k) h
  where
    go : (b : Bool) → pick b (ltb (2 * m) r) false ≡ true → 2 * m < r
    go true x = ltb-true (2 * m) r x
    go false x = absurd (both_ways false refl x)

-- with enough memory the oracle means the frame
pub means_frame : (n : ℕ) (ds : List Row) (k r : ℕ) → enough n (length ds) k r ≡ true → plain_meaning n ds k r ≡ framed n ds
means_frame n ds k r e = ap (λ (b : Bool). pick b (framed n ds) nowhere) e

module _ (n : ℕ) (ds : List Row) (lawful : Lawful n ds) (u v : ℕ) (iu : u < n) (iv : v < n) (ne : u ≡ v → ⊥) (rs : List Record)
    (found : (x : ℕ) → known rs x ≡ distance n ds v x) (ls : List Arc) (near : Neighbours ds u ls) where
  there : (x : ℕ) → x < n → known rs x ≡ distance n ds x v
  there x l = found x ∙ distance_symmetric n ds v x lawful iv l

  arc_joined : (i : ℕ) → i < length ls → Joined ds u (arc_at ls i).to (arc_at ls i).length
  arc_joined i l = All-get_or (λ a. Joined ds u a.to a.length) ls i no_arc l near.joined

  -- the other ends are places
  pub ends_within : (i : ℕ) → i < length ls → (arc_at ls i).to < n
  ends_within i l = to_in n ds u (arc_at ls i).to (arc_at ls i).length lawful (arc_joined i l)

  -- the test of the code is that of the rule
  same_test : (d i : ℕ) → distance n ds u v ≡ Some d → i < length ls → leads_on rs ls d i ≡ onward (λ x. distance n ds x v) u (arc_at ls i).to (arc_at ls i).length
  same_test d i e l = λ k. alike (plus (Some (arc_at ls i).length) (there (arc_at ls i).to (ends_within i l) k)) (sym e k)

  chosen_least : (d : ℕ) (a : Arc) → distance n ds u v ≡ Some d → Chosen rs ls d (Some a) → Least (λ x. distance n ds x v) ds u (Some (record { to = a.to; length = a.length }))
  chosen_least d a e (k, l, is, passed, on) = (
    subst (λ (b : Arc). Joined ds u b.to b.length) (sym is) (arc_joined k l),
    subst (λ (b : Arc). onward F u b.to b.length ≡ true) (sym is) (sym (same_test d k e l) ∙ on),
    least,
  )
    where
      F : ℕ → Option ℕ
      F x = distance n ds x v

      least : (w len : ℕ) → Joined ds u w len → onward F u w len ≡ true → a.to ≤ w
      least w len j o = by (dec_le a.to w)
        where
          moved : (i : ℕ) → (arc_at ls i).to ≡ w → (arc_at ls i).length ≡ len → onward F u (arc_at ls i).to (arc_at ls i).length ≡ true
          moved i p q = subst (λ (t : ℕ). onward F u t (arc_at ls i).length ≡ true) (sym p) (subst (λ (t : ℕ). onward F u w t ≡ true) (sym q) o)

          off : w < a.to → (i : ℕ) → i < length ls → (arc_at ls i).to ≡ w → (arc_at ls i).length ≡ len → Dec (k ≤ i) → ⊥
          off lt i m p q (yes le) = let f = ap (λ (b : Arc). b.to) is in omega (arith, near.rising k i no_arc le m)
          off lt i m p q (no gt) = passed i (omega arith) (same_test d i e m ∙ moved i p q)

          by : Dec (a.to ≤ w) → a.to ≤ w
          by (yes le) = le
          by (no gt) = absurd (near.whole w len j (All-from_get_or (λ b. b.to ≡ w → b.length ≡ len → ⊥) ls no_arc (λ i m p q. off (omega arith) i m p q (dec_le k i))))

  pub tells_next : (d : ℕ) (a : Arc) → known rs u ≡ Some d → Chosen rs ls d (Some a) → Next a.to a.length ≡ step_of (framed n ds) u v
  tells_next d a e h =
      let is : distance n ds u v ≡ Some d = sym (there u iu) ∙ e in
      let same = least_once (λ x. distance n ds x v) ds u (record { to = a.to; length = a.length }) (plain_rule n ds u v) (chosen_least d a is h) (rule_least n ds u v d lawful iu iv ne is) in
      sym ((λ i. pick (ne_eqb u v ne i) Here (step_for (is i) (plain_rule n ds u v))) ∙ (λ i. Next (sym same.0 i) (sym same.1 i)))

  pub tells_none : (d : ℕ) → known rs u ≡ Some d → Chosen rs ls d None → ⊥
  tells_none d e h =
      let is : distance n ds u v ≡ Some d = sym (there u iu) ∙ e in
      let least = rule_least n ds u v d lawful iu iv ne is in
      let r = plain_rule n ds u v in
      near.whole r.to r.length least.0 (All-from_get_or (λ b. b.to ≡ r.to → b.length ≡ r.length → ⊥) ls no_arc (λ i m p q.
      h i m (same_test d i is m ∙ subst (λ (t : ℕ). onward (λ x. distance n ds x v) u t (arc_at ls i).length ≡ true) (sym p) (subst (λ (t : ℕ). onward (λ x. distance n ds x v) u r.to t ≡ true) (sym q) least.1))))

pub tells_no_way : (n : ℕ) (ds : List Row) (u v : ℕ) → Lawful n ds → u < n → v < n → (u ≡ v → ⊥) → distance n ds v u ≡ None → NoWay ≡ step_of (framed n ds) u v
tells_no_way n ds u v lawful iu iv ne e =
    let is : distance n ds u v ≡ None = distance_symmetric n ds u v lawful iu iv ∙ e in
    sym (λ i. pick (ne_eqb u v ne i) Here (step_for (is i) (plain_rule n ds u v)))

-- where the records tell the distances from v, the nearest of those in focus is the nearest
pub tells_nearest : (n : ℕ) (ds : List Row) (k r v : ℕ) (rs : List Record) (focus : ℕ → Bool) (p : Option Near) → enough n (length ds) k r ≡ true → ((x : ℕ) → known rs x ≡ distance n ds v x) → length rs ≡ n → (λ (x : ℕ). lit rs x) ≡ focus → Nearest (length rs) (lit rs) (known rs) p → Nearest (plain_meaning n ds k r).count focus (far (plain_meaning n ds k r) v) p
tells_nearest n ds k r v rs focus p enough' found long same h =
    subst (λ (m : Meaning). Nearest m.count focus (far m v) p) (sym (means_frame n ds k r enough'))
    (subst (λ (F : ℕ → Option ℕ). Nearest n focus F p) (fun_ext found)
    (subst (λ (g : ℕ → Bool). Nearest n g (known rs) p) same (subst (λ (l : ℕ). Nearest l (lit rs) (known rs) p) long h)))
