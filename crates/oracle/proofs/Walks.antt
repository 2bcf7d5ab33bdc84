-- Following the way rule gives a way as long as the distance. Assumes nothing.
use Rattle.std.proofs.Common.{◌≡◌, ℕ, zero, suc, ◌+◌, ◌<◌, ◌≤◌, Bool, true, false, eqb, ◌⊎◌, List, [], ◌∷◌, ◌++◌, Some, None, Option, unwrap_or, sym, refl, ap, ◌∙◌, subst, inl, inr, arith, eqb-true}
use borrow.Author.Tests.{eqb-false}
use Rattle.ways.specs.Options.{pick}
use Rattle.ways.specs.Way.{Hop, Leads, total}
use Rattle.ways.proofs.Graph.{leads_append, total_append}
use Rattle.ways.proofs.Metric.{far_self, same}
use Rattle.oracle.specs.declared.walk.Leg.{Leg}
use Rattle.oracle.specs.declared.step.Step.TheVariants.{Here}
use Rattle.oracle.specs.Meaning.{Meaning, Sound, far}
use Rattle.oracle.specs.Answers.{step_of, step_for}
use Rattle.oracle.specs.Laws.{RuleLeads}
use Rattle.oracle.specs.Walked.{leg_of, hop_of, Along, Walk}
use Rattle.oracle.proofs.Meanings.{Onward, rule_step}

along_append : (rule : ℕ → ℕ → Hop) (goal t at to : ℕ) (hs ks : List Hop) → Along rule goal t hs at → Along rule goal at ks to → Along rule goal t (hs ++ ks) to
along_append rule goal t at to [] ks a b = subst (λ (x : ℕ). Along rule goal x ks to) (sym a) b
along_append rule goal t at to (h ∷ hs) ks (ne, q, a) b = (ne, q, along_append rule goal h.to at to hs ks a b)

-- the walk so far: to the place at, with the rest of the distance to go
pub record Walking (m : Meaning) (u v : ℕ) (hs : List Hop) (at : ℕ) : Type 0 where
  pub leads : Leads m.ducts u hs at
  pub along : Along m.rule v u hs at
  pub inside : at < m.count
  pub rest : (e : ℕ) × (far m at v ≡ Some e) × (far m u v ≡ Some (total hs + e))

pub begins : (m : Meaning) (u v d : ℕ) → u < m.count → far m u v ≡ Some d → Walking m u v [] u
begins m u v d iu e = record { leads = refl; along = refl; inside = iu; rest = (d, e, e ∙ ap Some (omega arith)) }

-- the leg that the rule names
abbrev named : Meaning → ℕ → ℕ → Leg
named m at v = record { place = (m.rule at v).to; length = (m.rule at v).length }

-- no leg at the goal, and elsewhere the rule's
abbrev Told : Meaning → ℕ → ℕ → Option Leg → Type 0
Told m at v o = ((at ≡ v) × (o ≡ None)) ⊎ ((at ≡ v → ⊥) × (o ≡ Some (named m at v)))

told : (m : Meaning) (at v d : ℕ) (o : Option Leg) → far m at v ≡ Some d → leg_of (step_of m at v) ≡ o → Told m at v o
told m at v d o e q = go (eqb at v) refl
  where
    at_test : (c : Bool) → eqb at v ≡ c → o ≡ leg_of (pick c Here (step_for (far m at v) (m.rule at v)))
    at_test c f = sym q ∙ ap (λ (x : Bool). leg_of (pick x Here (step_for (far m at v) (m.rule at v)))) f

    go : (c : Bool) → eqb at v ≡ c → Told m at v o
    go true f = inl (eqb-true at v f, at_test true f)
    go false f = inr (eqb-false at v f, at_test false f ∙ ap (λ (x : Option ℕ). leg_of (step_for x (m.rule at v))) e)

-- one leg more
abbrev pub Farther : Meaning → ℕ → ℕ → List Hop → ℕ → Leg → Type 0
Farther m u v hs at l = Walking m u v (hs ++ (hop_of l ∷ [])) l.place × (unwrap_or (far m l.place v) 0 < unwrap_or (far m at v) 0)

pub goes_on : (m : Meaning) (u v at : ℕ) (hs : List Hop) (l : Leg) → Sound m → v < m.count → Walking m u v hs at → leg_of (step_of m at v) ≡ Some l → Farther m u v hs at l
goes_on m u v at hs l s iv w q = go (told m at v w.rest.0 (Some l) w.rest.1 q)
  where
    go : Told m at v (Some l) → Farther m u v hs at l
    go (inl (e, f)) = absurd (let z : ◌≡◌ {A = ℕ} 0 1 = cc in omega arith)
    go (inr (ne, f)) =
        let is : l ≡ named m at v = cc in
        let h : Hop = m.rule at v in
        let r : Onward m at v w.rest.0 h = rule_step m at v w.rest.0 s w.inside iv ne w.rest.1 in
        let d : ℕ = w.rest.0 in
        let e : ℕ = r.3.0 in
        let sum : total (hs ++ (h ∷ [])) + e ≡ total hs + d = omega (arith, total_append hs (h ∷ []), r.3.2) in
        subst (Farther m u v hs at) (sym is) (
          record {
            leads = leads_append m.ducts u at h.to hs (h ∷ []) w.leads (r.0, refl);
            along = along_append m.rule v u at h.to hs (h ∷ []) w.along (ne, refl, refl);
            inside = r.1;
            rest = (e, r.3.1, w.rest.2 ∙ ap Some (sym sum));
          },
          subst (λ (o : Option ℕ). unwrap_or o 0 < unwrap_or (far m at v) 0) (sym r.3.1)
              (subst (λ (o : Option ℕ). e < unwrap_or o 0) (sym w.rest.1) (omega (arith, r.2, r.3.2))),
        )

-- at the end of the steps the walk is whole
pub arrives : (m : Meaning) (u v at : ℕ) (hs : List Hop) → Sound m → v < m.count → Walking m u v hs at → leg_of (step_of m at v) ≡ None → Walk m u v hs
arrives m u v at hs s iv w q = go (told m at v w.rest.0 None w.rest.1 q)
  where
    go : Told m at v None → Walk m u v hs
    go (inr (ne, f)) = absurd (let z : ◌≡◌ {A = ℕ} 0 1 = cc in omega arith)
    go (inl (e, f)) =
        let zero_left : far m at v ≡ Some 0 = subst (λ (x : ℕ). far m x v ≡ Some 0) (sym e) (far_self m.count m.ducts s.lawful v iv) in
        let none : w.rest.0 ≡ 0 = same {a = w.rest.0} w.rest.1 zero_left in
        record {
          leads = subst (λ (x : ℕ). Leads m.ducts u hs x) e w.leads;
          shortest = w.rest.2 ∙ ap Some (omega arith);
          along = subst (λ (x : ℕ). Along m.rule v u hs x) e w.along;
        }

-- by induction on the distance that is left, the rule leads to the goal
leads_in : (k : ℕ) (m : Meaning) (u v : ℕ) → Sound m → v < m.count → (at : ℕ) (hs : List Hop) → Walking m u v hs at → unwrap_or (far m at v) 0 ≤ k → (ks : List Hop) × Walk m u v ks
leads_in zero m u v s iv at hs w b = go (leg_of (step_of m at v)) refl
  where
    go : (o : Option Leg) → leg_of (step_of m at v) ≡ o → (ks : List Hop) × Walk m u v ks
    go None q = (hs, arrives m u v at hs s iv w q)
    go (Some l) q = absurd (omega (arith, (goes_on m u v at hs l s iv w q).1))
leads_in (suc k) m u v s iv at hs w b = go (leg_of (step_of m at v)) refl (leads_in k m u v s iv)
  where
    go : (o : Option Leg) → leg_of (step_of m at v) ≡ o → ((x : ℕ) (ks : List Hop) → Walking m u v ks x → unwrap_or (far m x v) 0 ≤ k → (ks : List Hop) × Walk m u v ks) → (ks : List Hop) × Walk m u v ks
    go None q on = (hs, arrives m u v at hs s iv w q)
    go (Some l) q on =
        let f : Farther m u v hs at l = goes_on m u v at hs l s iv w q in
        on l.place (hs ++ (hop_of l ∷ [])) f.0 (omega (arith, f.1))

pub rule_leads : RuleLeads
rule_leads m u v d s iu iv e = leads_in (unwrap_or (far m u v) 0) m u v s iv u [] (begins m u v d iu e) (omega arith)
