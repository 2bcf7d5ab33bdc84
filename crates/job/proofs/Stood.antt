-- What stands by the calls one by one. Assumes nothing.
use Rattle.std.proofs.Common.{◌≡◌, ℕ, zero, suc, ◌<◌, ◌≤◌, ◌⊎◌, List, [], ◌∷◌, length, take, IfSome, Some, None, Option, sym, refl, ap, ◌∙◌, subst, inl, inr, add-one, arith}
use Rattle.std.proofs.lemmas.List.{take_more}
use Rattle.std.proofs.lemmas.Bool.{cases_eq}
use Rattle.job.specs.declared.fault.JobFault.{JobFault}
use Rattle.job.specs.Day.{Act, adds, drops, plans, focuses, clears, Standing, nothing, verdict, put, changed, next, after, standing_by}
use Rattle.job.specs.Laws.{at, Accepted, StandsWith, StandingIs, NoneAbove, AllFitted}
use Rattle.job.specs.Places.{Fitted}
use Rattle.job.proofs.Days.{after_append}
use Rattle.job.proofs.Fits.{fitted_so}
use Rattle.job.proofs.Listings.{all_below}
use Rattle.job.proofs.Verdicts.{add_checks}

-- a change is seen at its fitting alone
pub put_at : (on : Standing) (g k : ℕ) (v : Option (List ℕ)) → k ≡ g → put on g v k ≡ v
put_at on g k v e = grind arith

pub put_beside : (on : Standing) (g k : ℕ) (v : Option (List ℕ)) → (k ≡ g → ⊥) → put on g v k ≡ on k
put_beside on g k v ne = grind arith

-- what stands after one call more
pub one_call : (n : ℕ) (calls : List Act) (m : ℕ) → m < length calls → standing_by n (take (suc m) calls) ≡ next n (standing_by n (take m calls)) (at calls m)
one_call n calls m h =
    ap (λ (k : ℕ). standing_by n (take k calls)) (sym (add-one m)) ∙ ap (standing_by n) (take_more calls m plans h) ∙ after_append n nothing (take m calls) (at calls m ∷ [])

-- an accepted add is of a fitting that does not stand
add_absent : (n : ℕ) (on : Standing) (f : ℕ) (ps qs : List ℕ) → verdict n on (adds f ps) ≡ None → on f ≡ Some qs → ⊥
add_absent n on f ps qs v e = let absent = (add_checks n on f ps v).3 in cc

-- what stands still stands after a call that is no accepted drop of it
longer : (n : ℕ) (calls : List Act) (m f : ℕ) (ps : List ℕ) → StandsWith n calls m f ps → (at calls m ≡ drops f → Accepted n calls m → ⊥) → StandsWith n calls (suc m) f ps
longer n calls m f ps s no_drop = record {
  since = s.since;
  within = omega arith;
  added = s.added;
  accepted = s.accepted;
  undropped = λ j a b. go j a b (cases_eq j m);
}
  where
    go : (j : ℕ) → s.since < j → j < suc m → (j ≡ m) ⊎ (j ≡ m → ⊥) → at calls j ≡ drops f → Accepted n calls j → ⊥
    go j a b (inl e) d v = no_drop (ap (at calls) (sym e) ∙ d) (subst (Accepted n calls) e v)
    go j a b (inr ne) d v = s.undropped j a (omega arith) d v

-- what stands after one call more stood before, or came by it
there : (n : ℕ) (calls : List Act) (m f : ℕ) (ps : List ℕ) → (standing_by n (take m calls) f ≡ Some ps → StandsWith n calls m f ps) → (c : Act) (v : Option JobFault) → at calls m ≡ c → verdict n (standing_by n (take m calls)) (at calls m) ≡ v → changed v c (standing_by n (take m calls)) f ≡ Some ps → StandsWith n calls (suc m) f ps
there n calls m f ps before c (Some e) is so h = longer n calls m f ps (before h) (λ d a. cc)
there n calls m f ps before (adds g qs) None is so h = go (cases_eq f g)
  where
    go : (f ≡ g) ⊎ (f ≡ g → ⊥) → StandsWith n calls (suc m) f ps
    go (inl e) =
        let x : Some qs ≡ Some ps = sym (put_at (standing_by n (take m calls)) g g (Some qs) refl) ∙ subst (λ (k : ℕ). put (standing_by n (take m calls)) g (Some qs) k ≡ Some ps) e h in
        let y : qs ≡ ps = cc in
        record { since = m; within = omega arith; added = is ∙ cc; accepted = so; undropped = λ j a b d v. omega arith }
    go (inr ne) = longer n calls m f ps (before (sym (put_beside (standing_by n (take m calls)) g f (Some qs) ne) ∙ h)) (λ d a. cc)
there n calls m f ps before (drops g) None is so h = go (cases_eq f g)
  where
    go : (f ≡ g) ⊎ (f ≡ g → ⊥) → StandsWith n calls (suc m) f ps
    go (inl e) =
        let x : None ≡ Some ps = sym (put_at (standing_by n (take m calls)) g g None refl) ∙ subst (λ (k : ℕ). put (standing_by n (take m calls)) g None k ≡ Some ps) e h in
        absurd cc
    go (inr ne) = longer n calls m f ps (before (sym (put_beside (standing_by n (take m calls)) g f None ne) ∙ h)) (λ d a. ne (let y : g ≡ f = cc in sym y))
there n calls m f ps before plans None is so h = longer n calls m f ps (before h) (λ d a. cc)
there n calls m f ps before (focuses p) None is so h = longer n calls m f ps (before h) (λ d a. cc)
there n calls m f ps before clears None is so h = longer n calls m f ps (before h) (λ d a. cc)

-- what came before the last call stood before it
shorter : (n : ℕ) (calls : List Act) (m f : ℕ) (ps : List ℕ) (s : StandsWith n calls (suc m) f ps) → s.since < m → StandsWith n calls m f ps
shorter n calls m f ps s h = record { since = s.since; within = h; added = s.added; accepted = s.accepted; undropped = λ j a b d v. s.undropped j a (omega arith) d v }

-- what stood and was not dropped still stands
kept : (n : ℕ) (calls : List Act) (m f : ℕ) (ps : List ℕ) → (at calls m ≡ drops f → Accepted n calls m → ⊥) → standing_by n (take m calls) f ≡ Some ps → (c : Act) (v : Option JobFault) → at calls m ≡ c → verdict n (standing_by n (take m calls)) (at calls m) ≡ v → changed v c (standing_by n (take m calls)) f ≡ Some ps
kept n calls m f ps undropped h c (Some e) is so = h
kept n calls m f ps undropped h (adds g qs) None is so = put_beside (standing_by n (take m calls)) g f (Some qs) (λ e. add_absent n (standing_by n (take m calls)) g qs ps (ap (verdict n (standing_by n (take m calls))) (sym is) ∙ so) (ap (standing_by n (take m calls)) (sym e) ∙ h)) ∙ h
kept n calls m f ps undropped h (drops g) None is so = put_beside (standing_by n (take m calls)) g f None (λ e. undropped (is ∙ ap drops (sym e)) so) ∙ h
kept n calls m f ps undropped h plans None is so = h
kept n calls m f ps undropped h (focuses p) None is so = h
kept n calls m f ps undropped h clears None is so = h

pub standing_is : StandingIs
standing_is n calls zero f ps h = (λ e. absurd cc, λ s. absurd (omega (arith, s.within)))
standing_is n calls (suc m) f ps h = forth_back (standing_is n calls m f ps (omega arith))
  where
    lt : m < length calls
    lt = omega arith

    step : standing_by n (take (suc m) calls) f ≡ next n (standing_by n (take m calls)) (at calls m) f
    step = ap (λ (on : Standing). on f) (one_call n calls m lt)

    forth_back : (standing_by n (take m calls) f ≡ Some ps → StandsWith n calls m f ps) × (StandsWith n calls m f ps → standing_by n (take m calls) f ≡ Some ps) → (standing_by n (take (suc m) calls) f ≡ Some ps → StandsWith n calls (suc m) f ps) × (StandsWith n calls (suc m) f ps → standing_by n (take (suc m) calls) f ≡ Some ps)
    forth_back ih = (
      λ e. there n calls m f ps ih.0 (at calls m) (verdict n (standing_by n (take m calls)) (at calls m)) refl refl (sym step ∙ e),
      λ s. step ∙ back s (cases_eq s.since m),
    )
      where
        back : (s : StandsWith n calls (suc m) f ps) → (s.since ≡ m) ⊎ (s.since ≡ m → ⊥) → next n (standing_by n (take m calls)) (at calls m) f ≡ Some ps
        back s (inl e) =
            let a : at calls m ≡ adds f ps = ap (at calls) (sym e) ∙ s.added in
            let v : verdict n (standing_by n (take m calls)) (at calls m) ≡ None = subst (Accepted n calls) e s.accepted in
            ap (λ (o : Option JobFault). changed o (at calls m) (standing_by n (take m calls)) f) v ∙ ap (λ (c : Act). changed None c (standing_by n (take m calls)) f) a ∙ put_at (standing_by n (take m calls)) f f (Some ps) refl
        back s (inr ne) = kept n calls m f ps (s.undropped m (omega (arith, s.within)) (omega arith)) (ih.1 (shorter n calls m f ps s (omega (arith, s.within)))) (at calls m) (verdict n (standing_by n (take m calls)) (at calls m)) refl refl

put_keeps : (Q : ℕ → Option (List ℕ) → Type 0) (on : Standing) (g : ℕ) (v : Option (List ℕ)) → Q g v → ((f : ℕ) → Q f (on f)) → (f : ℕ) → Q f (put on g v f)
put_keeps Q on g v new old f = go (cases_eq f g)
  where
    go : (f ≡ g) ⊎ (f ≡ g → ⊥) → Q f (put on g v f)
    go (inl e) = subst (λ (o : Option (List ℕ)). Q f o) (sym (put_at on g f v e)) (subst (λ (k : ℕ). Q k v) (sym e) new)
    go (inr ne) = subst (λ (o : Option (List ℕ)). Q f o) (sym (put_beside on g f v ne)) (old f)

-- what holds where a fitting does not stand, and where it stands as an accepted add may have it, holds after every call
always_next : (n : ℕ) (Q : ℕ → Option (List ℕ) → Type 0) → ((f : ℕ) → Q f None) → ((f : ℕ) (ps : List ℕ) → f < 64 → Fitted n ps → Q f (Some ps)) → (on : Standing) (c : Act) → ((f : ℕ) → Q f (on f)) → (f : ℕ) → Q f (next n on c f)
always_next n Q off stands on c h f = go c (verdict n on c) refl
  where
    go : (d : Act) (v : Option JobFault) → verdict n on d ≡ v → Q f (changed v d on f)
    go d (Some x) so = h f
    go (adds g ps) None so = let p = add_checks n on g ps so in put_keeps Q on g (Some ps) (stands g ps p.0 (fitted_so n ps p.1 p.2)) h f
    go (drops g) None so = put_keeps Q on g None (off g) h f
    go plans None so = h f
    go (focuses p) None so = h f
    go clears None so = h f

always : (n : ℕ) (Q : ℕ → Option (List ℕ) → Type 0) → ((f : ℕ) → Q f None) → ((f : ℕ) (ps : List ℕ) → f < 64 → Fitted n ps → Q f (Some ps)) → (on : Standing) (cs : List Act) → ((f : ℕ) → Q f (on f)) → (f : ℕ) → Q f (after n on cs f)
always n Q off stands on [] h f = h f
always n Q off stands on (c ∷ cs) h f = always n Q off stands (next n on c) cs (always_next n Q off stands on c h) f

pub none_above : NoneAbove
none_above n calls f = always n (λ k o. 64 ≤ k → o ≡ None) (λ k h. refl) (λ k ps lt fits h. absurd (omega arith)) nothing calls (λ k h. refl) f

pub all_fitted : AllFitted
all_fitted n calls = all_below (Fitted n) 64 (standing_by n calls) (always n (λ k o. IfSome o (Fitted n)) (λ k. tt) (λ k ps lt fits. fits) nothing calls (λ k. tt))
