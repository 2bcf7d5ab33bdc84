-- Fittings as a rising list and as what stands. Assumes nothing.
use Rattle.std.proofs.Common.{◌≡◌, ℕ, zero, suc, ◌+◌, ◌<◌, ◌≤◌, cond, eqb, ltb, ◌⊎◌, List, [], ◌∷◌, ◌++◌, IfSome, Some, None, Option, sym, refl, ap, ◌∙◌, inl, inr, arith}
use Rattle.std.proofs.lemmas.List.{append-nil}
use Rattle.std.proofs.lemmas.Bool.{lt-ltb, le-ltb, eq-eqb, ne_eqb, cases_order, cases_lt, and_left, cond-true, cond-false}
use Rattle.std.specs.List.{AllByRecursion}
use Rattle.std.proofs.ByRecursion.{All-append}
use Rattle.job.specs.Day.{Standing}
use Rattle.job.specs.Held.{held}
use Rattle.job.specs.Marks.{marked}
use Rattle.job.specs.declared.job.Job.{Job}
use Rattle.ticket.proofs.Moves.{standing_push}
use Rattle.ticket.specs.Steps.{Fit, standing}
use Rattle.ticket.specs.Tickets.{entry, fits_below, Climbs}

-- the front of a list, up to a number
abbrev under : ℕ → List Fit → List Fit
under k [] = []
under k (f ∷ fs) = cond (ltb f.number k) (f ∷ under k fs) []

-- nothing is below where a list begins
none_under : (k l : ℕ) (fs : List Fit) → Climbs l fs → k ≤ l → under k fs ≡ []
none_under k l [] c h = refl
none_under k l (f ∷ fs) c h = cond-false (ltb f.number k) (f ∷ under k fs) [] (le-ltb f.number k (omega (arith, c.0)))

-- nor stands anything there
pub none_stands : (k l : ℕ) (fs : List Fit) → Climbs l fs → k < l → standing fs k ≡ None
none_stands k l [] c h = refl
none_stands k l (f ∷ fs) c h =
    cond-false (eqb k f.number) (Some f.places) (standing fs k) (ne_eqb k f.number (λ e. omega (arith, c.0))) ∙ none_stands k (f.number + 1) fs c.2 (omega (arith, c.0))

all_under : (l : ℕ) (fs : List Fit) → Climbs l fs → under 64 fs ≡ fs
all_under l [] c = refl
all_under l (f ∷ fs) c = cond-true (ltb f.number 64) (f ∷ under 64 fs) [] (lt-ltb f.number 64 c.1) ∙ ap (λ (x : List Fit). f ∷ x) (all_under (f.number + 1) fs c.2)

-- one more number looked at
under_more : (k l : ℕ) (fs : List Fit) → Climbs l fs → under k fs ++ entry k (standing fs k) ≡ under (suc k) fs
under_more k l [] c = refl
under_more k l (f ∷ fs) c = go (under_more k (f.number + 1) fs c.2) (cases_order f.number k)
  where
    go : under k fs ++ entry k (standing fs k) ≡ under (suc k) fs → (f.number ≡ k) ⊎ ((f.number < k) ⊎ (k < f.number)) → under k (f ∷ fs) ++ entry k (standing (f ∷ fs) k) ≡ under (suc k) (f ∷ fs)
    go i (inl e) =
        let a : under k (f ∷ fs) ≡ [] = cond-false (ltb f.number k) (f ∷ under k fs) [] (le-ltb f.number k (omega arith)) in
        let b : standing (f ∷ fs) k ≡ Some f.places = cond-true (eqb k f.number) (Some f.places) (standing fs k) (eq-eqb k f.number (sym e)) in
        let d : under (suc k) (f ∷ fs) ≡ f ∷ under (suc k) fs = cond-true (ltb f.number (suc k)) (f ∷ under (suc k) fs) [] (lt-ltb f.number (suc k) (omega arith)) in
        let n : under (suc k) fs ≡ [] = none_under (suc k) (f.number + 1) fs c.2 (omega arith) in
        let g : entry k (Some f.places) ≡ f ∷ [] = ap (λ (x : ℕ). record { number = x; places = f.places } ∷ []) (sym e) in
        ap (λ (x : List Fit). x ++ entry k (standing (f ∷ fs) k)) a ∙ (ap (λ (o : Option (List ℕ)). entry k o) b ∙ (g ∙ sym (d ∙ ap (λ (x : List Fit). f ∷ x) n)))
    go i (inr (inl l)) =
        let a : under k (f ∷ fs) ≡ f ∷ under k fs = cond-true (ltb f.number k) (f ∷ under k fs) [] (lt-ltb f.number k l) in
        let b : standing (f ∷ fs) k ≡ standing fs k = cond-false (eqb k f.number) (Some f.places) (standing fs k) (ne_eqb k f.number (λ q. omega arith)) in
        let d : under (suc k) (f ∷ fs) ≡ f ∷ under (suc k) fs = cond-true (ltb f.number (suc k)) (f ∷ under (suc k) fs) [] (lt-ltb f.number (suc k) (omega arith)) in
        ap (λ (x : List Fit). x ++ entry k (standing (f ∷ fs) k)) a ∙ (ap (λ (o : Option (List ℕ)). f ∷ (under k fs ++ entry k o)) b ∙ (ap (λ (x : List Fit). f ∷ x) i ∙ sym d))
    go i (inr (inr l)) =
        let a : under k (f ∷ fs) ≡ [] = cond-false (ltb f.number k) (f ∷ under k fs) [] (le-ltb f.number k (omega arith)) in
        let b : standing (f ∷ fs) k ≡ None = none_stands k f.number (f ∷ fs) (omega arith, c.1, c.2) l in
        let d : under (suc k) (f ∷ fs) ≡ [] = cond-false (ltb f.number (suc k)) (f ∷ under (suc k) fs) [] (le-ltb f.number (suc k) (omega arith)) in
        ap (λ (x : List Fit). x ++ entry k (standing (f ∷ fs) k)) a ∙ (ap (λ (o : Option (List ℕ)). entry k o) b ∙ sym d)

under_none : (fs : List Fit) → under 0 fs ≡ []
under_none [] = refl
under_none (f ∷ fs) = cond-false (ltb f.number 0) (f ∷ under 0 fs) [] (le-ltb f.number 0 (omega arith))

below_under : (k l : ℕ) (fs : List Fit) → Climbs l fs → fits_below k (standing fs) ≡ under k fs
unfolding fits_below
below_under zero l fs c = sym (under_none fs)
below_under (suc k) l fs c = ap (λ (x : List Fit). x ++ entry k (standing fs k)) (below_under k l fs c) ∙ under_more k l fs c

-- a rising list is the list of what stands by it
pub listed_again : (fs : List Fit) → Climbs 0 fs → fits_below 64 (standing fs) ≡ fs
listed_again fs c = below_under 64 0 fs c ∙ all_under 0 fs c

-- rising numbers from l on, below u
abbrev Span : ℕ → ℕ → List Fit → Type 0
Span l u [] = l ≤ u
Span l u (f ∷ fs) = (l ≤ f.number) × Span (f.number + 1) u fs

span_le : (l u : ℕ) (fs : List Fit) → Span l u fs → l ≤ u
span_le l u [] h = h
span_le l u (f ∷ fs) h = omega (arith, h.0, span_le (f.number + 1) u fs h.1)

span_push : (l k : ℕ) (fs : List Fit) (o : Option (List ℕ)) → Span l k fs → Span l (suc k) (fs ++ entry k o)
span_push l k [] None h = omega arith
span_push l k [] (Some ps) h = (h, omega arith)
span_push l k (f ∷ fs) o h = (h.0, span_push (f.number + 1) k fs o h.1)

span_below : (k : ℕ) (on : Standing) → Span 0 k (fits_below k on)
unfolding fits_below
span_below zero on = omega arith
span_below (suc k) on = span_push 0 k (fits_below k on) (on k) (span_below k on)

span_climbs : (l : ℕ) (fs : List Fit) → Span l 64 fs → Climbs l fs
span_climbs l [] h = tt
span_climbs l (f ∷ fs) h = (h.0, omega (arith, span_le (f.number + 1) 64 fs h.1), span_climbs (f.number + 1) fs h.1)

-- what is listed rises
pub below_climbs : (on : Standing) → Climbs 0 (fits_below 64 on)
below_climbs on = span_climbs 0 (fits_below 64 on) (span_below 64 on)

-- what holds of every standing fitting's places holds of the listed ones
all_entry : (P : List ℕ → Type 0) (k : ℕ) (o : Option (List ℕ)) → IfSome o P → AllByRecursion (λ f. P f.places) (entry k o)
all_entry P k None h = tt
all_entry P k (Some ps) h = (h, tt)

pub all_listed : (P : List ℕ → Type 0) (k : ℕ) (on : Standing) → ((j : ℕ) → IfSome (on j) P) → AllByRecursion (λ f. P f.places) (fits_below k on)
unfolding fits_below
all_listed P zero on h = tt
all_listed P (suc k) on h = All-append (λ (f : Fit). P f.places) (fits_below k on) (entry k (on k)) (all_listed P k on h) (all_entry P k (on k) (h k))

one_more : (fs : List Fit) (k j : ℕ) (o : Option (List ℕ)) (on : Standing) → on k ≡ o → ((i : ℕ) → standing fs i ≡ cond (ltb i k) (on i) None) → standing (fs ++ entry k o) j ≡ cond (ltb j (suc k)) (on j) None
one_more fs k j None on e h = go (cases_order j k)
  where
    a : standing (fs ++ []) j ≡ cond (ltb j k) (on j) None
    a = ap (λ (x : List Fit). standing x j) (append-nil fs) ∙ h j

    go : (j ≡ k) ⊎ ((j < k) ⊎ (k < j)) → standing (fs ++ []) j ≡ cond (ltb j (suc k)) (on j) None
    go (inl q) = a ∙ (cond-false (ltb j k) (on j) None (le-ltb j k (omega arith)) ∙ sym (cond-true (ltb j (suc k)) (on j) None (lt-ltb j (suc k) (omega arith)) ∙ (ap on q ∙ e)))
    go (inr (inl l)) = a ∙ (cond-true (ltb j k) (on j) None (lt-ltb j k l) ∙ sym (cond-true (ltb j (suc k)) (on j) None (lt-ltb j (suc k) (omega arith))))
    go (inr (inr l)) = a ∙ (cond-false (ltb j k) (on j) None (le-ltb j k (omega arith)) ∙ sym (cond-false (ltb j (suc k)) (on j) None (le-ltb j (suc k) (omega arith))))
one_more fs k j (Some ps) on e h = go (cases_order j k)
  where
    free : standing fs k ≡ None
    free = h k ∙ cond-false (ltb k k) (on k) None (le-ltb k k (omega arith))

    a : standing (fs ++ entry k (Some ps)) j ≡ cond (eqb j k) (Some ps) (standing fs j)
    a = standing_push fs k ps free j

    go : (j ≡ k) ⊎ ((j < k) ⊎ (k < j)) → standing (fs ++ entry k (Some ps)) j ≡ cond (ltb j (suc k)) (on j) None
    go (inl q) = a ∙ (cond-true (eqb j k) (Some ps) (standing fs j) (eq-eqb j k q) ∙ sym (cond-true (ltb j (suc k)) (on j) None (lt-ltb j (suc k) (omega arith)) ∙ (ap on q ∙ e)))
    go (inr (inl l)) = a ∙ (cond-false (eqb j k) (Some ps) (standing fs j) (ne_eqb j k (λ q. omega arith)) ∙ (h j ∙ (cond-true (ltb j k) (on j) None (lt-ltb j k l) ∙ sym (cond-true (ltb j (suc k)) (on j) None (lt-ltb j (suc k) (omega arith))))))
    go (inr (inr l)) = a ∙ (cond-false (eqb j k) (Some ps) (standing fs j) (ne_eqb j k (λ q. omega arith)) ∙ (h j ∙ (cond-false (ltb j k) (on j) None (le-ltb j k (omega arith)) ∙ sym (cond-false (ltb j (suc k)) (on j) None (le-ltb j (suc k) (omega arith))))))

standing_below : (k : ℕ) (on : Standing) (j : ℕ) → standing (fits_below k on) j ≡ cond (ltb j k) (on j) None
unfolding fits_below
standing_below zero on j = sym (cond-false (ltb j 0) (on j) None (le-ltb j 0 (omega arith)))
standing_below (suc k) on j = one_more (fits_below k on) k j (on k) on refl (standing_below k on)

-- what is listed stands, and nothing else, where nothing stands from 64 on
pub standing_again : (on : Standing) → ((k : ℕ) → 64 ≤ k → on k ≡ None) → standing (fits_below 64 on) ≡ on
standing_again on h = λ i j. all j i
  where
    go : (j : ℕ) → (j < 64) ⊎ (64 ≤ j) → cond (ltb j 64) (on j) None ≡ on j
    go j (inl l) = cond-true (ltb j 64) (on j) None (lt-ltb j 64 l)
    go j (inr l) = cond-false (ltb j 64) (on j) None (le-ltb j 64 l) ∙ sym (h j l)

    all : (j : ℕ) → standing (fits_below 64 on) j ≡ on j
    all j = standing_below 64 on j ∙ go j (cases_lt j 64)

-- no job has a fitting from 64 on
pub held_none : (job : Job) (k : ℕ) → 64 ≤ k → held job k ≡ None
held_none job k l = cond-false (marked job.heading.standing k) _ None (and_left (ltb k 64) _ (le-ltb k 64 l))
