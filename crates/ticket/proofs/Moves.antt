-- The steps of a line, check by check. Assumes nothing.
use Rattle.std.proofs.Common.{◌≡◌, ℕ, ◌+◌, ◌≤◌, Bool, true, false, cond, not, eqb, ltb, leb, List, [], ◌∷◌, ◌++◌, map, length, take, is_some, is_ok, Some, None, Ok, Err, Result, sym, refl, ap, ◌∙◌, inl, inr, arith}
use Rattle.std.proofs.lemmas.Bool.{ltb-true, eqb-true, eqb-false, lt-leb, cases_lt, cond-true, cond-false}
use Rattle.std.proofs.lemmas.List.{take_all, length-take-le}
use Rattle.job.specs.declared.fault.JobFault.TheVariants.{Number, Places, Stands}
use Rattle.job.specs.Day.{Standing, adds, put, unless, no_place, first_fault}
use Rattle.job.specs.Day as day
use Rattle.ways.specs.Places.{outside}
use Rattle.job.specs.Places.{formed}
use Rattle.ways.specs.Few.{members}
use Rattle.lines.specs.Said.{capped, shorts, Lists}
use Rattle.lines.specs.declared.line.Listed.{Listed}
use Rattle.ticket.specs.declared.fault.TicketFault.{TicketFault}
use Rattle.ticket.specs.Steps.{Fit, standing, Step, refuse}

pub not_refused : (b : Bool) (e : TicketFault) (o r : Step) → b ≡ false → o ≡ r → refuse b e o ≡ r
not_refused true e o r h k = cc
not_refused false e o r h k = k

-- a listed fitting more
pub standing_push : (fs : List Fit) (f : ℕ) (ps : List ℕ) → standing fs f ≡ None → (k : ℕ) → standing (fs ++ record { number = f; places = ps } ∷ []) k ≡ put (standing fs) f (Some ps) k
standing_push [] f ps e k = refl
standing_push (g ∷ fs) f ps e k = go (eqb k g.number) (eqb k f) (eqb f g.number) refl refl refl (standing_push fs f ps) e
  where
    go : (b d x : Bool) → eqb k g.number ≡ b → eqb k f ≡ d → eqb f g.number ≡ x → (standing fs f ≡ None → (j : ℕ) → standing (fs ++ record { number = f; places = ps } ∷ []) j ≡ put (standing fs) f (Some ps) j) → cond x (Some g.places) (standing fs f) ≡ None → cond b (Some g.places) (standing (fs ++ record { number = f; places = ps } ∷ []) k) ≡ cond d (Some ps) (cond b (Some g.places) (standing fs k))
    go b d true p q y i h = cc
    go true true false p q y i h = absurd (eqb-false f g.number y (sym (eqb-true k f q) ∙ eqb-true k g.number p))
    go true false false p q y i h = refl
    go false true false p q y i h = i h k ∙ cond-true (eqb k f) (Some ps) (standing fs k) q
    go false false false p q y i h = i h k ∙ cond-false (eqb k f) (Some ps) (standing fs k) q

-- nothing but short numbers
pub all_short : (ps : List ℕ) → length ps ≤ shorts ps → map capped ps ≡ ps
all_short [] l = refl
all_short (p ∷ ps) l = go (ltb p 10000000) refl l (all_short ps)
  where
    go : (b : Bool) → ltb p 10000000 ≡ b → length (p ∷ ps) ≤ cond b (1 + shorts ps) 0 → (length ps ≤ shorts ps → map capped ps ≡ ps) → map capped (p ∷ ps) ≡ p ∷ ps
    go true e h i =
        let k : capped p ≡ p = omega (arith, ltb-true p 10000000 e) in
        let j = i (omega arith) in
        cc
    go false e h i = absurd (omega arith)

-- the first 17 places as they are handed on
pub front_places : (l : Listed) (ps : List ℕ) → Lists l ps → length ps ≤ shorts ps → members l.front ≡ take 17 ps
front_places l ps h s = h.front ∙ ap (take 17) (all_short ps s)

long_unformed : (p : ℕ) (ps : List ℕ) → 16 ≤ length ps → formed (p ∷ ps) ≡ false
long_unformed p ps l = let e : leb (length ps) 15 ≡ false = lt-leb (length ps) 15 (omega arith) in simp e

unformed : (ps : List ℕ) → 17 ≤ length ps → formed ps ≡ false
unformed [] l = absurd (omega arith)
unformed (p ∷ ps) l = long_unformed p ps (omega arith)

-- what the job says of more than 17 places it says of the first 17
pub first_places : (n : ℕ) (on : Standing) (f : ℕ) (ps : List ℕ) → day.verdict n on (adds f (take 17 ps)) ≡ day.verdict n on (adds f ps)
first_places n on f ps = elim (cases_lt (length ps) 18) [
  | inl lt ↦ ap (λ (qs : List ℕ). day.verdict n on (adds f qs)) (take_all 17 ps (omega arith))
  | inr ge ↦ go (formed (take 17 ps)) (formed ps) (unformed (take 17 ps) (omega (arith, length-take-le 17 ps (omega arith)))) (unformed ps (omega arith)) (ltb f 64)
]
  where
    go : (a b : Bool) → a ≡ false → b ≡ false → (t : Bool) → first_fault (unless t Number ∷ unless a (Places f) ∷ no_place (outside n (take 17 ps)) ∷ unless (not (is_some (on f))) (Stands f) ∷ []) ≡ first_fault (unless t Number ∷ unless b (Places f) ∷ no_place (outside n ps) ∷ unless (not (is_some (on f))) (Stands f) ∷ [])
    go true b x y t = cc
    go false true x y t = cc
    go false false x y true = refl
    go false false x y false = refl

-- an `Ok` of no value
pub ok_unit : {E : Type 0} (r : Result (Unit {0}) E) → true ≡ is_ok r → Ok tt ≡ r
ok_unit (Ok tt) e = refl
ok_unit (Err x) e = cc

-- the error of a result that is not `Ok`
pub err_is : {X E : Type 0} (r : Result X E) → false ≡ is_ok r → (x : E) × (r ≡ Err x)
err_is (Ok u) e = cc
err_is (Err x) e = (x, refl)
