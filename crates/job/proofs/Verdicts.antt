-- What an accepted call has passed, and what is accepted. Assumes nothing.
use Rattle.std.proofs.Common.{◌≡◌, ℕ, ◌<◌, ◌≤◌, true, List, is_some, Some, None, Option, refl, arith}
use Rattle.job.specs.Day.{adds, drops, Standing, verdict}
use Rattle.job.specs.Laws.{AcceptedAdd, AcceptedDrop}
use Rattle.ways.specs.Places.{outside}
use Rattle.job.specs.Places.{Fitted, formed}
use Rattle.job.proofs.Fits.{fitted_so, fitted_checks}

present : {X : Type 0} (o : Option X) → is_some o ≡ true → (x : X) × (o ≡ Some x)
present None e = absurd cc
present (Some x) e = (x, refl)

-- the checks that an accepted add has passed
pub add_checks : (n : ℕ) (on : Standing) (f : ℕ) (ps : List ℕ) → verdict n on (adds f ps) ≡ None → (f < 64) × (formed ps ≡ true) × (outside n ps ≡ None) × (on f ≡ None)
add_checks n on f ps e = (grind arith, grind arith, grind arith, grind arith)

-- the checks that an accepted drop has passed
pub drop_checks : (n : ℕ) (on : Standing) (f : ℕ) → verdict n on (drops f) ≡ None → (f < 64) × (is_some (on f) ≡ true)
drop_checks n on f e = (grind arith, grind arith)

pub accepted_add : AcceptedAdd
accepted_add n on f ps = (there, back)
  where
    there : verdict n on (adds f ps) ≡ None → (f ≤ 63) × Fitted n ps × (on f ≡ None)
    there e = let p = add_checks n on f ps e in (omega (arith, p.0), fitted_so n ps p.1 p.2, p.3)

    back : (f ≤ 63) × Fitted n ps × (on f ≡ None) → verdict n on (adds f ps) ≡ None
    back h = let right = fitted_checks n ps h.1 in grind (arith, h.0, h.2)

pub accepted_drop : AcceptedDrop
accepted_drop n on f = (there, back)
  where
    there : verdict n on (drops f) ≡ None → (f ≤ 63) × ((ps : List ℕ) × (on f ≡ Some ps))
    there e = let p = drop_checks n on f e in (omega (arith, p.0), present (on f) p.1)

    back : (f ≤ 63) × ((ps : List ℕ) × (on f ≡ Some ps)) → verdict n on (drops f) ≡ None
    back h = grind (arith, h.0, h.1.1)
