-- What stands after a list of calls, from the calls alone. Assumes nothing.
use Rattle.std.specs.Prelude.{ℕ, zero, suc, Bool, true, false, cond, not, List, [], ◌∷◌, ◌++◌, is_some, Some, None, Option, ◌==◌, nat_lt}
use Rattle.std.specs.Option.{option_to_list}
use Rattle.ways.specs.Places.{outside}
use Rattle.job.specs.declared.fault.JobFault.{JobFault}
use Rattle.job.specs.declared.fault.JobFault.TheVariants.{Number, Places, NoPlace, Stands, Absent}
use Rattle.job.specs.Places.{formed}

-- a call of a day: a fitting and its places are added, a fitting is dropped, a plan, a place comes into focus, the focus is emptied
pub data Act : Type 0 where
  adds : ℕ → List ℕ → Act
  drops : ℕ → Act
  plans : Act
  focuses : ℕ → Act
  clears : Act

-- the fault, unless the check holds
abbrev pub unless : Bool → JobFault → Option JobFault
unless true fault = None
unless false fault = Some fault

-- the fault that tells of a place, if there is one
abbrev pub no_place : Option ℕ → Option JobFault
no_place None = None
no_place (Some p) = Some (NoPlace p)

-- the first fault of some checks
abbrev pub first_fault : List (Option JobFault) → Option JobFault
first_fault [] = None
first_fault (None ∷ later) = first_fault later
first_fault (Some fault ∷ later) = Some fault

-- which places each fitting stands with, if it stands
abbrev pub Standing : Type 0
Standing = ℕ → Option (List ℕ)

-- no fitting stands
abbrev pub nothing : Standing
nothing f = None

-- why the job refuses a call where it has n places and `on` stands, or None: it is accepted
abbrev pub verdict : ℕ → Standing → Act → Option JobFault
verdict n on (adds f ps) =
    first_fault (unless (nat_lt f 64) Number ∷ unless (formed ps) (Places f) ∷ no_place (outside n ps) ∷ unless (not (is_some (on f))) (Stands f) ∷ [])
verdict n on (drops f) = first_fault (unless (nat_lt f 64) Number ∷ unless (is_some (on f)) (Absent f) ∷ [])
verdict n on plans = None
verdict n on (focuses p) = None
verdict n on clears = None

-- what stands, but v at f
abbrev pub put : Standing → ℕ → Option (List ℕ) → Standing
put on f v k = cond (k == f) v (on k)

-- what stands after a call: an accepted add makes its fitting stand with its places, an accepted drop ends that, and nothing else changes anything
abbrev pub changed : Option JobFault → Act → Standing → Standing
changed (Some fault) c on = on
changed None (adds f ps) on = put on f (Some ps)
changed None (drops f) on = put on f None
changed None plans on = on
changed None (focuses p) on = on
changed None clears on = on

-- what stands after a call with its verdict
abbrev pub next : ℕ → Standing → Act → Standing
next n on c = changed (verdict n on c) c on

-- what stands after some calls
abbrev pub after : ℕ → Standing → List Act → Standing
after n on [] = on
after n on (c ∷ cs) = after n (next n on c) cs

-- what stands after the calls of a day that began with nothing
abbrev pub standing_by : ℕ → List Act → Standing
standing_by n calls = after n nothing calls

-- the places of the standing fittings below k, in rising order of the fittings' numbers
unfoldable pub below : ℕ → Standing → List (List ℕ)
below zero on = []
below (suc k) on = below k on ++ option_to_list (on k)

-- what a plan has to reach, by the calls alone; its length is the number of fittings that stand
abbrev pub groups_by : ℕ → List Act → List (List ℕ)
groups_by n calls = below 64 (standing_by n calls)
