-- What is proved of every day. Assumes nothing.
use Rattle.std.specs.Prelude.{◌≡◌, ℕ, ◌<◌, ◌≤◌, List, length, take, Some, None, slice_index_or}
use Rattle.std.specs.List.{AllByRecursion}
use Rattle.job.specs.Day.{Act, adds, drops, plans, Standing, verdict, standing_by, groups_by}
use Rattle.job.specs.Places.{Fitted}

-- the call at i
abbrev pub at : List Act → ℕ → Act
at calls i = slice_index_or calls i plans

-- the call at i is accepted, by the calls before it
abbrev pub Accepted : ℕ → List Act → ℕ → Type 0
Accepted n calls i = verdict n (standing_by n (take i calls)) (at calls i) ≡ None

-- among the first m calls an accepted add gave the fitting f the places ps, and no accepted drop of f came after it
pub record StandsWith (n : ℕ) (calls : List Act) (m f : ℕ) (ps : List ℕ) : Type 0 where
  pub since : ℕ
  pub within : since < m
  pub added : at calls since ≡ adds f ps
  pub accepted : Accepted n calls since
  pub undropped : (j : ℕ) → since < j → j < m → at calls j ≡ drops f → Accepted n calls j → ⊥

-- after any of a day's calls a fitting stands with places exactly where that is so
abbrev pub StandingIs : Type 0
StandingIs =
    (n : ℕ) (calls : List Act) (m f : ℕ) (ps : List ℕ) → m ≤ length calls → (standing_by n (take m calls) f ≡ Some ps → StandsWith n calls m f ps) × (StandsWith n calls m f ps → standing_by n (take m calls) f ≡ Some ps)

-- no fitting above 63 ever stands
abbrev pub NoneAbove : Type 0
NoneAbove = (n : ℕ) (calls : List Act) (f : ℕ) → 64 ≤ f → standing_by n calls f ≡ None

-- whatever stands has lawful places, and 64 fittings stand at most
abbrev pub AllFitted : Type 0
AllFitted = (n : ℕ) (calls : List Act) → AllByRecursion (Fitted n) (groups_by n calls) × (length (groups_by n calls) ≤ 64)

-- an add is accepted exactly where its number is at most 63, its places are lawful and its fitting does not stand
abbrev pub AcceptedAdd : Type 0
AcceptedAdd =
    (n : ℕ) (on : Standing) (f : ℕ) (ps : List ℕ) → (verdict n on (adds f ps) ≡ None → (f ≤ 63) × Fitted n ps × (on f ≡ None)) × ((f ≤ 63) × Fitted n ps × (on f ≡ None) → verdict n on (adds f ps) ≡ None)

-- a drop is accepted exactly where its number is at most 63 and its fitting stands
abbrev pub AcceptedDrop : Type 0
AcceptedDrop =
    (n : ℕ) (on : Standing) (f : ℕ) → (verdict n on (drops f) ≡ None → (f ≤ 63) × ((ps : List ℕ) × (on f ≡ Some ps))) × ((f ≤ 63) × ((ps : List ℕ) × (on f ≡ Some ps)) → verdict n on (drops f) ≡ None)
