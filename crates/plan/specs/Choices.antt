-- The place to begin at, and the chosen places. Assumes nothing.
use Rattle.std.specs.Prelude.{◌≡◌, ℕ, List, [], ◌∷◌, Some, None, Option}
use Rattle.std.specs.declared.cmp.Ordering.{Ordering}
use Rattle.std.specs.Ordering.{nat_cmp, ordering_then}
use Rattle.ways.specs.Nearest.{Near, Later, Nearest}
use Rattle.ways.specs.Places.{On}
use Rattle.oracle.specs.Meaning.{Meaning, far}
use Rattle.trees.specs.Groups.{cost, focus_on}

-- of the places of the list, the one of the least cost, told as its distance, the smallest number among equals; none where none has a cost
abbrev pub Least : List ℕ → (ℕ → Option ℕ) → Option Near → Type 0
Least vs costs None = (v : ℕ) → On v vs → costs v ≡ None
Least vs costs (Some p) = On p.place vs × (costs p.place ≡ Some p.distance) × ((v : ℕ) → On v vs → Later p v (costs v))

-- the order of what is near: by the distance, and then by the number
abbrev pub near_cmp : Near → Near → Ordering
near_cmp p q = ordering_then (nat_cmp p.distance q.distance) (nat_cmp p.place q.place)

-- the place of the first group whose distances to the nearest places of the others are together the least, the smallest number among equals;
-- a place with an absent one is passed over
abbrev pub Begins : Meaning → List ℕ → List (List ℕ) → Option Near → Type 0
Begins m first others = Least first (λ v. cost (far m) v others)

-- the place of each group that is nearest to x, in the order of the groups
abbrev pub Gathered : Meaning → ℕ → List (List ℕ) → List ℕ → Type 0
Gathered m x [] ps = ps ≡ []
Gathered m x (g ∷ gs) [] = ⊥
Gathered m x (g ∷ gs) (p ∷ ps) = ((d : ℕ) × Nearest m.count (focus_on g) (far m x) (Some (record { place = p; distance = d }))) × Gathered m x gs ps

-- x, and the places nearest to it
abbrev pub Around : Meaning → ℕ → List (List ℕ) → List ℕ → Type 0
Around m x others cs = (ps : List ℕ) × (cs ≡ x ∷ ps) × Gathered m x others ps

-- the chosen places: the one to begin at, and of each other group the one nearest to it
pub record Chosen (m : Meaning) (first : List ℕ) (others : List (List ℕ)) (cs : List ℕ) : Type 0 where
  pub start : Near
  pub least : Begins m first others (Some start)
  pub around : Around m start.place others cs
