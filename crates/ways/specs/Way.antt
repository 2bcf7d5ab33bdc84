-- Ducts and the ways over them. A duct is an edge of a graph, from whichever end. Assumes nothing.
use Rattle.std.specs.Prelude.{◌≡◌, ℕ, ◌+◌, ◌<◌, ◌≤◌, ◌⊎◌, List, [], ◌∷◌}
use Rattle.ways.specs.declared.row.Row.{Row}

-- a step of a way: the place that it comes to, and the length of the duct that it goes by
pub record Hop : Type 0 where
  pub to : ℕ
  pub length : ℕ

-- a duct of the length len joins u and w, either way round
abbrev pub Joins : Row → ℕ → ℕ → ℕ → Type 0
Joins d u w len = (d.length ≡ len) × (((d.first ≡ u) × (d.second ≡ w)) ⊎ ((d.first ≡ w) × (d.second ≡ u)))

-- some duct of the list does
abbrev pub Joined : List Row → ℕ → ℕ → ℕ → Type 0
Joined [] u w len = ⊥
Joined (d ∷ ds) u w len = Joins d u w len ⊎ Joined ds u w len

-- the hops lead from u to v, each by a listed duct
abbrev pub Leads : List Row → ℕ → List Hop → ℕ → Type 0
Leads ds u [] v = u ≡ v
Leads ds u (h ∷ hs) v = Joined ds u h.to h.length × Leads ds h.to hs v

-- the length of a way: the sum over its ducts
abbrev pub total : List Hop → ℕ
total [] = 0
total (h ∷ hs) = h.length + total hs

-- the places that a way comes to
abbrev pub tos : List Hop → List ℕ
tos [] = []
tos (h ∷ hs) = h.to ∷ tos hs

-- a way from u to v of the length t
abbrev pub Way : List Row → ℕ → ℕ → ℕ → Type 0
Way ds u v t = (hs : List Hop) × Leads ds u hs v × (total hs ≡ t)

-- a duct between two different places below n, of 1 to 1,000,000 mm
pub record LawfulDuct (n : ℕ) (d : Row) : Type 0 where
  pub first_in : d.first < n
  pub second_in : d.second < n
  pub apart : d.first ≡ d.second → ⊥
  pub some_length : 1 ≤ d.length
  pub no_longer : d.length ≤ 1000000

-- every duct of the list is one
abbrev pub Lawful : ℕ → List Row → Type 0
Lawful n [] = Unit {0}
Lawful n (d ∷ ds) = LawfulDuct n d × Lawful n ds
