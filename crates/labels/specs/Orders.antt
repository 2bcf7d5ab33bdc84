-- What is wrong with an order of places. Assumes nothing.
use Rattle.std.specs.Prelude.{◌≡◌, ℕ, ◌<◌, ◌≤◌, ◌⊎◌, List, length, Ok, Err, Result}
use Rattle.ways.specs.Places.{Order}
use Rattle.hubs.specs.Labels.{place}
use Rattle.labels.specs.declared.fault.LabelsFault.{LabelsFault}
use Rattle.labels.specs.declared.fault.LabelsFault.TheVariants.{Order as OrderFault}

-- the place at the position i is none of the n, or stands before it too
abbrev pub Bad : ℕ → List ℕ → ℕ → Type 0
Bad n order i = (n ≤ place order i) ⊎ ((j : ℕ) × (j < i) × (place order j ≡ place order i))

-- i is the first such position
pub record FirstBad (n : ℕ) (order : List ℕ) (i : ℕ) : Type 0 where
  pub within : i < length order
  pub bad : Bad n order i
  pub before : (k : ℕ) → k < i → Bad n order k → ⊥

-- an order that has each place once, or the first position where it does not
abbrev pub Judged : ℕ → List ℕ → Result (Unit {0}) LabelsFault → Type 0
Judged n order (Ok _) = Order n order
Judged n order (Err e) = (i : ℕ) × (e ≡ OrderFault i) × FirstBad n order i
