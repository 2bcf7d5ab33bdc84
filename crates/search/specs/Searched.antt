-- What a search leaves. Assumes nothing.
use Rattle.std.specs.Prelude.{◌≡◌, ℕ, ◌<◌, List, drop, Ok, Err, Result}
use Rattle.heap.specs.declared.search.SearchEntry.{SearchEntry}
use Rattle.ways.specs.declared.row.Row.{Row}
use Rattle.ways.specs.Distance.{distance}
use Rattle.oracle.specs.declared.fault.OracleFault.{OracleFault}
use Rattle.search.specs.declared.record.Record.{Record}
use Rattle.search.specs.State.{known, lit}

-- each of the first n records tells the distance of its place from the source and is in focus as before, and the other records are as they were
pub record Found (n : ℕ) (ds : List Row) (source : ℕ) (old new : List Record) : Type 0 where
  pub distances : (v : ℕ) → v < n → known new v ≡ distance n ds source v
  pub focus : (v : ℕ) → lit new v ≡ lit old v
  pub rest : drop n new ≡ drop n old

-- a refusal changes nothing
abbrev pub Searched : ℕ → List Row → ℕ → List Record → List Record → List SearchEntry → List SearchEntry → Result (Unit {0}) OracleFault → Type 0
Searched n ds source old new q q' (Ok _) = Found n ds source old new
Searched n ds source old new q q' (Err e) = (new ≡ old) × (q' ≡ q)
