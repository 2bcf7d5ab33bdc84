-- What one arc changes, at the marks of the code. Assumes nothing.
use Rattle.std.proofs.Common.{◌≡◌, ℕ, ◌+◌, ◌<◌, ◌≤◌, Bool, List, [], ◌∷◌, length, Some, Option, sym, refl, ap, ◌∙◌, subst, inl, inr, arith, get_or-set_other, get_or-set_same}
use native.Mathlib.Decide.{ℕ_discrete}
use Rattle.std.specs.List.Sorted.{IsPermutation}
use Rattle.heap.specs.declared.search.SearchEntry.{SearchEntry}
use Rattle.ways.specs.declared.row.Row.{Row}
use Rattle.search.specs.declared.record.Record.{Record}
use Rattle.ways.specs.Way.{Joined, Way}
use Rattle.ways.specs.Options.{AtMost}
use Rattle.search.specs.State.{blank, known, done, lit, noted, Kept, Relaxed}
use Rattle.search.proofs.Theory as theory
use Rattle.ways.proofs.Graph.{here, hop, join}

-- what a note of one place leaves
module _ (rs : List Record) (to : ℕ) (d : Option ℕ) (b : Bool) (l : to < length rs) where
  pub known_new : known (noted rs to d b) to ≡ d
  known_new = ap (λ (x : Record). x.distance) (get_or-set_same rs to (record { distance = d; settled = b; focused = lit rs to }) blank l)

  pub known_other : (v : ℕ) → (v ≡ to → ⊥) → known (noted rs to d b) v ≡ known rs v
  known_other v ne = ap (λ (x : Record). x.distance) (get_or-set_other rs to v (record { distance = d; settled = b; focused = lit rs to }) blank ne)

  pub done_new : done (noted rs to d b) to ≡ b
  done_new = ap (λ (x : Record). x.settled) (get_or-set_same rs to (record { distance = d; settled = b; focused = lit rs to }) blank l)

  pub done_other : (v : ℕ) → (v ≡ to → ⊥) → done (noted rs to d b) v ≡ done rs v
  done_other v ne = ap (λ (x : Record). x.settled) (get_or-set_other rs to v (record { distance = d; settled = b; focused = lit rs to }) blank ne)

  pub lit_same : (v : ℕ) → lit (noted rs to d b) v ≡ lit rs v
  lit_same v = go (ℕ_discrete v to)
    where
      go : Dec (v ≡ to) → lit (noted rs to d b) v ≡ lit rs v
      go (yes e) = ap (lit (noted rs to d b)) e ∙ ap (λ (x : Record). x.focused) (get_or-set_same rs to (record { distance = d; settled = b; focused = lit rs to }) blank l) ∙ ap (lit rs) (sym e)
      go (no ne) = ap (λ (x : Record). x.focused) (get_or-set_other rs to v (record { distance = d; settled = b; focused = lit rs to }) blank ne)

pub record Stepped (rs : List Record) (q : List SearchEntry) (to n : ℕ) (rs' : List Record) (q' : List SearchEntry) : Type 1 where
  pub same : (v : ℕ) → done rs' v ≡ done rs v
  pub focus : (v : ℕ) → lit rs' v ≡ lit rs v
  pub lower : (v t : ℕ) → AtMost (known rs v) t → AtMost (known rs' v) t
  pub hit : AtMost (known rs' to) n
  pub still : (u k : ℕ) → known rs u ≡ Some k → k ≤ n → known rs' u ≡ Some k
  pub keeps : (ds : List Row) (Due : ℕ → ℕ → ℕ → Type 0) (s floor : ℕ) → floor ≤ n → Way ds s to n → Kept ds Due s floor (known rs) (done rs) q → Kept ds Due s floor (known rs') (done rs') q'

better : (rs : List Record) (q : List SearchEntry) (to n : ℕ) (q' : List SearchEntry) → to < length rs → (AtMost (known rs to) n → ⊥) → IsPermutation (record { distance = n; place = to } ∷ q) q' → Stepped rs q to n (noted rs to (Some n) (done rs to)) q'
better rs q to n q' l fresh bag = record {
  same = same;
  focus = lit_same rs to (Some n) (done rs to) l;
  lower = theory.lower [] (λ x w len. ⊥) 0 0 (known rs) (done rs) q (known rs') (done rs') q' to n new other same fresh bag;
  hit = subst (λ (o : Option ℕ). AtMost o n) (sym new) (omega arith);
  still = λ u k is le. still u k is le (ℕ_discrete u to);
  keeps = λ ds Due s floor. theory.bettered ds Due s floor (known rs) (done rs) q (known rs') (done rs') q' to n new other same fresh bag;
}
  where
    rs' : List Record
    rs' = noted rs to (Some n) (done rs to)

    new : known rs' to ≡ Some n
    new = known_new rs to (Some n) (done rs to) l

    other : (v : ℕ) → (v ≡ to → ⊥) → known rs' v ≡ known rs v
    other = known_other rs to (Some n) (done rs to) l

    same : (v : ℕ) → done rs' v ≡ done rs v
    same v = go (ℕ_discrete v to)
      where
        go : Dec (v ≡ to) → done rs' v ≡ done rs v
        go (yes e) = ap (done rs') e ∙ done_new rs to (Some n) (done rs to) l ∙ ap (done rs) (sym e)
        go (no ne) = done_other rs to (Some n) (done rs to) l v ne

    still : (u k : ℕ) → known rs u ≡ Some k → k ≤ n → Dec (u ≡ to) → known rs' u ≡ Some k
    still u k is le (no ne) = other u ne ∙ is
    still u k is le (yes e) = absurd (fresh (subst (λ (o : Option ℕ). AtMost o n) (sym (ap (known rs) (sym e) ∙ is)) le))

pub stepped : (rs : List Record) (q : List SearchEntry) (to n : ℕ) (rs' : List Record) (q' : List SearchEntry) → to < length rs → Relaxed rs q to n rs' q' → Stepped rs q to n rs' q'
stepped rs q to n rs' q' l (inr r) = subst (λ (x : List Record). Stepped rs q to n x q') (sym r.records) (better rs q to n q' l r.fresh r.bag)
stepped rs q to n rs' q' l (inl r) =
    subst (λ (x : List Record). Stepped rs q to n x q') (sym r.records)
    (subst (λ (p : List SearchEntry). Stepped rs q to n rs p) (sym r.bag)
    (record { same = λ v. refl; focus = λ v. refl; lower = λ v t h. h; hit = r.known_already; still = λ u k is le. is; keeps = λ ds Due s floor le w k. k }))

-- a way to u, and a duct from there
pub onward : (ds : List Row) (s u w n len : ℕ) → Way ds s u n → Joined ds u w len → Way ds s w (n + len)
onward ds s u w n len p j =
    let one : Way ds u w (len + 0) = hop ds u w (record { to = w; length = len }) 0 j (here ds w) in
    let e : len + 0 ≡ len = omega arith in
    join ds s u w n len p (subst (Way ds u w) e one)
