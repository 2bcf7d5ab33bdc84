-- The ducts of one place, one after another. Assumes nothing.
use Rattle.std.proofs.Common.{◌≡◌, ℕ, ◌+◌, ◌<◌, ◌≤◌, List, length, Some, None, Option, sym, ap, ◌∙◌, subst, arith}
use native.Mathlib.Decide.{ℕ_discrete, dec_le}
use Rattle.std.proofs.ByRecursion.{All-from_get_or, All-get_or}
use Rattle.heap.specs.declared.search.SearchEntry.{SearchEntry}
use Rattle.ways.specs.declared.row.Row.{Row}
use Rattle.ways.specs.Way.{Joined, Lawful}
use Rattle.ways.specs.Options.{AtMost}
use Rattle.ways.specs.Distance.{Reached}
use Rattle.ways.proofs.Graph.{to_in, no_longer}
use Rattle.frame.specs.declared.arc.Arc.{Arc}
use Rattle.frame.specs.Fans.{arc_at, no_arc}
use Rattle.frame.specs.Neighbours.{Neighbours}
use Rattle.search.specs.declared.record.Record.{Record}
use Rattle.search.specs.State.{known, done, Kept, But}
use Rattle.search.proofs.Steps.{Stepped, onward}
use Rattle.search.proofs.Theory.{followed}

-- what is not false of a test is true
by_test : (o : Option ℕ) (t : ℕ) → ((AtMost o t → ⊥) → ⊥) → AtMost o t
by_test None t h = h (λ a. a)
by_test (Some d) t h = go (dec_le d t)
  where
    go : Dec (d ≤ t) → d ≤ t
    go (yes le) = le
    go (no gt) = absurd (h gt)

-- the first i arcs of u have been followed
abbrev pub Following : List Row → List Arc → ℕ → ℕ → ℕ → ℕ → List Record → List SearchEntry → Type 0
Following ds ls u n i s rs q =
    Kept ds (But ds u) s n (known rs) (done rs) q
    × (known rs u ≡ Some n)
    × ((j : ℕ) → j < i → AtMost (known rs (arc_at ls j).to) (n + (arc_at ls j).length))

-- an arc of u, and what follows from the frame
pub record Met (n : ℕ) (ds : List Row) (ls : List Arc) (u i : ℕ) (arc : Arc) : Type 0 where
  pub is : arc ≡ arc_at ls i
  pub joined : Joined ds u arc.to arc.length
  pub inside : arc.to < n
  pub short : arc.length ≤ 1000000

pub met : (n : ℕ) (ds : List Row) (ls : List Arc) (u i : ℕ) (arc : Arc) → Lawful n ds → Neighbours ds u ls → i < length ls → arc ≡ arc_at ls i → Met n ds ls u i arc
met n ds ls u i arc lawful near l e =
    let j : Joined ds u arc.to arc.length =
    subst (λ (a : Arc). Joined ds u a.to a.length) (sym e) (All-get_or (λ a. Joined ds u a.to a.length) ls i no_arc l near.joined) in
    record { is = e; joined = j; inside = to_in n ds u arc.to arc.length lawful j; short = no_longer n ds u arc.to arc.length lawful j }

pub follow_all : (ds : List Row) (ls : List Arc) (u m s i : ℕ) (rs : List Record) (q : List SearchEntry) → Neighbours ds u ls → length ls ≤ i → Following ds ls u m i s rs q → Kept ds (Joined ds) s m (known rs) (done rs) q
follow_all ds ls u m s i rs q near le h =
    followed ds s u m (known rs) (done rs) q h.0 h.1 all
  where
    all : (w len : ℕ) → Joined ds u w len → AtMost (known rs w) (m + len)
    all w len j = by_test (known rs w) (m + len) (λ none.
        near.whole w len j (All-from_get_or (λ a. a.to ≡ w → a.length ≡ len → ⊥) ls no_arc (λ k l e g.
        none (subst (λ (x : ℕ). AtMost (known rs x) (m + len)) e (subst (λ (x : ℕ). AtMost (known rs (arc_at ls k).to) (m + x)) g (h.2 k (omega arith)))))))

pub follow_more : (m : ℕ) (ds : List Row) (ls : List Arc) (u i : ℕ) (arc : Arc) → Met m ds ls u i arc → (n s : ℕ) (rs : List Record) (q : List SearchEntry) (rs' : List Record) (q' : List SearchEntry) → Stepped rs q arc.to (n + arc.length) rs' q' → Following ds ls u n i s rs q → Following ds ls u n (i + 1) s rs' q'
follow_more m ds ls u i arc a n s rs q rs' q' st h = (
  st.keeps ds (But ds u) s n (omega arith) (onward ds s u arc.to n arc.length (subst (Reached ds s u) h.1 (h.0.ways u)) a.joined) h.0,
  st.still u n h.1 (omega arith),
  λ j high. go j high (ℕ_discrete j i),
)
  where
    go : (j : ℕ) → j < i + 1 → Dec (j ≡ i) → AtMost (known rs' (arc_at ls j).to) (n + (arc_at ls j).length)
    go j high (yes e) =
        subst (λ (x : Arc). AtMost (known rs' x.to) (n + x.length)) (a.is ∙ ap (arc_at ls) (sym e)) st.hit
    go j high (no ne) = st.lower (arc_at ls j).to (n + (arc_at ls j).length) (h.2 j (omega arith))
