-- The arcs of one place, as a list of their own. Assumes nothing.
use Rattle.std.proofs.Common.{◌≡◌, ℕ, suc, ◌+◌, ◌-◌, ◌<◌, ◌≤◌, List, [], ◌∷◌, length, get_or, take, drop, sum_by, sym, ap, ◌∙◌, subst, arith, length-drop, length-take}
use Rattle.std.specs.List.{AllByRecursion}
use Rattle.std.proofs.ByRecursion.{All-from_get_or, All-get_or}
use Rattle.std.proofs.lemmas.List.{get_or-take, get_or-drop, get_or_default}
use Rattle.ways.specs.declared.row.Row.{Row}
use Rattle.ways.specs.Way.{Joins, Joined, Lawful}
use Rattle.ways.proofs.Graph.{from_in}
use Rattle.frame.specs.declared.arc.Arc.{Arc}
use Rattle.frame.specs.Rows.{row_at}
use Rattle.frame.specs.Fans.{arcs_from, no_arc, arc_at, from_at, weight, Fanned}
use Rattle.frame.specs.Neighbours.{Neighbours, degree}
use Rattle.frame.proofs.Arcs.{length_arcs}
use Rattle.frame.proofs.Degrees.{degree_weight}
use Rattle.frame.proofs.Fan.{joins, ordered}
use Rattle.frame.proofs.Sounds.{le}
use Rattle.frame.proofs.Sums.{sum_none, sum_ones, sum_range, weight_off}

-- where each duct that touches v counts once, there are as many as touch it
count_once : (n : ℕ) (ds : List Row) (v : ℕ) (ls : List Arc) → Lawful n ds → sum_by (λ a. 1) ls ≡ sum_by (weight (λ a. 1) v) (arcs_from 0 ds) → length ls ≡ degree ds v
count_once n ds v ls l e = sym (sum_ones ls) ∙ e ∙ degree_weight n 0 v ds l

-- no duct touches what is no place
no_weight : (n k v : ℕ) (ds : List Row) (f : Arc → ℕ) → n ≤ v → Lawful n ds → AllByRecursion (λ a. weight f v a ≡ 0) (arcs_from k ds)
no_weight n k v [] f out l = tt
no_weight n k v (d ∷ ds) f out l = (
  weight_off f v _ (λ e. omega (arith, e, l.0.first_in)),
  (weight_off f v _ (λ e. omega (arith, e, l.0.second_in)), no_weight n (k + 1) v ds f out l.1),
)

-- so it has no neighbours
pub no_neighbours : (n : ℕ) (ds : List Row) (v : ℕ) → Lawful n ds → n ≤ v → Neighbours ds v []
no_neighbours n ds v l out = record {
  owned = tt;
  joined = tt;
  named = tt;
  whole = λ w len j none. omega (arith, from_in n ds v w len l j);
  once = once;
  rising = λ i j d low lt. absurd (omega arith);
  count = count_once n ds v [] l (once (λ a. 1));
}
  where
    once : (f : Arc → ℕ) → sum_by f [] ≡ sum_by (weight f v) (arcs_from 0 ds)
    once f = sym (sum_none (weight f v) (arcs_from 0 ds) (no_weight n 0 v ds f out l))

-- where the arcs of v stand
pub record Span (offs : List ℕ) (arcs : List Arc) (v lo hi : ℕ) : Type 0 where
  pub start : lo ≡ from_at offs v
  pub end : hi ≡ from_at offs (v + 1)
  pub rises : lo ≤ hi
  pub fits : hi ≤ length arcs
  pub few : length arcs ≤ 32768

module _ (n : ℕ) (ds : List Row) (offs : List ℕ) (arcs : List Arc) (f : Fanned n ds offs arcs) (v : ℕ) (in' : v < n) where
  -- the offsets of v and of the next place tell it
  pub span : (lo hi : ℕ) → lo ≡ from_at offs v → hi ≡ from_at offs (v + 1) → Span offs arcs v lo hi
  span lo hi a b =
      let low = f.parted v (omega (arith, f.count)) in
      let high = f.parted (v + 1) (omega (arith, f.count)) in
      record {
        start = a;
        end = b;
        rises = le lo hi (λ gt. omega (arith, low.1 hi (omega (arith, a)), high.2 hi (omega (arith, b)) (omega (arith, a, low.0))));
        fits = omega (arith, b, high.0);
        few = omega (arith, sum_ones arcs, f.once (λ a. 1), sum_ones (arcs_from 0 ds), length_arcs 0 ds, f.frame.few_ducts);
      }

  module _ (lo hi : ℕ) (s : Span offs arcs v lo hi) where
    before : (i : ℕ) → i < lo → (arc_at arcs i).from < v
    before i l = (f.parted v (omega (arith, f.count))).1 i (omega (arith, s.start))

    after : (i : ℕ) → hi ≤ i → i < length arcs → v < (arc_at arcs i).from
    after i low l = omega (arith, (f.parted (v + 1) (omega (arith, f.count))).2 i (omega (arith, s.end)) l)

    begins : (i : ℕ) → lo ≤ i → i < hi → (arc_at arcs i).from ≡ v
    begins i low high =
        omega (arith, (f.parted v (omega (arith, f.count))).2 i (omega (arith, s.start)) (omega (arith, s.fits)), (f.parted (v + 1) (omega (arith, f.count))).1 i (omega (arith, s.end)))

    size : length (take (hi - lo) (drop lo arcs)) ≡ hi - lo
    size = omega (arith, length-take (hi - lo) (drop lo arcs), length-drop lo arcs, s.fits, s.rises)

    read : (i : ℕ) → i < hi - lo → get_or (take (hi - lo) (drop lo arcs)) i no_arc ≡ arc_at arcs (lo + i)
    read i l = get_or-take (hi - lo) (drop lo arcs) i no_arc l ∙ get_or-drop lo arcs i no_arc

    each : (P : Arc → Type 0) → ((i : ℕ) → lo ≤ i → i < hi → P (arc_at arcs i)) → AllByRecursion P (take (hi - lo) (drop lo arcs))
    each P h = All-from_get_or P (take (hi - lo) (drop lo arcs)) no_arc (λ i l.
        let k : i < hi - lo = subst (λ (x : ℕ). i < x) size l in
        subst P (sym (read i k)) (h (lo + i) (omega arith) (omega arith)))

    within : (i : ℕ) → i < hi → i < length arcs
    within i l = omega (arith, s.fits)

    once : (g : Arc → ℕ) → sum_by g (take (hi - lo) (drop lo arcs)) ≡ sum_by (weight g v) (arcs_from 0 ds)
    once g = sum_range g v lo hi arcs s.rises s.fits before begins after ∙ f.once (weight g v)

    -- what stands there is the neighbours of v
    pub neighbours : Neighbours ds v (take (hi - lo) (drop lo arcs))
    neighbours = record {
      owned = each (λ a. a.from ≡ v) begins;
      joined = each (λ a. Joined ds v a.to a.length) (λ i low high. subst (λ (x : ℕ). Joined ds x (arc_at arcs i).to (arc_at arcs i).length) (begins i low high) (joins n ds offs arcs f i (within i high)));
      named = each (λ a. (a.duct < length ds) × Joins (row_at ds a.duct) v a.to a.length) (λ i low high.
          let k = f.named i (within i high) in
          (k.0, subst (λ (x : ℕ). Joins (row_at ds (arc_at arcs i).duct) x (arc_at arcs i).to (arc_at arcs i).length) (begins i low high) k.1));
      whole = λ w len j none. f.whole v w len j (λ i l e.
          let low : lo ≤ i = le lo i (λ gt. omega (arith, before i (omega arith))) in
          let high : i < hi = le (suc i) hi (λ gt. omega (arith, after i (omega arith) l)) in
          let k : i - lo < hi - lo = omega arith in
          let is : lo + (i - lo) ≡ i = omega arith in
          subst (λ (a : Arc). a.to ≡ w → a.length ≡ len → ⊥) (read (i - lo) k ∙ ap (arc_at arcs) is)
          (All-get_or (λ a. a.to ≡ w → a.length ≡ len → ⊥) (take (hi - lo) (drop lo arcs)) (i - lo) no_arc (subst (λ (x : ℕ). i - lo < x) (sym size) k) none));
      once = once;
      rising = λ i j d low h.
          let k : j < hi - lo = subst (λ (x : ℕ). j < x) size h in
          let l : i < length (take (hi - lo) (drop lo arcs)) = omega arith in
          let p = ap (λ (a : Arc). a.to) (get_or_default (take (hi - lo) (drop lo arcs)) i d no_arc l ∙ read i (omega arith)) in
          let q = ap (λ (a : Arc). a.to) (get_or_default (take (hi - lo) (drop lo arcs)) j d no_arc h ∙ read j k) in
          omega (arith, p, q, ordered n ds offs arcs f (lo + i) (lo + j) (omega arith) (omega (arith, s.fits)) (begins (lo + i) (omega arith) (omega arith) ∙ sym (begins (lo + j) (omega arith) (omega arith))));
      count = count_once n ds v (take (hi - lo) (drop lo arcs)) f.frame.lawful (once (λ a. 1));
    }
