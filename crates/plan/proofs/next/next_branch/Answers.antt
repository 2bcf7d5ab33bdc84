use Rattle.std.proofs.Common.{◌≡◌, ℕ, Bool, List, [], ◌∷◌, get_or, Option, sym, ◌∙◌, subst, inl, inr}
use Rattle.ways.specs.Places.{On}
use Rattle.oracle.specs.Meaning.{Meaning}
use Rattle.trees.proofs.Places.{get_or_on}
use Rattle.plan.specs.declared.branch.Branch.{Branch}
use Rattle.plan.specs.Trunks.{BranchFrom, Joinable}
use Rattle.plan.proofs.Nexts.{next_at}
use Rattle.plan.proofs.next.next_branch.Goals as goal

one_of : (m m' : Meaning) (f f' : ℕ → Bool) (cs : List ℕ) (c : ℕ) → m' ≡ m → f' ≡ f → On c cs → Joinable m f cs → Joinable m' f' (c ∷ [])
one_of m m' f f' cs c p q o j =
    subst (λ (y : Meaning). Joinable y f' (c ∷ [])) (sym p) (subst (λ (y : ℕ → Bool). Joinable m y (c ∷ [])) (sym q) one)
  where
    one : Joinable m f (c ∷ [])
    one x (inl e) = j x (subst (λ (y : ℕ). On y cs) (sym e) o)
    one x (inr i) = absurd i

from_at : (m m' : Meaning) (f f' : ℕ → Bool) (c : ℕ) (a : Option Branch) → m' ≡ m → f' ≡ f → BranchFrom m' f' c a → BranchFrom m f c a
from_at m m' f f' c a p q k = subst (λ (y : Meaning). BranchFrom y f c a) p (subst (λ (y : ℕ → Bool). BranchFrom m' y c a) q k)

pub branch_from-requires : goal.branch_from-requires
branch_from-requires g c =
    let o = c.args.o.now in
    let xs : List ℕ = c.args.chosen.now in
    one_of (g.O.DistanceOracle.meaning o) (g.O.DistanceOracle.meaning c.loop-place.o) (g.O.GroupOracle.focused o) (g.O.GroupOracle.focused c.loop-place.o) xs (get_or xs c.loop-place.place-index 0) c.loop-place.invariant.1 c.loop-place.invariant.2 (get_or_on xs c.loop-place.place-index c.loop-place-test.true) c.requires

pub loop-place-preserved : goal.loop-place-preserved
loop-place-preserved g c =
    let o = c.args.o.now in
    let xs : List ℕ = c.args.chosen.now in
    let i : ℕ = c.loop-place.place-index in
    let kept = c.branch_from.ensures.kept in (
      next_at (g.O.DistanceOracle.meaning o) (g.O.GroupOracle.focused o) xs i c.loop-place.best c.branch_from.result c.lesser-best.result c.loop-place-test.true c.loop-place.invariant.0 (from_at (g.O.DistanceOracle.meaning o) (g.O.DistanceOracle.meaning c.loop-place.o) (g.O.GroupOracle.focused o) (g.O.GroupOracle.focused c.loop-place.o) (get_or xs i 0) c.branch_from.result c.loop-place.invariant.1 c.loop-place.invariant.2 c.branch_from.ensures.value) c.lesser-best.ensures,
      g.met.O.DistanceOracle.kept_meaning c.loop-place.o c.branch_from.new.o kept ∙ c.loop-place.invariant.1,
      g.met.O.GroupOracle.kept_focus c.loop-place.o c.branch_from.new.o kept ∙ c.loop-place.invariant.2,
    )
