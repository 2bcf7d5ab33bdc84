use Rattle.std.proofs.Common.{ℕ, zero, suc, ◌+◌, ◌<◌, [], ◌∷◌, get_or, refl, inl, inr, arith, rules}
use Rattle.frame.specs.Neighbours.{degree}
use Rattle.ranking.specs.Ranking.{Before}
use Rattle.measured.specs.Example.{ducts}
use Rattle.measured.proofs.frame_ranking.Goals as goal

pub returns : goal.returns
unfolding degree
returns c = record {
  each = search rules;
  before = at;
}
  where
    at : (i : ℕ) → i + 1 < 5 → Before ducts (get_or (3 ∷ 0 ∷ 1 ∷ 2 ∷ 4 ∷ []) i 0) (get_or (3 ∷ 0 ∷ 1 ∷ 2 ∷ 4 ∷ []) (i + 1) 0)
    at zero l = inl (omega arith)
    at (suc zero) l = inr (refl, omega arith)
    at (suc (suc zero)) l = inr (refl, omega arith)
    at (suc (suc (suc zero))) l = inl (omega arith)
    at (suc (suc (suc (suc i)))) l = absurd (omega arith)
