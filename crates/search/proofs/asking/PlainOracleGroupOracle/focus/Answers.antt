use Rattle.std.proofs.Common.{ℕ, ◌<◌, length, vec_items, vec_len, refl, subst, rules}
use Rattle.search.proofs.Lights.{lit_more}
use Rattle.search.proofs.asking.PlainOracleGroupOracle.focus.Goals as goal

pub returns-clause-value : goal.returns-clause-value
returns-clause-value c =
    let rs = c.args.self.now.records in
    let m : c.args.v < vec_len rs = search rules in
    let l : c.args.v < length (vec_items rs) = subst (λ (n : ℕ). c.args.v < n) rs.ok.0 m in
    (search rules, lit_more (vec_items rs) c.args.v _ l refl)
