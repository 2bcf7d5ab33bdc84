use Rattle.std.proofs.Common.{◌≡◌, ◌<◌, List, [], ◌∷◌, ◌++◌, length, get_or, Ok, Err, Result, MatchResult, arith}
use Rattle.std.proofs.lemmas.Grind.{common_steps}
use Rattle.ways.specs.declared.few.Full.{Full}
use Rattle.ways.specs.Few.{members}
use Rattle.job.proofs.Listings.{groups_fitted, below_stands, below_absent}
use Rattle.job.proofs.job.Job.listed.Goals as goal
use Rattle.job.proofs.job.Job.listed.Goals.{then-stands, else-stands}

-- a push with room
pushed : {X : Type 0} (r : Result (Unit {0}) Full) (old new : List X) (x : X) → MatchResult r (λ _. new ≡ old ++ x ∷ []) (λ _. (new ≡ old) × (length old ≡ 64)) → length old < 64 → new ≡ old ++ x ∷ []
pushed (Ok u) old new x h room = h
pushed (Err e) old new x h room = absurd (omega (arith, h.1))

pub loop-f-preserved : goal.loop-f-preserved
loop-f-preserved c =
    elim c.if-stands.branch [
      | then-stands w ↦
          let e = pushed w.push.result (members c.loop-f.listed) (members w.push.new.self) (get_or c.args.self.now.fittings c.loop-f.f c.fitting-item.result) w.push.ensures (omega arith) in
          (grind (arith, common_steps, below_stands), grind (arith, common_steps))
      | else-stands w ↦ grind (arith, common_steps, below_absent)
    ]

pub returns-clause-fitted : goal.returns-clause-fitted
returns-clause-fitted c = (groups_fitted c.args.self.now).0
