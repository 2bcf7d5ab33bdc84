use Rattle.std.proofs.Common.{◌≡◌, ℕ, List, IfSome, Option, Bor, sym, subst, rules}
use Rattle.std.specs.Option.{option_map}
use Rattle.job.specs.Held.{held}
use Rattle.job.specs.Places.{Fitted}
use Rattle.job.proofs.Listings.{held_fitted}
use Rattle.job.proofs.job.Job.places_of.Goals as goal

pub returns-clause-fitted : goal.returns-clause-fitted
returns-clause-fitted c =
    let job = c.args.self.now in
    let is : option_map (λ (x : Bor (List ℕ)). x.now) c.then_some.result ≡ held job c.args.fitting = search rules in
    subst (λ (o : Option (List ℕ)). IfSome o (Fitted job.heading.places)) (sym is) (held_fitted job c.args.fitting)
