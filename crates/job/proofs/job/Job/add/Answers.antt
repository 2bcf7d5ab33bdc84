use Rattle.std.proofs.Common.{rules, None}
use Rattle.job.specs.Day.{adds}
use Rattle.job.specs.Held.{fault_of}
use Rattle.job.proofs.Days.{every_day}
use Rattle.job.proofs.job.Job.add.Goals as goal

pub returns-in_err-entry-clause-day : goal.returns-in_err-entry-clause-day
returns-in_err-entry-clause-day c = every_day c.args.self.now (adds c.args.fitting c.args.places.now) (fault_of c.from_residual.result) c.args.self.now (search rules)

pub returns-clause-day : goal.returns-clause-day
returns-clause-day c = every_day c.args.self.now (adds c.args.fitting c.args.places.now) None c.enter.new.self (search rules)
