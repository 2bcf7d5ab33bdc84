use Rattle.std.proofs.Common.{rules, None}
use Rattle.job.specs.Day.{drops}
use Rattle.job.specs.Held.{fault_of}
use Rattle.job.proofs.Days.{every_day}
use Rattle.job.proofs.job.Job.drop.Goals as goal

pub returns-in_err-check_drop-clause-day : goal.returns-in_err-check_drop-clause-day
returns-in_err-check_drop-clause-day c = every_day c.args.self.now (drops c.args.fitting) (fault_of c.from_residual.result) c.args.self.now (search rules)

pub returns-clause-day : goal.returns-clause-day
returns-clause-day c = every_day c.args.self.now (drops c.args.fitting) None c.leave.new.self (search rules)
