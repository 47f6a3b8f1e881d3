-- the count is raised, and nothing is shown
use Rattle.fare_check.proofs.Told.{counts_more}
use Rattle.fare_check.proofs.report.Report.count_more.Goals as goal

pub returns : goal.returns
returns c = λ lines all. counts_more c.add.result c.args.self.now c.add.new.self c.args.more lines c.requires all c.add.ensures
