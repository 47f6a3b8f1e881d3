-- a new report was told nothing
use Rattle.std.proofs.Common.{refl}
use Rattle.fare_check.proofs.Told.{told_nothing}
use Rattle.fare_check.proofs.report.Report.new.Goals as goal

pub returns-clause-text : goal.returns-clause-text
returns-clause-text c = λ lines. told_nothing _ lines c.new.ensures.items refl
