use Rattle.fare_changes.proofs.Once.{stands_once}
use Rattle.fare_changes.proofs.laws.records_stand_once.Goals as goal

pub returns : goal.returns
returns c = stands_once c.args.edition.now.records c.records-records.ensures.valid.no_fault
