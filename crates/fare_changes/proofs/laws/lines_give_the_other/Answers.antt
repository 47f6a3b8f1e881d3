use Rattle.fare_changes.proofs.Once.{edition_once}
use Rattle.fare_changes.proofs.Shuffled.{changes_give}
use Rattle.fare_changes.proofs.laws.lines_give_the_other.Goals as goal

pub returns : goal.returns
returns c =
    changes_give c.args.old.now.records c.args.new.now.records
    (edition_once c.args.old.now.records c.records-old.ensures.valid.no_fault)
    (edition_once c.args.new.now.records c.records-new.ensures.valid.no_fault)
