use Rattle.fare_changes.proofs.Counted.{same_left, same_right}
use Rattle.fare_changes.proofs.Once.{edition_once}
use Rattle.fare_changes.proofs.laws.lines_count_all.Goals as goal

pub returns : goal.returns
returns c = record {
  old = same_left c.args.old.now c.args.new.now;
  new = same_right c.args.old.now c.args.new.now
      (edition_once c.args.old.now.records c.records-old.ensures.valid.no_fault)
      (edition_once c.args.new.now.records c.records-new.ensures.valid.no_fault);
}
