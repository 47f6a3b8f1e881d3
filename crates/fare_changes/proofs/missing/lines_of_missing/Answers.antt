use Rattle.fare_changes.specs.Diff.{is_missing}
use Rattle.fare_changes.proofs.MissingLines.{count_more, lines_more, one_at_most}
use Rattle.fare_changes.proofs.missing.lines_of_missing.Goals as goal

pub loop-one-preserved : goal.loop-one-preserved
loop-one-preserved c = record {
  text = lines_more c.args.sign.now c.args.records.now c.args.others.now c.loop-one.one-index c.one-item.result
      c.loop-one.lines.text.items c.add_missing.new.lines.text.items c.loop-one-test.true c.one-item.is
      c.loop-one.invariant.text c.in_ok-add_missing.ensures.text;
  count = count_more c.args.records.now c.args.others.now c.loop-one.one-index c.one-item.result
      c.loop-one.lines.count c.add_missing.new.lines.count c.loop-one-test.true c.one-item.is
      c.loop-one.invariant.count c.in_ok-add_missing.ensures.count;
  few = one_at_most (is_missing c.args.others.now c.one-item.result) c.loop-one.lines.count c.loop-one.one-index c.add_missing.new.lines.count c.loop-one.invariant.few c.in_ok-add_missing.ensures.count;
}
