use Rattle.std.proofs.Common.{◌≡◌, arith, take}
use Rattle.std.proofs.lemmas.List.{take_all}
use Rattle.fare_csv.proofs.CanonicalLines.{back-step}
use Rattle.fare_csv.proofs.laws.records_law.Goals as goal

pub loop-record-preserved : goal.loop-record-preserved
loop-record-preserved c = back-step c.args.records.now c.loop-record.record-index c.record-item.result (omega arith) c.record-item.is c.loop-record.invariant c.record_law.ensures

pub returns : goal.returns
returns c =
    let whole : take c.loop-record.record-index c.args.records.now ≡ c.args.records.now = take_all _ _ (omega arith) in
    rw whole at c.loop-record.invariant
