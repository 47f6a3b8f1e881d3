use Rattle.fare_changes.proofs.SameRecords.{same_alone}
use Rattle.fare_changes.proofs.same.same_record.Goals as goal

pub returns : goal.returns
returns c =
    same_alone c.same_records.result c.args.a.now c.args.b.now c.from_ref.result.now c.from_ref-2.result.now
    c.from_ref.ensures.value c.from_ref-2.ensures.value c.same_records.ensures
