use Rattle.fare_http.proofs.LengthLemmas.{values_named-more}
use Rattle.fare_http.proofs.lengths.values_of.Goals as goal

pub loop-field-preserved : goal.loop-field-preserved
loop-field-preserved c =
    let now = c.with_field-found.ensures in
    let more = values_named-more c.args.name.now c.args.taken.now c.args.fields.now c.loop-field.field-index _ c.loop-field-test.true in
    record {
      values = rw more (now.values _ c.loop-field.invariant.values);
      within = now.within;
    }
