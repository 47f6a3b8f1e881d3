-- past the limit each record has a kind, and in it the tests tell
use Rattle.std.proofs.Common.{◌≡◌, get_or, ap, sym, ◌∙◌}
use Rattle.fare_tariff.proofs.FaultPlaces.{out_at}
use Rattle.fare_tariff.proofs.KindTests.{kind_tells}
use Rattle.fare_tariff.proofs.check.kind.has_kind.Goals as goal

pub returns-then-place-ge-MOST_RECORDS : goal.returns-then-place-ge-MOST_RECORDS
returns-then-place-ge-MOST_RECORDS c = sym (out_at c.args.filed.now c.args.place c.requires c.if-place-ge-MOST_RECORDS.true)

pub is_faulty-requires-clause-at : goal.is_faulty-requires-clause-at
is_faulty-requires-clause-at c = c.index-records-place.is ∙ ap (λ l. get_or l c.args.place c.index-records-place.result) c.records.ensures.records

pub returns : goal.returns
returns c =
    let read : c.index-records-place.result ≡ get_or c.args.filed.now c.args.place c.index-records-place.result = c.index-records-place.is ∙ ap (λ l. get_or l c.args.place c.index-records-place.result) c.records.ensures.records in
    c.is_faulty.ensures ∙ sym (kind_tells c.args.filed.now c.args.place c.index-records-place.result c.requires c.if-place-ge-MOST_RECORDS.false read)
