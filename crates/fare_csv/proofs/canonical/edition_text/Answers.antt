use Rattle.std.proofs.Common.{◌≡◌, arith, refl, take}
use Rattle.std.specs.List.{All}
use Rattle.std.proofs.lemmas.List.{take_all}
use Rattle.fare_csv.specs.ReadBack.{HeadReadsBack, ReadsBack}
use Rattle.fare_csv.proofs.CanonicalLines.{back-start, back-step, lines-start, lines-step, lines-whole}
use Rattle.fare_csv.proofs.EditionReadBack.{edition_reads_back}
use Rattle.fare_csv.proofs.canonical.edition_text.Goals as goal

pub loop-record-init : goal.loop-record-init
loop-record-init c = record {
  lines = rw (c.in_ok-write_head.ensures.line, c.new-lines.ensures, c.number.ensures.value, c.effective.ensures) (lines-start _);
  back = back-start c.records-record-items.result.now;
}

pub loop-record-preserved : goal.loop-record-preserved
loop-record-preserved c = record {
  lines = rw (c.in_ok-write_record.ensures.line, c.loop-record.invariant.lines) (lines-step _ c.records-record-items.result.now c.loop-record.record-index c.record-item.result (omega arith) c.record-item.is);
  back = back-step c.records-record-items.result.now c.loop-record.record-index c.record-item.result (omega arith) c.record-item.is c.loop-record.invariant.back c.in_ok-write_record.ensures.read_back;
}

pub returns : goal.returns
returns c =
    let whole : take c.loop-record.record-index c.records-record-items.result.now ≡ c.records-record-items.result.now = take_all _ _ (omega arith) in
    let each : All ReadsBack c.args.edition.now.records = rw (whole, c.records-record-items.ensures.records) at c.loop-record.invariant.back in
    let head : HeadReadsBack c.args.edition.now.number c.args.edition.now.effective = rw (c.number.ensures.value, c.effective.ensures) at c.in_ok-write_head.ensures.read_back in
    rw (c.in_ok-into_text.ensures, c.in_ok-write_end.ensures, c.loop-record.invariant.lines, whole, c.records-record-items.ensures.records, lines-whole c.args.edition.now) (record {
      text = refl;
      read_back = edition_reads_back c.args.edition.now head each c.records-record-items.ensures.valid;
    })
