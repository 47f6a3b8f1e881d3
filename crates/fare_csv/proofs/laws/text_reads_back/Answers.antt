use Rattle.std.specs.List.{All}
use Rattle.fare_csv.specs.ReadBack.{ReadsBack}
use Rattle.fare_csv.proofs.EditionReadBack.{edition_reads_back}
use Rattle.fare_csv.proofs.laws.text_reads_back.Goals as goal

pub returns : goal.returns
returns c =
    let each : All ReadsBack c.args.edition.now.records = rw c.records.ensures.records at c.records_law.ensures in
    edition_reads_back c.args.edition.now c.head_law.ensures each c.records.ensures.valid
