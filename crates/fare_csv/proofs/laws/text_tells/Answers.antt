use Rattle.fare_csv.proofs.EditionReadBack.{one_text}
use Rattle.fare_csv.proofs.laws.text_tells.Goals as goal

pub returns : goal.returns
returns c same = one_text c.args.one.now c.args.other.now c.text_reads_back.ensures c.text_reads_back-2.ensures same
