use Rattle.fare_csv.proofs.Unquoted.{no_quotation_mark}
use Rattle.fare_csv.proofs.pieces.is_unquoted.Goals as goal

pub returns : goal.returns
returns c = rw c.contains.ensures.value (no_quotation_mark c.args.text.now)
