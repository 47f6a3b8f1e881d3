use Rattle.fare_book.proofs.Latest.{selected_none, selected_some}
use Rattle.fare_book.proofs.laws.selected_is_latest.Goals as goal

pub returns : goal.returns
returns c = record { some = selected_some; none = selected_none }
