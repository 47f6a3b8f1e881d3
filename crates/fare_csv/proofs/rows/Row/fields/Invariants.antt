use Rattle.std.proofs.Common.{◌≡◌, take}
use Rattle.fare_csv.proofs.rows.Row.fields.Given as goal

abbrev pub invariant-loop-index : goal.invariant-loop-index
invariant-loop-index l = l.fields ≡ take l.index l.self
