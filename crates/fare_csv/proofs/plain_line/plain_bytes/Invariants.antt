use Rattle.std.proofs.Common.{◌≡◌, true, take}
use Rattle.fare_csv.specs.Lines.{is_plain_field}
use Rattle.fare_csv.proofs.plain_line.plain_bytes.Given as goal

abbrev pub invariant-loop-at : goal.invariant-loop-at
invariant-loop-at l = is_plain_field (take l.at l.text) ≡ true
