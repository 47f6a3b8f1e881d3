use Rattle.std.proofs.Common.{take}
use Rattle.std.specs.List.{All}
use Rattle.fare_csv.specs.ReadBack.{ReadsBack}
use Rattle.fare_csv.proofs.laws.records_law.Given as goal

-- the records so far are read back
abbrev pub invariant-loop-record : goal.invariant-loop-record
invariant-loop-record l = All ReadsBack (take l.record-index l.records)
