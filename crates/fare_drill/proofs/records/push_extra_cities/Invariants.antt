-- the record of each extra city up to this one
use Rattle.std.proofs.Common.{◌≡◌, ◌++◌, map}
use Rattle.std.specs.List.{range_with_len}
use Rattle.fare_drill.specs.Cities.{extra_record}
use Rattle.fare_drill.proofs.records.push_extra_cities.Given as goal

abbrev pub invariant-loop-i : goal.invariant-loop-i
invariant-loop-i l = l.records.items ≡ l.initial.records.items ++ map extra_record (range_with_len 0 l.i)
