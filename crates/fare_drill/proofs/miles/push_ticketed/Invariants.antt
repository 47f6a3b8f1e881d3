-- the miles of each pair up to this one
use Rattle.std.proofs.Common.{◌≡◌, ◌++◌, map, take}
use Rattle.fare_drill.specs.Miles.{ticketed}
use Rattle.fare_drill.proofs.miles.push_ticketed.Given as goal

abbrev pub invariant-loop-pair : goal.invariant-loop-pair
invariant-loop-pair l = l.records.items ≡ l.initial.records.items ++ map ticketed (take l.pair-index l.pairs)
