-- the ways from each city up to this one
use Rattle.std.proofs.Common.{◌≡◌}
use Rattle.std.specs.List.{flat_map, range_with_len}
use Rattle.fare_drill.specs.Fares.{ways_from}
use Rattle.fare_drill.proofs.ways.ways.Given as goal

abbrev pub invariant-loop-from : goal.invariant-loop-from
invariant-loop-from l = l.ways.items ≡ flat_map (ways_from l.count) (range_with_len 0 l.from)
