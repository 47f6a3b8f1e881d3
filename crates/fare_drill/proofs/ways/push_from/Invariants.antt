-- the ways to each city up to this one
use Rattle.std.proofs.Common.{◌≡◌, ◌++◌}
use Rattle.std.specs.List.{flat_map, range_with_len}
use Rattle.fare_drill.specs.Fares.{ways_to}
use Rattle.fare_drill.proofs.ways.push_from.Given as goal

abbrev pub invariant-loop-to : goal.invariant-loop-to
invariant-loop-to l = l.ways.items ≡ l.initial.ways.items ++ flat_map (ways_to l.from) (range_with_len 0 l.to)
