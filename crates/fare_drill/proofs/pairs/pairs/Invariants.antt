-- the pairs of each number up to this one
use Rattle.std.proofs.Common.{◌≡◌}
use Rattle.std.specs.List.{flat_map, range_with_len}
use Rattle.fare_drill.specs.Miles.{pairs_from}
use Rattle.fare_drill.proofs.pairs.pairs.Given as goal

abbrev pub invariant-loop-first : goal.invariant-loop-first
invariant-loop-first l = l.pairs.items ≡ flat_map (pairs_from l.count) (range_with_len 0 l.first)
