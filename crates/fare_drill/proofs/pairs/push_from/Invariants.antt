-- the pairs with each number up to this one
use Rattle.std.proofs.Common.{◌≡◌, ◌+◌, ◌-◌, ◌++◌, map}
use Rattle.std.specs.List.{range_with_len}
use Rattle.fare_drill.specs.Miles.{pair}
use Rattle.fare_drill.proofs.pairs.push_from.Given as goal

abbrev pub invariant-loop-second : goal.invariant-loop-second
invariant-loop-second l =
    l.pairs.items ≡ l.initial.pairs.items ++ map (pair l.first) (range_with_len (l.first + 1) (l.second - (l.first + 1)))
