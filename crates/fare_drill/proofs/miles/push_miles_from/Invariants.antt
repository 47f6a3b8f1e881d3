-- the miles to each of the next so many cities
use Rattle.std.proofs.Common.{◌≡◌, ◌+◌, ◌-◌, ◌≤◌, ◌++◌, map, vec_capacity, vec_len}
use Rattle.std.specs.List.{enumerate_from, range_with_len}
use Rattle.fare_drill.specs.Miles.{extra_miles, pair}
use Rattle.fare_drill.proofs.miles.push_miles_from.Given as goal

abbrev pub invariant-loop-k : goal.invariant-loop-k
invariant-loop-k l =
    (l.records.items
    ≡ l.initial.records.items ++ map extra_miles (enumerate_from l.start (map (pair l.first) (range_with_len (l.first + 1) l.k))))
    × (vec_len l.records + (l.end - (l.start + l.k)) ≤ vec_capacity l.records)
