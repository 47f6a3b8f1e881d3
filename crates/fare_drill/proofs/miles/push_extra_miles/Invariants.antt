-- the miles of the first so many of the pairs that begin before this city
use Rattle.std.proofs.Common.{◌≡◌, ◌+◌, ◌-◌, ◌≤◌, ◌++◌, length, map, min, take, vec_capacity, vec_len}
use Rattle.std.specs.List.{enumerate_from, flat_map, range_with_len}
use Rattle.fare_drill.specs.Miles.{extra_miles, pairs_from}
use Rattle.fare_drill.proofs.miles.push_extra_miles.Given as goal

abbrev pub invariant-loop-first : goal.invariant-loop-first
invariant-loop-first l =
    let before = flat_map (pairs_from (length l.cities)) (range_with_len 0 l.first) in
    (l.records.items ≡ l.initial.records.items ++ map extra_miles (enumerate_from 0 (take l.extra before)))
    × (l.number ≡ min l.extra (length before))
    × (vec_len l.records + (l.extra - l.number) ≤ vec_capacity l.records)
