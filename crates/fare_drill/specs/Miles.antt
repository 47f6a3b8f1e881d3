-- The miles of a drill, for unordered pairs of its cities.
use Rattle.std.specs.Prelude.{ℕ, ◌+◌, ◌*◌, ◌-◌, ◌%◌, List, map}
use Rattle.std.specs.List.{flat_map, range_with_len}
use Rattle.fare_codes.specs.declared.indicator.Indicator.TheVariants.{EH}
use Rattle.fare_records.specs.declared.record.Record.{Record}
use Rattle.fare_records.specs.declared.record.Record.TheVariants as filed
use Rattle.fare_drill.specs.Cities.{city, extra_city}

-- an unordered pair of numbers, the lesser one first
pub record NumberPair : Type 0 where
  pub first : ℕ
  pub second : ℕ

-- the pair of two numbers
abbrev pub pair : ℕ → ℕ → NumberPair
pair i j = record { first = i; second = j }

-- the pairs of a number and each greater one below a count
abbrev pub pairs_from : ℕ → ℕ → List NumberPair
pairs_from count i = map (pair i) (range_with_len (i + 1) (count - (i + 1)))

-- the pairs of each number below a count and each greater one
abbrev pub pairs : ℕ → List NumberPair
pairs count = flat_map (pairs_from count) (range_with_len 0 count)

-- the permitted miles of two cities are 120 for each step of distance
abbrev pub permitted : NumberPair → Record
permitted p = filed.Mpm (record {
  from = city p.first;
  to = city p.second;
  ind = EH;
  miles = 120 * (p.second - p.first);
})

-- the ticketed point miles of two cities are 100 for each step of distance
abbrev pub ticketed : NumberPair → Record
ticketed p = filed.Tpm (record {
  from = city p.first;
  to = city p.second;
  miles = 100 * (p.second - p.first);
})

-- the ticketed point miles of the pair of extra cities that has a number among them, from 0
abbrev pub extra_miles : (ℕ × NumberPair) → Record
extra_miles numbered = filed.Tpm (record {
  from = extra_city numbered.1.first;
  to = extra_city numbered.1.second;
  miles = 1 + numbered.0 % 9_999;
})
