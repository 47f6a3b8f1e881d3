-- An edition as the rules see it.
use Rattle.std.specs.Prelude.{ℕ, List}
use Rattle.fare_codes.specs.declared.day.Day.{Day}
use Rattle.fare_records.specs.declared.record.Record.{Record}

-- an edition: its number, its effective day and its list of records, of which the first has the record number 2
pub record Tariff : Type 0 where
  pub number : ℕ
  pub effective : Day
  pub records : List Record
