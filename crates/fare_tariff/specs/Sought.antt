-- The fares that are sought among those of a key.
use Rattle.std.specs.Prelude.{Bool}
use Rattle.fare_records.specs.declared.record.Record.{Record}
use Rattle.fare_records.specs.declared.fare_key.FareKey.{FareKey}
use Rattle.fare_tariff.specs.declared.look_up.seek.Sought.{Sought}
use Rattle.fare_tariff.specs.declared.look_up.seek.Sought.TheVariants.{On, Of, Over}
use Rattle.fare_tariff.specs.Lookup.{is_fare_on}
use Rattle.fare_tariff.specs.Check.{is_fare_of, is_fare_over}

-- a record files a fare that has a key and whose season holds a day, is a season, or overlaps one
abbrev pub is_sought : FareKey → Sought → Record → Bool
is_sought key (On day) = is_fare_on key day
is_sought key (Of season) = is_fare_of key season
is_sought key (Over season) = is_fare_over key season
