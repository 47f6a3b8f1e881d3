-- Reference fares: the fare of another pair of cities that a fare is compared with.
use Rattle.std.specs.Prelude.{[], ◌∷◌, Option, option_and_then, option_map}
use Rattle.std.specs.Option.{option_or}
use Rattle.fare_codes.specs.declared.city.City.{City}
use Rattle.fare_codes.specs.declared.carrier.Carrier.{Carrier}
use Rattle.fare_codes.specs.declared.day.Day.{Day}
use Rattle.fare_codes.specs.declared.nuc.Nuc.{Nuc}
use Rattle.fare_codes.specs.declared.indicator.Indicator.{Indicator}
use Rattle.fare_codes.specs.Day.{month_day_of}
use Rattle.fare_records.specs.declared.fare_key.FareKey.{FareKey}
use Rattle.fare_records.specs.Record.{FareRecord}
use Rattle.fare_tariff.specs.Tariff.{Tariff}
use Rattle.fare_tariff.specs.Lookup.{fare_number, fare_at}

-- the carrier `YY`, by which a fare is filed for every carrier
abbrev pub every_carrier : Carrier
every_carrier = 89 ∷ 89 ∷ []

-- the key of the fares of a pair of cities and an indicator by a carrier, with the class, kind and rule of a fare
abbrev pub key_by : City → City → Indicator → FareRecord → Carrier → FareKey
key_by from to ind fare carrier =
    record {
      from = from;
      to = to;
      ind = ind;
      carrier = carrier;
      class = fare.class;
      kind = fare.kind;
      rule = fare.rule;
    }

-- the amount of the fare of a key on a day
abbrev pub amount_on : Tariff → FareKey → Day → Option Nuc
amount_on tariff key on =
    option_map (λ r. r.amount) (option_and_then (fare_at tariff) (fare_number tariff key (month_day_of on)))

-- the reference of a pair of cities and an indicator for a fare on a day: the amount of the fare by its carrier that is
-- in season on the day; where none is, even if that carrier files one of another season, of the one by `YY` that is
unfoldable pub reference : Tariff → City → City → Indicator → FareRecord → Day → Option Nuc
reference tariff from to ind fare on =
    option_or (amount_on tariff (key_by from to ind fare fare.carrier) on)
    (amount_on tariff (key_by from to ind fare every_carrier) on)
