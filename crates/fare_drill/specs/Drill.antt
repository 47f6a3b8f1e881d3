-- The edition and the trip of a drill.
use Rattle.std.specs.Prelude.{ℕ, ◌==◌, true, false, List, [], ◌∷◌, ◌++◌, map, take, codes, nat_lt, if◌then◌else◌}
use Rattle.std.specs.List.{range_with_len, enumerate_from}
use Rattle.fare_codes.specs.declared.city.City.{City}
use Rattle.fare_codes.specs.declared.mode.Mode.TheVariants.{Up}
use Rattle.fare_codes.specs.declared.cabin.Cabin.TheVariants.{Y}
use Rattle.fare_codes.specs.declared.over.Over.TheVariants.{Unmarked}
use Rattle.fare_codes.specs.declared.country.Country.{Country}
use Rattle.fare_codes.specs.declared.currency.Currency.{Currency}
use Rattle.fare_records.specs.declared.record.Record.{Record}
use Rattle.fare_records.specs.declared.record.Record.TheVariants as filed
use Rattle.fare_records.specs.declared.names.Names.TheVariants.{All}
use Rattle.fare_records.specs.declared.limits.TheConstants.{MOST_DAYS, MOST_STOPS, MOST_TRANSFERS}
use Rattle.fare_tariff.specs.Tariff.{Tariff}
use Rattle.fare_trip.specs.declared.sector.Sector.{Sector}
use Rattle.fare_trip.specs.Itinerary.{Itinerary}
use Rattle.fare_drill.specs.declared.limits.TheConstants.{EXTRA_CITIES}
use Rattle.fare_drill.specs.Cities.{city_count, city, city_record, extra_record}
use Rattle.fare_drill.specs.Fares.{fares}
use Rattle.fare_drill.specs.Miles.{pairs, permitted, ticketed, extra_miles}

-- a currency at par with NUC, whose amounts are rounded up to its hundredths
abbrev pub currency_record : Country → Currency → Record
currency_record country currency =
    filed.Cur (record { country = country; currency = currency; roe = 1_000_000; decimals = 2; unit = 1; mode = Up })

-- the currencies of the two countries
abbrev pub currencies : List Record
currencies = currency_record (codes "XA") (codes "XXA") ∷ currency_record (codes "XB") (codes "XXB") ∷ []

-- the one rule, which asks for little and is combined with every rule
abbrev pub rule_record : Record
rule_record = filed.Rule (record {
  id = codes "A";
  stops = MOST_STOPS;
  transfers = MOST_TRANSFERS;
  advance = 0;
  min_stay = 0;
  max_stay = MOST_DAYS;
  excess = true;
  units = All;
  ends = All;
})

-- how many extra cities there are where there are any: one for each two letters
unfoldable pub extra_city_count : ℕ
extra_city_count = EXTRA_CITIES

-- the extra cities, and miles between the first so many pairs of them; none of either where no miles are wanted
unfoldable pub extra_records : ℕ → List Record
extra_records extra =
    if extra == 0 then [] else (map extra_record (range_with_len 0 extra_city_count)
    ++ map extra_miles (enumerate_from 0 (take extra (pairs extra_city_count))))

-- the records of so many cities, before the extra ones
unfoldable pub base_records : ℕ → ℕ → List Record
base_records seed count =
    currencies ++ (map city_record (range_with_len 0 count) ++ (rule_record ∷ (fares seed count
    ++ (map permitted (pairs count) ++ map ticketed (pairs count)))))

-- the records of a drill
unfoldable pub drill_records : ℕ → ℕ → ℕ → List Record
drill_records seed sectors extra = base_records seed (city_count sectors) ++ extra_records extra

-- the edition of a drill, by its seed, its sectors and its extra records
abbrev pub drill_tariff : ℕ → ℕ → ℕ → Tariff
drill_tariff seed sectors extra =
    record { number = 1; effective = codes "2025-01-01"; records = drill_records seed sectors extra }

-- a point of the trip is the city of its number; where there is no such city the trip is back at the first one
abbrev pub drill_point : ℕ → ℕ → City
drill_point sectors i = if nat_lt i (city_count sectors) then city i else city 0

-- the sector that reaches a point: by Q1 in cabin Y, a month after the sale day, unmarked and with a stopover
abbrev pub drill_sector : ℕ → ℕ → Sector
drill_sector sectors i = record {
  to = drill_point sectors i;
  carrier = codes "Q1";
  day = codes "2025-02-01";
  cabin = Y;
  over = Unmarked;
  stop = true;
  surface = false;
}

-- the trip of a drill, by its sectors
unfoldable pub drill_trip : ℕ → Itinerary
drill_trip sectors = record {
  sale = codes "2025-01-01";
  from = drill_point sectors 0;
  sectors = map (drill_sector sectors) (range_with_len 1 sectors);
}
