-- Example editions: each is a list of records, of which the first has the record number 2.
use Rattle.std.specs.Prelude.{ℕ, List, [], ◌∷◌, ◌++◌, true, false}
use Rattle.fare_codes.specs.declared.area.Area.TheVariants.{One, Two, Three}
use Rattle.fare_codes.specs.declared.cabin.Cabin.TheVariants.{Y}
use Rattle.fare_codes.specs.declared.indicator.Indicator.TheVariants.{EH, AT, PA, AP}
use Rattle.fare_codes.specs.declared.kind.Kind.TheVariants.{OW, HR}
use Rattle.fare_codes.specs.declared.mode.Mode.TheVariants.{Up, Nearest}
use Rattle.fare_records.specs.declared.names.Names.TheVariants.{All, Of}
use Rattle.fare_records.specs.declared.record.Record.{Record}
use Rattle.fare_tariff.specs.Tariff.{Tariff}
use Rattle.fare_rules.proofs.Filed.{city, currency, rule, fare, seasonal, permitted, ticketed, edition, free, under}

-- records 2 to 7: London, Paris and Rome, and the currencies of their countries
abbrev pub three_cities : List Record
three_cities =
    currency "GB" "GBP" 750_000 0 1 Up
    ∷ currency "FR" "EUR" 900_000 2 1 Nearest
    ∷ currency "IT" "EUR" 900_000 2 1 Nearest
    ∷ city "LON" "GB" Two
    ∷ city "PAR" "FR" Two
    ∷ city "ROM" "IT" Two
    ∷ []

-- record 8 is a through fare from London to Rome, whose miles by way of Paris are 300 and these
abbrev pub through_fare : ℕ → ℕ → Tariff
through_fare amount miles = edition (three_cities ++
    fare "LON" "ROM" EH "YY" Y OW free amount
    ∷ ticketed "LON" "PAR" 300
    ∷ ticketed "PAR" "ROM" miles
    ∷ permitted "LON" "ROM" EH 1_000
    ∷ [])

-- the same with an extra mileage allowance
abbrev pub with_allowance : Record → Tariff
with_allowance allowance = edition (three_cities ++
    fare "LON" "ROM" EH "YY" Y OW free 40_000
    ∷ ticketed "LON" "PAR" 300
    ∷ ticketed "PAR" "ROM" 751
    ∷ permitted "LON" "ROM" EH 1_000
    ∷ allowance
    ∷ city "FRA" "DE" Two
    ∷ [])

-- the same without the miles from Paris to Rome
abbrev pub without_miles : Tariff
without_miles = edition (three_cities ++
    fare "LON" "ROM" EH "YY" Y OW free 40_000
    ∷ ticketed "LON" "PAR" 300
    ∷ permitted "LON" "ROM" EH 1_000
    ∷ [])

-- the same without Paris
abbrev pub without_paris : Tariff
without_paris = edition (
    city "LON" "GB" Two
    ∷ city "ROM" "IT" Two
    ∷ fare "LON" "ROM" EH "YY" Y OW free 40_000
    ∷ [])

-- records 9 and 10: fares to and from Paris beside the through fare, of which the first may be higher than it
abbrev pub beside_paris : ℕ → ℕ → Tariff
beside_paris to_paris from_paris = edition (three_cities ++
    fare "LON" "ROM" EH "YY" Y OW free 40_000
    ∷ fare "LON" "PAR" EH "YY" Y OW free to_paris
    ∷ fare "PAR" "ROM" EH "YY" Y OW free from_paris
    ∷ ticketed "LON" "PAR" 300
    ∷ ticketed "PAR" "ROM" 700
    ∷ permitted "LON" "ROM" EH 1_000
    ∷ [])

-- records 8 to 11, and 15: half round trips from London to Tokyo and Los Angeles, either way round the world
abbrev pub pacific_circle : Tariff
pacific_circle = edition (
    currency "GB" "GBP" 750_000 0 1 Up
    ∷ currency "JP" "JPY" 110_000_000 0 100 Up
    ∷ currency "US" "USD" 1_000_000 2 1 Nearest
    ∷ city "LON" "GB" Two
    ∷ city "TYO" "JP" Three
    ∷ city "LAX" "US" One
    ∷ fare "LON" "TYO" EH "YY" Y HR free 40_000
    ∷ fare "LON" "TYO" AP "YY" Y HR free 39_000
    ∷ fare "LON" "LAX" PA "YY" Y HR free 45_000
    ∷ fare "LON" "LAX" AT "YY" Y HR free 30_000
    ∷ ticketed "TYO" "LAX" 5_000
    ∷ ticketed "LAX" "LON" 5_000
    ∷ permitted "LON" "TYO" AP 12_000
    ∷ fare "LON" "TYO" AP "Q1" Y HR free 40_000
    ∷ [])

-- records 12 to 17: half round trips from London round the world under one rule, which is record 11
abbrev pub round_the_world : Tariff
round_the_world = edition (
    currency "GB" "GBP" 750_000 0 1 Up
    ∷ currency "DE" "EUR" 900_000 2 1 Nearest
    ∷ currency "JP" "JPY" 110_000_000 0 100 Up
    ∷ currency "US" "USD" 1_000_000 2 1 Nearest
    ∷ city "LON" "GB" Two
    ∷ city "FRA" "DE" Two
    ∷ city "TYO" "JP" Three
    ∷ city "LAX" "US" One
    ∷ city "NYC" "US" One
    ∷ rule "FLEX" 5 5 0 3 365 true All All
    ∷ fare "LON" "TYO" EH "YY" Y HR (under "FLEX") 120_000
    ∷ fare "LON" "TYO" AP "YY" Y HR (under "FLEX") 150_000
    ∷ fare "LON" "LAX" PA "YY" Y HR (under "FLEX") 130_000
    ∷ fare "LON" "NYC" PA "YY" Y HR (under "FLEX") 140_000
    ∷ fare "LON" "LAX" AT "YY" Y HR (under "FLEX") 90_000
    ∷ fare "LON" "NYC" AT "YY" Y HR (under "FLEX") 70_000
    ∷ ticketed "LON" "FRA" 400
    ∷ ticketed "FRA" "TYO" 5_900
    ∷ ticketed "TYO" "LAX" 5_450
    ∷ ticketed "LAX" "NYC" 2_470
    ∷ ticketed "NYC" "LON" 3_450
    ∷ permitted "LON" "TYO" EH 7_400
    ∷ permitted "LON" "TYO" AP 11_000
    ∷ [])

-- records 10 to 12: fares to Paris, the cheaper of which may not be followed by the fare from Paris
abbrev pub end_on_end : Tariff
end_on_end = edition (three_cities ++
    rule "RA" 9 9 0 0 365 true All (Of (under "RA" ∷ []))
    ∷ rule "RB" 9 9 0 0 365 true All All
    ∷ fare "LON" "PAR" EH "YY" Y OW (under "RA") 15_000
    ∷ fare "LON" "PAR" EH "YY" Y OW free 20_000
    ∷ fare "PAR" "ROM" EH "YY" Y OW (under "RB") 10_000
    ∷ [])

-- records 8 and 9: half round trips from London to Paris and from Paris to Rome
abbrev pub side_trip : Tariff
side_trip = edition (three_cities ++
    fare "LON" "PAR" EH "YY" Y HR free 10_000
    ∷ fare "PAR" "ROM" EH "YY" Y HR free 8_000
    ∷ [])

-- records 9 and 10: half round trips from London to Paris and to Lyon, which lies in some country
abbrev pub paris_and_lyon : Record → Tariff
paris_and_lyon lyon = edition (three_cities ++
    lyon
    ∷ fare "LON" "PAR" EH "YY" Y HR free 10_000
    ∷ fare "LON" "LYS" EH "YY" Y HR free 9_000
    ∷ [])

-- record 4 is a half round trip inside one country
abbrev pub inside_a_country : Tariff
inside_a_country = edition (
    city "LON" "GB" Two
    ∷ city "MAN" "GB" Two
    ∷ fare "LON" "MAN" EH "YY" Y HR free 6_000
    ∷ [])

-- record 4 is a fare of the summer, and record 5 one of the winter
abbrev pub summer_and_winter : Tariff
summer_and_winter = edition (
    city "LON" "GB" Two
    ∷ city "ROM" "IT" Two
    ∷ seasonal "LON" "ROM" EH "YY" Y OW free "04-01" "10-31" 40_000
    ∷ seasonal "LON" "ROM" EH "YY" Y OW free "11-01" "03-31" 30_000
    ∷ [])

-- records 14 to 21: fares from London to Rome, each of which asks for something else
abbrev pub limited : Tariff
limited = edition (three_cities ++
    rule "NOSTOP" 0 16 0 0 999 true All All
    ∷ rule "NOCHANGE" 16 0 0 0 999 true All All
    ∷ rule "EARLY" 16 16 60 0 999 true All All
    ∷ rule "FIRM" 16 16 0 0 999 false All All
    ∷ rule "WEEK" 16 16 0 7 999 true All All
    ∷ rule "LONELY" 16 16 0 0 999 true (Of []) All
    ∷ fare "LON" "ROM" EH "YY" Y OW (under "NOSTOP") 40_000
    ∷ fare "LON" "ROM" EH "YY" Y OW (under "NOCHANGE") 40_000
    ∷ fare "LON" "ROM" EH "YY" Y OW (under "EARLY") 40_000
    ∷ fare "LON" "ROM" EH "YY" Y OW (under "FIRM") 40_000
    ∷ fare "LON" "ROM" EH "YY" Y HR (under "WEEK") 40_000
    ∷ fare "LON" "ROM" EH "YY" Y HR (under "LONELY") 40_000
    ∷ fare "LON" "ROM" EH "Q2" Y OW free 40_000
    ∷ seasonal "LON" "ROM" EH "YY" Y OW free "05-01" "10-31" 40_000
    ∷ ticketed "LON" "PAR" 300
    ∷ ticketed "PAR" "ROM" 750
    ∷ permitted "LON" "ROM" EH 1_000
    ∷ [])

-- records 5 to 8: half round trips between London, Manchester and Paris, and 9 a fare from Paris to Manchester
abbrev pub home_by_manchester : Tariff
home_by_manchester = edition (
    city "LON" "GB" Two
    ∷ city "MAN" "GB" Two
    ∷ city "PAR" "FR" Two
    ∷ fare "LON" "PAR" EH "YY" Y HR free 10_000
    ∷ fare "MAN" "PAR" EH "YY" Y HR free 9_000
    ∷ fare "LON" "MAN" EH "YY" Y HR free 6_000
    ∷ fare "MAN" "LON" EH "YY" Y HR free 4_000
    ∷ fare "PAR" "MAN" EH "YY" Y HR free 7_000
    ∷ [])

-- records 6 to 10: half round trips round Paris and Rome, from Paris over the Atlantic, and from London to Rome by that
-- ocean
abbrev pub with_new_york : Tariff
with_new_york = edition (
    city "LON" "GB" Two
    ∷ city "PAR" "FR" Two
    ∷ city "ROM" "IT" Two
    ∷ city "NYC" "US" One
    ∷ fare "LON" "PAR" EH "YY" Y HR free 10_000
    ∷ fare "PAR" "NYC" AT "YY" Y HR free 20_000
    ∷ fare "PAR" "ROM" EH "YY" Y HR free 3_000
    ∷ fare "LON" "ROM" EH "YY" Y HR free 15_000
    ∷ fare "LON" "ROM" AT "YY" Y HR free 50_000
    ∷ [])

-- records 8 to 11: half round trips round Paris and Rome, of which that from London to Rome is dearer in April
abbrev pub dear_in_april : Tariff
dear_in_april = edition (three_cities ++
    fare "LON" "PAR" EH "YY" Y HR free 10_000
    ∷ fare "PAR" "ROM" EH "YY" Y HR free 1_000
    ∷ seasonal "LON" "ROM" EH "YY" Y HR free "04-01" "04-30" 20_000
    ∷ seasonal "LON" "ROM" EH "YY" Y HR free "05-01" "03-31" 12_000
    ∷ [])

-- record 8 is a carrier's fare to Rome, beside which its fare to Paris is one of the summer, and that of every carrier
-- is not
abbrev pub carrier_in_summer : Tariff
carrier_in_summer = edition (three_cities ++
    fare "LON" "ROM" EH "Q1" Y OW free 30_000
    ∷ seasonal "LON" "PAR" EH "Q1" Y OW free "05-01" "10-31" 50_000
    ∷ fare "LON" "PAR" EH "YY" Y OW free 35_000
    ∷ [])
