-- The cities of a drill, and their countries.
use Rattle.std.specs.Prelude.{ℕ, ◌+◌, ◌/◌, ◌%◌, [], ◌∷◌, ◌++◌, codes, max, ◌==◌, if◌then◌else◌}
use Rattle.fare_codes.specs.declared.city.City.{City}
use Rattle.fare_codes.specs.declared.country.Country.{Country}
use Rattle.fare_codes.specs.declared.area.Area.TheVariants.{Two}
use Rattle.fare_records.specs.declared.record.Record.{Record}
use Rattle.fare_records.specs.declared.record.Record.TheVariants as filed

-- the letter of a number, from 0 for A, and from A again behind Z
abbrev pub letter : ℕ → ℕ
letter i = 65 + i % 26

-- a drill of so many sectors has a city for each, and at least two
abbrev pub city_count : ℕ → ℕ
city_count sectors = max sectors 2

-- the city of a number, from 0: `CA` and a letter
abbrev pub city : ℕ → City
city i = codes "CA" ++ letter i ∷ []

-- a city of an even number lies in `XA`, one of an odd number in `XB`
abbrev pub country_of : ℕ → Country
country_of i = if i % 2 == 0 then codes "XA" else codes "XB"

-- the extra city of a number, from 0: `D` and two letters, in their order
abbrev pub extra_city : ℕ → City
extra_city i = codes "D" ++ letter (i / 26) ∷ letter i ∷ []

-- the record of a city
abbrev pub city_record : ℕ → Record
city_record i = filed.City (record { code = city i; country = country_of i; area = Two })

-- the record of an extra city, which lies in `XA`
abbrev pub extra_record : ℕ → Record
extra_record i = filed.City (record { code = extra_city i; country = codes "XA"; area = Two })
