-- An itinerary as the rules see it, and what they ask of it.
use Rattle.std.specs.Prelude.{ℕ, ◌-◌, true, false, List, [], length, slice_index_or, ◌==◌, if◌then◌else◌}
use Rattle.fare_codes.specs.declared.city.City.{City}
use Rattle.fare_codes.specs.declared.day.Day.{Day}
use Rattle.fare_codes.specs.declared.cabin.Cabin.TheVariants.{Y}
use Rattle.fare_codes.specs.declared.over.Over.TheVariants.{Unmarked}
use Rattle.fare_trip.specs.declared.sector.Sector.{Sector}

-- a trip: its sale day, its first city and its sectors
pub record Itinerary : Type 0 where
  pub sale : Day
  pub from : City
  pub sectors : List Sector

-- how many sectors a trip has
abbrev pub count : Itinerary → ℕ
count trip = length trip.sectors

-- what stands at a number that no sector has
abbrev pub no_sector : Sector
no_sector = record { to = []; carrier = []; day = []; cabin = Y; over = Unmarked; stop = true; surface = false }

-- the sector of a number, from 1
abbrev pub sector : Itinerary → ℕ → Sector
sector trip number = slice_index_or trip.sectors (number - 1) no_sector

-- the points of a trip are its first city, at 0, and the city that each sector reaches, at the sector's number
abbrev pub point : Itinerary → ℕ → City
point trip place = if place == 0 then trip.from else (sector trip place).to
