-- Which sale days, cities and sectors make a trip, and the first fault of those that make none.
use Rattle.std.specs.Prelude.{◌≡◌, ◌≢◌, ◌≤◌, ◌<◌, ℕ, ◌+◌, ◌-◌, Bool, true, false, List, [], ◌∷◌, length, Option, Some}
use Rattle.std.specs.Prelude.{None, Result, Ok, Err, ◌==◌, ◌&&◌, ◌||◌, nat_lt, bytes_eq, min, if◌then◌else◌}
use Rattle.std.specs.Option.{option_or}
use Rattle.fare_codes.specs.declared.city.City.{City}
use Rattle.fare_codes.specs.declared.day.Day.{Day}
use Rattle.fare_codes.specs.declared.limits.TheConstants.{MOST_SECTORS}
use Rattle.fare_codes.specs.Day.{day_number}
use Rattle.fare_trip.specs.declared.sector.Sector.{Sector}
use Rattle.fare_trip.specs.declared.fault.TripFault.{TripFault}
use Rattle.fare_trip.specs.declared.fault.TripFault.TheVariants as fault
use Rattle.fare_trip.specs.Itinerary.{Itinerary, count, point, sector}

-- a number as a fault carries it: the last 32-bit number where it would be greater
abbrev pub carried : ℕ → ℕ
carried number = min number 4_294_967_295

-- a surface sector may be neither the first nor the last, nor stand behind another one
abbrev pub is_misplaced : ℕ → ℕ → Bool → Sector → Bool
is_misplaced total number behind_surface sector =
    sector.surface && ((number == 1) || (number == total) || behind_surface)

-- the first fault of the sector of a number: it ends where it begins, its day falls, or it is a surface sector out of
-- place
abbrev pub sector_fault : ℕ → ℕ → City → Day → Bool → Sector → Option TripFault
sector_fault total number city day behind_surface sector =
    if bytes_eq sector.to city then Some (fault.SameCity number)
    else (if nat_lt (day_number sector.day) (day_number day) then Some (fault.DatesFall number)
    else (if is_misplaced total number behind_surface sector then Some (fault.SurfacePlace number)
    else None))

-- the first fault of the sectors from a number on, behind a city, a day and perhaps a surface sector
abbrev pub sectors_fault : ℕ → ℕ → City → Day → Bool → List Sector → Option TripFault
sectors_fault total number city day behind_surface [] = None
sectors_fault total number city day behind_surface (sector ∷ sectors) =
    option_or (sector_fault total number city day behind_surface sector)
    (sectors_fault total (number + 1) sector.to sector.day sector.surface sectors)

-- the trip, or the fault that was found
abbrev pub unless_fault : Option TripFault → Itinerary → Result Itinerary TripFault
unless_fault (Some found) trip = Err found
unless_fault None trip = Ok trip

-- the trip of a sale day, a first city and sectors, or its first fault
unfoldable pub make_trip : Day → City → List Sector → Result Itinerary TripFault
make_trip sale from sectors =
    if length sectors == 0 then Err fault.NoSectors
    else (if nat_lt MOST_SECTORS (length sectors) then Err (fault.TooMany (carried (length sectors)))
    else unless_fault (sectors_fault (length sectors) 1 from sale false sectors)
    (record { sale = sale; from = from; sectors = sectors }))

-- the day behind which a sector's day may not fall: the sale day for the first sector, else that of the sector before
abbrev pub day_before : Itinerary → ℕ → Day
day_before trip number = if number == 1 then trip.sale else (sector trip (number - 1)).day

-- what holds of every trip that was made
pub record IsTrip (trip : Itinerary) : Type 0 where
  pub some : 1 ≤ count trip
  pub at_most : count trip ≤ MOST_SECTORS
  pub points_differ : (number : ℕ) → 1 ≤ number → number ≤ count trip → point trip (number - 1) ≢ point trip number
  pub days_never_fall : (number : ℕ) → 1 ≤ number → number ≤ count trip
      → day_number (day_before trip number) ≤ day_number (sector trip number).day
  pub first_flown : (sector trip 1).surface ≡ false
  pub last_flown : (sector trip (count trip)).surface ≡ false
  pub surfaces_apart : (number : ℕ) → 1 ≤ number → number < count trip
      → (sector trip number).surface ≡ true → (sector trip (number + 1)).surface ≡ false
