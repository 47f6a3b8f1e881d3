-- The text of an itinerary: a JSON object, which JSON values stand for a trip, and the first fault of those that don't.
use Rattle.std.specs.Prelude.{ℕ, ◌+◌, Bool, true, false, List, [], ◌∷◌, codes, Option, Some, None, option_and_then}
use Rattle.std.specs.Prelude.{is_some, Result, Ok, Err, ◌==◌, nat_lt, if◌then◌else◌}
use Rattle.std.specs.Str.{is_utf8}
use Rattle.serde_json.specs.Data.{Data, Items, no_items, item}
use Rattle.serde_json.specs.Events.{items_len}
use Rattle.serde_json.specs.Find.{get, as_str, as_bool, as_array, as_object}
use Rattle.serde_json.specs.Read.{read}
use Rattle.fare_codes.specs.declared.cabin.Cabin.{Cabin}
use Rattle.fare_codes.specs.declared.carrier.Carrier.{Carrier}
use Rattle.fare_codes.specs.declared.city.City.{City}
use Rattle.fare_codes.specs.declared.day.Day.{Day}
use Rattle.fare_codes.specs.declared.over.Over.{Over}
use Rattle.fare_codes.specs.declared.limits.TheConstants.{MOST_SECTORS}
use Rattle.fare_codes.specs.declared.over.Over.TheVariants.{Unmarked}
use Rattle.fare_codes.specs.Codes.{read_city, read_carrier}
use Rattle.fare_codes.specs.Day.{read_day}
use Rattle.fare_codes.specs.Over.{read_over}
use Rattle.fare_codes.specs.Words.{read_cabin}
use Rattle.fare_trip.specs.declared.sector.Sector.{Sector}
use Rattle.fare_trip.specs.declared.fault.Member.{Member}
use Rattle.fare_trip.specs.declared.fault.Member.TheVariants as member
use Rattle.fare_trip.specs.declared.fault.TripFault.{TripFault}
use Rattle.fare_trip.specs.declared.fault.TripFault.TheVariants as fault
use Rattle.fare_trip.specs.Itinerary.{Itinerary}
use Rattle.fare_ports.specs.Memory.{◌>>=◌}
use Rattle.fare_trip.specs.Steps.{required, optional}
use Rattle.fare_trip.specs.Trip.{make_trip, sector_fault, carried}

-- a member that is a string and in the form of its kind
abbrev pub string_in : {A : Type 0} → (List ℕ → Option A) → Data → Option A
string_in form value = option_and_then form (as_str value)

-- a city, a carrier, a day and a cabin have to stand there
unfoldable pub city_member : Member → ℕ → Option Data → Result City TripFault
city_member member number found = required (string_in read_city) member number found

unfoldable pub day_member : Member → ℕ → Option Data → Result Day TripFault
day_member member number found = required (string_in read_day) member number found

unfoldable pub carrier_member : ℕ → Option Data → Result Carrier TripFault
carrier_member number found = required (string_in read_carrier) member.Carrier number found

unfoldable pub cabin_member : ℕ → Option Data → Result Cabin TripFault
cabin_member number found = required (string_in read_cabin) member.Cabin number found

-- an absent mark is no mark
unfoldable pub over_member : ℕ → Option Data → Result Over TripFault
over_member number found = optional (string_in read_over) Unmarked member.Over number found

-- true or false, or what it means that the member is absent
unfoldable pub flag_member : Bool → Member → ℕ → Option Data → Result Bool TripFault
flag_member absent member number found = optional as_bool absent member number found

-- the members of a sector, in the order in which their faults come: absent `stop` means a stopover, absent `surface` a
-- flown sector
unfoldable pub sector_members : ℕ → Data → Result Sector TripFault
sector_members number value = do
  to ← city_member member.To number (get (codes "to") value)
  carrier ← carrier_member number (get (codes "carrier") value)
  day ← day_member member.Day number (get (codes "day") value)
  cabin ← cabin_member number (get (codes "cabin") value)
  over ← over_member number (get (codes "over") value)
  stop ← flag_member true member.Stop number (get (codes "stop") value)
  surface ← flag_member false member.Surface number (get (codes "surface") value)
  Ok (record { to = to; carrier = carrier; day = day; cabin = cabin; over = over; stop = stop; surface = surface })

-- a sector is an object
unfoldable pub sector_of : ℕ → Data → Result Sector TripFault
sector_of number value =
    if is_some (as_object value) then sector_members number value else Err (fault.Bad member.Sector number)

-- the value, unless a fault was found
abbrev pub unless : {A : Type 0} → Option TripFault → A → Result A TripFault
unless (Some found) value = Err found
unless None value = Ok value

-- a sector where it stands: its members first, then its place among the others
unfoldable pub placed_sector : ℕ → ℕ → City → Day → Bool → Data → Result Sector TripFault
placed_sector total number city day behind_surface value = do
  flown ← sector_of number value
  unless (sector_fault total number city day behind_surface flown) flown

-- the sectors of the items from a number on, behind a city, a day and perhaps a surface sector, or their first fault
abbrev pub sectors_of : ℕ → ℕ → City → Day → Bool → Items → Result (List Sector) TripFault
sectors_of total number city day behind_surface no_items = Ok []
sectors_of total number city day behind_surface (item value items) = do
  flown ← placed_sector total number city day behind_surface value
  rest ← sectors_of total (number + 1) flown.to flown.day flown.surface items
  Ok (flown ∷ rest)

-- the trip of 1 to MOST_SECTORS items
unfoldable pub placed_trip : Day → City → Items → Result Itinerary TripFault
placed_trip sale from items = do
  sectors ← sectors_of (items_len items) 1 from sale false items
  make_trip sale from sectors

-- the items are counted before any of them is looked at
unfoldable pub counted_trip : Day → City → Items → Result Itinerary TripFault
counted_trip sale from items =
    if items_len items == 0 then Err fault.NoSectors
    else (if nat_lt MOST_SECTORS (items_len items) then Err (fault.TooMany (carried (items_len items)))
    else placed_trip sale from items)

-- the members at the top, in the order in which their faults come
unfoldable pub trip_members : Data → Result Itinerary TripFault
trip_members value = do
  sale ← day_member member.Sale 0 (get (codes "sale") value)
  from ← city_member member.From 0 (get (codes "from") value)
  items ← required as_array member.Sectors 0 (get (codes "sectors") value)
  counted_trip sale from items

-- the trip that a JSON value stands for, or its first fault
unfoldable pub trip_of : Data → Result Itinerary TripFault
trip_of value = if is_some (as_object value) then trip_members value else Err (fault.Bad member.Trip 0)

-- the JSON value of bytes, which are UTF-8
unfoldable pub json_of : List ℕ → Option Data
json_of bytes = if is_utf8 bytes then read bytes else None

-- the trip of the value that was read
abbrev pub trip_of_json : Option Data → Result Itinerary TripFault
trip_of_json None = Err fault.NotJson
trip_of_json (Some value) = trip_of value

-- the trip that a text stands for, or its first fault
unfoldable pub read_trip : List ℕ → Result Itinerary TripFault
read_trip bytes = trip_of_json (json_of bytes)
