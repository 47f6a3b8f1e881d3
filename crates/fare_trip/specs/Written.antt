-- The one text that a trip is printed as.
use Rattle.std.specs.Prelude.{◌≡◌, ℕ, List, map, codes, Ok}
use Rattle.serde_json.specs.Data.{Data, boolean, string, array, object, no_members, member}
use Rattle.serde_json.specs.View.{items_of}
use Rattle.serde_json.specs.Written.{compact_text}
use Rattle.fare_codes.specs.Words.{cabin_text}
use Rattle.fare_codes.specs.Over.{over_text}
use Rattle.fare_trip.specs.declared.sector.Sector.{Sector}
use Rattle.fare_trip.specs.Itinerary.{Itinerary}
use Rattle.fare_trip.specs.ItineraryText.{sector_of}

-- a sector is an object with all its members, in the order of their names
unfoldable pub sector_data : Sector → Data
sector_data sector =
    object (member (codes "cabin") (string (cabin_text sector.cabin))
    (member (codes "carrier") (string sector.carrier)
    (member (codes "day") (string sector.day)
    (member (codes "over") (string (over_text sector.over))
    (member (codes "stop") (boolean sector.stop)
    (member (codes "surface") (boolean sector.surface)
    (member (codes "to") (string sector.to) no_members)))))))

-- a trip is an object with its first city, its sale day and its sectors
unfoldable pub trip_data : Itinerary → Data
trip_data trip =
    object (member (codes "from") (string trip.from)
    (member (codes "sale") (string trip.sale)
    (member (codes "sectors") (array (items_of (map sector_data trip.sectors))) no_members)))

-- the text of a trip is the compact JSON text of its value
unfoldable pub trip_text : Itinerary → List ℕ
trip_text trip = compact_text (trip_data trip)

-- a sector whose value is read as the sector, whatever its number is
abbrev pub ReadsBack : Sector → Type 0
ReadsBack sector = (number : ℕ) → sector_of number (sector_data sector) ≡ Ok sector
