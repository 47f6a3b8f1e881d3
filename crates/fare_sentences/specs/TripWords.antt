-- The sentence of each fault of an itinerary.
use Rattle.std.specs.Prelude.{ℕ, List, [], ◌++◌, codes, decimal, ◌==◌, if◌then◌else◌}
use Rattle.fare_trip.specs.FaultText.{member_name}
use Rattle.fare_trip.specs.declared.fault.Member.{Member}
use Rattle.fare_trip.specs.declared.fault.Member.TheVariants.{Trip, Sale, From, Sectors, Sector, To, Carrier, Day}
use Rattle.fare_trip.specs.declared.fault.Member.TheVariants.{Cabin, Over, Stop, Surface}
use Rattle.fare_trip.specs.declared.fault.TripFault.{TripFault}
use Rattle.fare_trip.specs.declared.fault.TripFault.TheVariants.{Memory, NotJson, Missing, Bad, NoSectors, TooMany}
use Rattle.fare_trip.specs.declared.fault.TripFault.TheVariants.{SameCity, DatesFall, SurfacePlace}
use Rattle.fare_sentences.specs.Sentence.{around}

-- what a member belongs to: the itinerary, or a sector by its number
unfoldable pub whole_words : ℕ → List ℕ
whole_words number = if number == 0 then codes "the itinerary" else codes "sector " ++ decimal number

-- the form that a member has to have
abbrev pub form_words : Member → List ℕ
form_words Trip = codes "an itinerary"
form_words Sale = codes "a day YYYY-MM-DD from 1970 to 9999, as a string"
form_words From = codes "three letters A to Z, as a string"
form_words Sectors = codes "an array"
form_words Sector = codes "a sector"
form_words To = codes "three letters A to Z, as a string"
form_words Carrier = codes "two characters A to Z or 0 to 9, as a string"
form_words Day = codes "a day YYYY-MM-DD from 1970 to 9999, as a string"
form_words Cabin = codes "F, C or Y, as a string"
form_words Over = codes "empty, AT or PA, as a string"
form_words Stop = codes "true or false"
form_words Surface = codes "true or false"

-- a member of an itinerary or a sector that isn't in its form
unfoldable pub bad_member_words : Member → ℕ → List ℕ
bad_member_words member number =
    codes "the member " ++ member_name member ++ codes " of " ++ whole_words number ++ codes " has to be "
    ++ form_words member

-- what isn't in its form: the itinerary itself, a sector itself, or a member
abbrev pub bad_words : Member → ℕ → List ℕ
bad_words Trip number = codes "the itinerary is neither a JSON object nor a short line of seven pieces"
bad_words Sector number = around (codes "sector ") number (codes " isn't a JSON object")
bad_words member number = bad_member_words member number

-- the sentence of a fault; want of memory has none
abbrev pub trip_words : TripFault → List ℕ
trip_words Memory = []
trip_words NotJson = codes "the text isn't JSON"
trip_words (Missing member number) = whole_words number ++ codes " has no member " ++ member_name member
trip_words (Bad member number) = bad_words member number
trip_words NoSectors = codes "the itinerary has no sector"
trip_words (TooMany number) = around (codes "the itinerary has ") number (codes " sectors, and 16 are the most")
trip_words (SameCity number) = around (codes "sector ") number (codes " ends in the city where it begins")
trip_words (DatesFall number) =
    around (codes "the day of sector ") number (codes " is before the day of the sector before it, or before the sale day")
trip_words (SurfacePlace number) =
    around (codes "sector ") number (codes " is a surface sector, and is the first, the last or behind another one")
