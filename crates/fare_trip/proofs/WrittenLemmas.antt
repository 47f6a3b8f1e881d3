-- The value that a trip is printed as is read as the trip.
use Rattle.std.proofs.Common.{◌≡◌, ◌≤◌, ℕ, suc, ◌+◌, Bool, false, List, [], ◌∷◌, length, map, Some, None, Ok, refl, ap, arith}
use Rattle.std.specs.Prelude.{nat_lt, ◌==◌}
use Rattle.std.specs.List.{All}
use Rattle.std.specs.Str.{IsUtf8}
use Rattle.std.proofs.lemmas.Bool.Decides.{nat_tests}
use Rattle.serde_json.specs.Data.{Data, depth, items_depth}
use Rattle.serde_json.specs.Events.{items_len}
use Rattle.serde_json.specs.Read.{read, max_depth}
use Rattle.serde_json.specs.View.{items_of}
use Rattle.serde_json.specs.Written.{has_float, items_have_float, compact_text}
use Rattle.fare_codes.specs.declared.city.City.{City}
use Rattle.fare_codes.specs.declared.day.Day.{Day}
use Rattle.fare_codes.specs.Codes.{read_city, read_carrier}
use Rattle.fare_codes.specs.declared.limits.TheConstants.{MOST_SECTORS}
use Rattle.fare_codes.specs.Day.{read_day}
use Rattle.fare_codes.specs.Over.{over_text, read_over}
use Rattle.fare_codes.specs.Words.{cabin_text, read_cabin}
use Rattle.fare_trip.specs.declared.sector.Sector.{Sector}
use Rattle.fare_trip.specs.Itinerary.{Itinerary}
use Rattle.fare_trip.specs.ItineraryText.{city_member, day_member, carrier_member, cabin_member, over_member, flag_member, sector_members, sector_of, placed_sector, sectors_of, placed_trip, counted_trip, trip_members, trip_of, read_trip}
use Rattle.fare_trip.specs.Trip.{make_trip, sectors_fault, sector_fault}
use Rattle.fare_trip.specs.Written.{sector_data, trip_data, trip_text, ReadsBack}
use Rattle.fare_trip.proofs.JsonLemmas.{json_of_read}
use Rattle.fare_trip.proofs.TripLemmas.{made_of, neither}

-- ---- one sector

pub sector_reads_back : (s : Sector) → read_city s.to ≡ Some s.to → read_carrier s.carrier ≡ Some s.carrier → read_day s.day ≡ Some s.day → read_cabin (cabin_text s.cabin) ≡ Some s.cabin → read_over (over_text s.over) ≡ Some s.over → ReadsBack s
unfolding sector_of sector_members sector_data city_member day_member carrier_member cabin_member over_member flag_member
sector_reads_back s to carrier day cabin over number = rw (to, carrier, day, cabin, over)

-- ---- the list of sectors

sectors_read_back : (sectors : List Sector) (total number : ℕ) (city : City) (day : Day) (behind_surface : Bool) → All ReadsBack sectors → sectors_fault total number city day behind_surface sectors ≡ None → sectors_of total number city day behind_surface (items_of (map sector_data sectors)) ≡ Ok sectors
unfolding placed_sector
sectors_read_back [] total number city day behind_surface each faultless = refl
sectors_read_back (s ∷ sectors) total number city day behind_surface each faultless =
    let both = neither (sector_fault total number city day behind_surface s) (sectors_fault total (number + 1) s.to s.day s.surface sectors) faultless in
    let first : ReadsBack s = each 0 s (omega arith) in
    let others : All ReadsBack sectors = λ k d k_in. each (suc k) d (omega arith) in
    rw (first number, both.0, sectors_read_back sectors total (number + 1) s.to s.day s.surface others both.1)

items_len-sectors : (sectors : List Sector) → items_len (items_of (map sector_data sectors)) ≡ length sectors
items_len-sectors [] = refl
items_len-sectors (s ∷ sectors) = ap suc (items_len-sectors sectors)

-- ---- the trip

placed_reads_back : (t : Itinerary) → All ReadsBack t.sectors → make_trip t.sale t.from t.sectors ≡ Ok t → placed_trip t.sale t.from (items_of (map sector_data t.sectors)) ≡ Ok t
unfolding placed_trip
placed_reads_back t each makes =
    let made = made_of t.sale t.from t.sectors t makes in
    rw (items_len-sectors t.sectors, sectors_read_back t.sectors (length t.sectors) 1 t.from t.sale false each made.faultless) makes

counted_reads_back : (t : Itinerary) → All ReadsBack t.sectors → make_trip t.sale t.from t.sectors ≡ Ok t → counted_trip t.sale t.from (items_of (map sector_data t.sectors)) ≡ Ok t
unfolding counted_trip
counted_reads_back t each makes =
    let made = made_of t.sale t.from t.sectors t makes in
    let len = items_len-sectors t.sectors in
    let some : (items_len (items_of (map sector_data t.sectors)) == 0) ≡ false = grind (arith, nat_tests, len, made.some) in
    let few : nat_lt MOST_SECTORS (items_len (items_of (map sector_data t.sectors))) ≡ false = grind (arith, nat_tests, len, made.at_most) in
    rw (some, few) (placed_reads_back t each makes)

pub trip_reads_back : (t : Itinerary) → read_city t.from ≡ Some t.from → read_day t.sale ≡ Some t.sale → All ReadsBack t.sectors → make_trip t.sale t.from t.sectors ≡ Ok t → trip_of (trip_data t) ≡ Ok t
unfolding trip_of trip_members trip_data day_member city_member
trip_reads_back t from sale each makes = rw (sale, from) (counted_reads_back t each makes)

-- ---- its text

sectors_have_no_float : (sectors : List Sector) → items_have_float (items_of (map sector_data sectors)) ≡ false
unfolding sector_data
sectors_have_no_float [] = refl
sectors_have_no_float (s ∷ sectors) = sectors_have_no_float sectors

sectors_are_shallow : (sectors : List Sector) → items_depth (items_of (map sector_data sectors)) ≤ 1
unfolding sector_data
sectors_are_shallow [] = omega arith
sectors_are_shallow (s ∷ sectors) = omega (arith, sectors_are_shallow sectors)

trip_has_no_float : (t : Itinerary) → has_float (trip_data t) ≡ false
unfolding trip_data
trip_has_no_float t = rw (sectors_have_no_float t.sectors)

pub trip_is_shallow : (t : Itinerary) → depth (trip_data t) ≤ max_depth
unfolding trip_data
trip_is_shallow t = omega (arith, sectors_are_shallow t.sectors)

pub written_text : (t : Itinerary) (value : Data) (text : List ℕ) → value ≡ trip_data t → (has_float value ≡ false → text ≡ compact_text value) → text ≡ trip_text t
unfolding trip_text
written_text t value text is written = rw is at written (trip_has_no_float t)

pub text_reads_back : (t : Itinerary) (value : Data) (text : List ℕ) → value ≡ trip_data t → trip_of (trip_data t) ≡ Ok t → IsUtf8 text → (depth value ≤ max_depth → read text ≡ Some value) → read_trip text ≡ Ok t
unfolding read_trip
text_reads_back t value text is reads utf8 back =
    let shallow = rw is at back in
    rw (json_of_read text (trip_data t) utf8 (shallow (trip_is_shallow t))) reads
