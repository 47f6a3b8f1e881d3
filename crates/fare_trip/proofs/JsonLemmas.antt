-- Reading an itinerary's JSON text.
use Rattle.std.proofs.Common.{◌≡◌, ◌⊎◌, inl, inr, ℕ, Bool, true, false, List, length, Some, None, Result, Ok, Err, refl, sym}
use Rattle.std.specs.Str.{IsUtf8, is_utf8}
use Rattle.std.proofs.lemmas.Str.{IsUtf8-from_is_utf8, is_utf8-from_IsUtf8}
use Rattle.serde_json.specs.Data.{Data}
use Rattle.serde_json.specs.Events.{items_len}
use Rattle.serde_json.specs.Read.{read}
use Rattle.serde_json.specs.View.{items_view}
use Rattle.serde_json.specs.declared.value.Value.{Value}
use Rattle.serde_json.proofs.Views.{items_len-items_view}
use Rattle.fare_trip.specs.declared.fault.TripFault.{TripFault}
use Rattle.fare_trip.specs.declared.fault.TripFault.TheVariants as fault
use Rattle.fare_trip.specs.ItineraryText.{json_of, trip_of, trip_of_json, read_trip}
use Rattle.fare_trip.specs.Itinerary.{Itinerary}
use Rattle.fare_ports.specs.Memory.{Gives}

-- the items of an array are as many as its values
pub counted : (values : List Value) → items_len (items_view values) ≡ length values
counted values = items_len-items_view values

-- an answer that is as expected is given
pub gives_same : {A : Type 0} → (answer expected : Result A TripFault) → answer ≡ expected
    → Gives fault.Memory (λ (value : A). value) answer expected
gives_same (Ok value) expected h = sym h
gives_same (Err found) expected h = λ other. sym h

-- bytes that are UTF-8 have the value that is read
pub json_of_read : (bytes : List ℕ) (value : Data) → IsUtf8 bytes → read bytes ≡ Some value → json_of bytes ≡ Some value
unfolding json_of
json_of_read bytes value text h = rw (is_utf8-from_IsUtf8 bytes text) h

unless_utf8 : (bytes : List ℕ) (test : Bool) → is_utf8 bytes ≡ test → (IsUtf8 bytes → read bytes ≡ None) → json_of bytes ≡ None
unfolding json_of
unless_utf8 bytes true is h = rw is (h (IsUtf8-from_is_utf8 bytes is))
unless_utf8 bytes false is h = rw is

-- bytes that are no UTF-8, or have no value, are no JSON
pub no_json : (bytes : List ℕ) → (IsUtf8 bytes → read bytes ≡ None) → json_of bytes ≡ None
no_json bytes h = unless_utf8 bytes (is_utf8 bytes) refl h

pub read_trip_some : (bytes : List ℕ) (value : Data) (answer : Result Itinerary TripFault) → json_of bytes ≡ Some value → answer ≡ trip_of value
    → Gives fault.Memory (λ (trip : Itinerary). trip) answer (read_trip bytes)
unfolding read_trip
read_trip_some bytes value answer found h = gives_same answer (trip_of_json (json_of bytes)) (rw found h)

pub read_trip_none : (bytes : List ℕ) → json_of bytes ≡ None → Err fault.NotJson ≡ read_trip bytes
unfolding read_trip
read_trip_none bytes h = rw h
