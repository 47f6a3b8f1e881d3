use Rattle.std.proofs.Common.{◌≡◌, ◌+◌, ◌++◌, length, drop, false}
use Rattle.serde_json.specs.View.{items_view}
use Rattle.arrayvec.specs.ArrayVec.{array_vec_len}
use Rattle.fare_trip.specs.ItineraryText.{sectors_of}
use Rattle.fare_trip.specs.Steps.{seen}
use Rattle.fare_trip.proofs.itinerary_text.sectors_in.Given as goal

-- the sectors so far, before those of the values that are left, are the sectors of all values
abbrev pub invariant-loop-value : goal.invariant-loop-value
invariant-loop-value l = record { number : l.place.number ≡ l.value-index + 1; count : array_vec_len l.sectors ≡ l.value-index; left : seen (λ rest. l.sectors.items ++ rest) (sectors_of (length l.values) l.place.number l.place.city l.place.day l.place.behind_surface (items_view (drop l.value-index l.values))) ≡ sectors_of (length l.values) 1 l.fn.from l.fn.sale false (items_view l.values) }
