-- What is put into the room at a place.
use Rattle.std.proofs.Common.{◌≡◌, ℕ, ◌<◌, ◌≤◌, List, [], Option, Some, None, length, get_or, take, slice_set, refl}
use Rattle.std.proofs.Common.{false, IsTrue, IfSome, MatchOption}
use Rattle.std.proofs.lemmas.List.{map-set, get_or-map}
use Rattle.fare_ports.specs.Door.{with_more_at}
use Rattle.fare_outside.specs.Room.{Filled, fitting, is_refused, after_put}
use Rattle.fare_outside.specs.ListedDoor.{empty_room, taken_into, room_at}

-- what was taken by the room at a place stands at the end of what it had
pub taken_into-put : (place : Option ℕ) (p : ℕ) (rooms : List Filled) (d new : Filled) (bytes : List ℕ) →
    place ≡ Some p → p < length rooms → new ≡ after_put (get_or rooms p d) bytes →
    taken_into (slice_set rooms p new)
    ≡ with_more_at place (take (fitting (get_or rooms p d) bytes) bytes) (taken_into rooms)
taken_into-put place p rooms d new bytes is within put =
    let taken : Filled → List ℕ = λ room. room.taken in
    let old = get_or-map taken rooms p d [] within in
    rw (is, map-set taken rooms p new, put, old) refl

-- the same where the room may have refused
pub taken_into-may_put : (result place : Option ℕ) (p : ℕ) (rooms : List Filled) (d new : Filled) (bytes : List ℕ) →
    MatchOption result (IsTrue (is_refused (get_or rooms p d) bytes))
    (λ count. (count ≡ fitting (get_or rooms p d) bytes) × (is_refused (get_or rooms p d) bytes ≡ false)) →
    place ≡ Some p → p < length rooms → new ≡ after_put (get_or rooms p d) bytes →
    IfSome result (λ count.
    taken_into (slice_set rooms p new) ≡ with_more_at place (take count bytes) (taken_into rooms))
taken_into-may_put None place p rooms d new bytes answer is within put = tt
taken_into-may_put (Some count) place p rooms d new bytes answer is within put =
    rw (answer.0) (taken_into-put place p rooms d new bytes is within put)
