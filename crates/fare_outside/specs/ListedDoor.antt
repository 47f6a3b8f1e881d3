-- What is known of a door in memory.
use Rattle.std.specs.Prelude.{ℕ, ◌≡◌, Bool, List, [], ◌∷◌, ◌++◌, Option, Some, None, length, slice_get, slice_set}
use Rattle.std.specs.Prelude.{map, if◌then◌else◌}
use Rattle.std.specs.Option.{option_and_then, unwrap_or}
use Rattle.fare_ports.specs.Cause.{one_more}
use Rattle.fare_outside.specs.Calls.{CallList}
use Rattle.fare_outside.specs.Room.{Filled}

-- of a `MemDoor`: what the connections to come will bring, the room that each of them has, what each connection taken
-- still brings and what was sent on it, the places of those put aside, the place of the current one, the port at which it
-- listens, the calls, and how many of `listen` and `next`, and of `read` and `write`, have failed
pub record ListedDoor : Type 0 where
  pub waiting : List (List ℕ)
  pub room : ℕ
  pub left : List (List ℕ)
  pub sent : List Filled
  pub held : List ℕ
  pub current : Option ℕ
  pub port : Option ℕ
  pub calls : CallList
  pub faults : ℕ
  pub cuts : ℕ

-- a room for so many bytes in which there is none
abbrev pub empty_room : ℕ → Filled
empty_room room = record { taken = []; room = room }

-- what stands at a place, where there is one
abbrev pub at_place : {A : Type 0} → Option ℕ → List A → Option A
at_place place items = option_and_then (slice_get items) place

-- what the connection at a place still brings: nothing where none stands there
abbrev pub left_at : Option ℕ → List (List ℕ) → List ℕ
left_at place lists = unwrap_or (at_place place lists) []

-- the room at a place: none at all where nothing stands there
abbrev pub room_at : Option ℕ → List Filled → Filled
room_at place rooms = unwrap_or (at_place place rooms) (empty_room 0)

-- what the current connection still brings: none where none is current
abbrev pub current_left : ListedDoor → Option (List ℕ)
current_left door = at_place door.current door.left

-- the room of the current connection: none at all where none is current
abbrev pub current_room : ListedDoor → Filled
current_room door = room_at door.current door.sent

-- what was taken into each of these rooms
abbrev pub taken_into : List Filled → List (List ℕ)
taken_into rooms = map (λ room. room.taken) rooms

-- these, with another at a place, where there is one
abbrev pub with_at : {A : Type 0} → Option ℕ → A → List A → List A
with_at None item items = items
with_at (Some place) item items = slice_set items place item

-- a count, with one failure more where a call failed
abbrev pub counted_if : Bool → ℕ → ℕ
counted_if fails count = if fails then one_more count else count

-- the first of the connections to come is taken, behind those taken before: it is the current one, with a room in which
-- there is nothing yet
abbrev pub FirstTaken : ListedDoor → ListedDoor → Type 0
FirstTaken old new = (first : List ℕ) × (old.waiting ≡ first ∷ new.waiting) × (new.left ≡ old.left ++ first ∷ [])
    × (new.sent ≡ old.sent ++ empty_room old.room ∷ []) × (new.current ≡ Some (length old.sent))

-- no connection is taken, and none is current
abbrev pub NoneTaken : ListedDoor → ListedDoor → Type 0
NoneTaken old new = (new.waiting ≡ old.waiting) × (new.left ≡ old.left) × (new.sent ≡ old.sent) × (new.current ≡ None)
