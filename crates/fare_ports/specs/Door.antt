-- What the calls of a door do to its connections.
use Rattle.std.specs.Prelude.{◌≡◌, ℕ, List, [], ◌∷◌, ◌++◌, Bool, false, Option, Some, None, Result, Ok, Err, option_map}
use Rattle.std.specs.Prelude.{slice_set, slice_index_or, ⊤}
use Rattle.fare_ports.specs.declared.failed.Failed.{Failed}

-- a call of `next` answered that it took a connection
abbrev pub is_taken : Result Bool Failed → Bool
is_taken (Ok taken) = taken
is_taken (Err failed) = false

-- the first of the connections to come was taken: what it brings is left, and the others are still
-- to come
abbrev pub TakesFirst : Option (List (List ℕ)) → Option (List (List ℕ)) → Option (List ℕ) → Type 0
TakesFirst None new left = ⊤
TakesFirst (Some old) None left = ⊥
TakesFirst (Some old) (Some new) left = (first : List ℕ) × (old ≡ first ∷ new) × (left ≡ Some first)

-- no connection is to come
abbrev pub NoneWaits : Option (List (List ℕ)) → Type 0
NoneWaits None = ⊤
NoneWaits (Some waiting) = waiting ≡ []

-- what was sent, with a connection more on which nothing was sent yet
abbrev pub with_one_more : Option (List (List ℕ)) → Option (List (List ℕ))
with_one_more sent = option_map (λ lists. lists ++ [] ∷ []) sent

-- what was sent, with these bytes more on the connection at this place, if there is one
abbrev pub with_more_at : Option ℕ → List ℕ → List (List ℕ) → List (List ℕ)
with_more_at None bytes lists = lists
with_more_at (Some place) bytes lists = slice_set lists place (slice_index_or lists place [] ++ bytes)

-- the first connection put aside is the current one, and the others are still put aside
abbrev pub TakesHeld : List ℕ → List ℕ → Option ℕ → Type 0
TakesHeld old new current = (place : ℕ) × (old ≡ place ∷ new) × (current ≡ Some place)
