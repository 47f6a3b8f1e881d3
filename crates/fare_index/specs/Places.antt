-- The places of the keys of a list: those of one slot are linked, from the first to the last.
use Rattle.std.specs.Prelude.{◌≡◌, ◌≢◌, ◌↔◌, ℕ, ◌+◌, ◌<◌, Bool, true, false, List, [], ◌∷◌, Option, Some, None, drop, length}
use Rattle.std.specs.Prelude.{slice_index_or}
use Rattle.std.specs.List.{position_from}
use Rattle.fare_index.specs.declared.key.Key.{Key}
use Rattle.fare_index.specs.declared.places.Places.{Places}
use Rattle.fare_index.specs.declared.slots.Slots.{Slots}
use Rattle.fare_index.specs.Slots.{has_slot, share_slot, slot_count}

-- a place led before, as is noted at the number of a link to it, and isn't the later one of a slot
pub record LeadsOn (leads : List Bool) (later : Option ℕ) (place : ℕ) : Type 0 where
  pub led : slice_index_or leads (place + 1) false ≡ true
  pub is_another : later ≢ Some place

-- for each key of a list that begins at a place, the place of the next key of its slot
abbrev pub next_places : Slots → ℕ → List Key → List (Option ℕ)
next_places slots place [] = []
next_places slots place (key ∷ keys) =
    position_from (share_slot slots key) (place + 1) keys ∷ next_places slots (place + 1) keys

-- each slot has the first place of its keys, of a list from a place on
abbrev pub AreHeads : Slots → ℕ → List Key → List (Option ℕ) → Type 0
AreHeads slots place keys heads = (slot : ℕ) → slot < slot_count slots →
    slice_index_or heads slot None ≡ position_from (has_slot slots slot) place keys

-- a place of a list of keys is the first of its slot, of those from a place on
abbrev pub IsFirst : Slots → List Key → ℕ → ℕ → Key → Type 0
IsFirst slots keys from place d =
    position_from (share_slot slots (slice_index_or keys place d)) from (drop from keys) ≡ Some place

-- the places that lead are the first ones of their slots
abbrev pub AreFirst : Slots → List Key → List Bool → Type 0
AreFirst slots keys leads = (place : ℕ) (d : Key) → place < length keys →
    (slice_index_or leads (place + 1) false ≡ true) ↔ IsFirst slots keys 0 place d

-- the first place of each slot, for each place the next of its slot, and places that are the first of theirs
pub record AreChained (slots : Slots) (keys : List Key) (places : Places) : Type 0 where
  pub some_slot : 0 < slot_count slots
  pub many_heads : length places.heads.items ≡ slot_count slots
  pub heads : AreHeads slots 0 keys places.heads.items
  pub many_links : length places.links.items ≡ length keys
  pub links : places.links.items ≡ next_places slots 0 keys
  pub many_leads : length places.leads.items ≡ length keys + 1
  pub lead : AreFirst slots keys places.leads.items

-- the places of the keys of a list, by their slots
abbrev pub ArePlaces : List Key → Places → Type 0
ArePlaces keys places = AreChained places.slots keys places
