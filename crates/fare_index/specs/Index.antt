-- Items that are found by their keys.
use Rattle.std.specs.Prelude.{◌≡◌, Bool, true, List, map}
use Rattle.std.specs.List.{list_all}
use Rattle.fare_index.specs.declared.key.Key.{Key}
use Rattle.fare_index.specs.declared.places.Places.{Places}
use Rattle.fare_index.specs.Places.{ArePlaces}

-- places are those of the keys of items, of each of which holds what holds by their type
pub record IsIndexed {T : Type 0} (key_of : T → Key) (holds_of : T → Bool) (items : List T) (places : Places) : Type 0 where
  pub placed : ArePlaces (map key_of items) places
  pub by_type : list_all holds_of items ≡ true
