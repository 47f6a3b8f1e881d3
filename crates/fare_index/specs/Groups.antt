-- Keys in groups, of which each key has one: those with one slot.
use Rattle.std.specs.Prelude.{ℕ, ◌==◌, Bool, List}
use Rattle.fare_index.specs.declared.key.Key.{Key}
use Rattle.fare_index.specs.declared.slots.Slots.{Slots}
use Rattle.fare_index.specs.Slots.{slot_of}

-- a list of keys, and how each is given its group
pub record Grouped : Type 0 where
  pub keys : List Key
  pub slots : Slots

-- the group of a key
abbrev pub group_of : Grouped → Key → ℕ
group_of grouped key = slot_of grouped.slots key

-- a key is in a group
abbrev pub is_in_group : Grouped → ℕ → Key → Bool
is_in_group grouped group key = group_of grouped key == group
