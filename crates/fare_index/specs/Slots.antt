-- The slot of a key, by the last bits of its hash or by the place of its hash among hashes: keys that are the same have
-- the same slot.
use Rattle.std.specs.Prelude.{ℕ, ◌+◌, ◌-◌, Bool, ◌==◌, bit_and, length}
use Rattle.fare_index.specs.declared.key.Key.{Key}
use Rattle.fare_index.specs.declared.slots.Slots.{Slots}
use Rattle.fare_index.specs.declared.slots.Slots.TheVariants.{Hashed, Ranked}
use Rattle.fare_index.specs.Hashed.{hash_of}
use Rattle.fare_index.specs.Rank.{rank}

-- how many slots there are: of hashes in order one for each place, and one behind them
abbrev pub slot_count : Slots → ℕ
slot_count (Hashed slots) = slots
slot_count (Ranked hashes) = length hashes.items + 1

-- the slot of a hash, among so many: its last bits
abbrev pub hashed_slot : ℕ → ℕ → ℕ
hashed_slot slots hash = bit_and hash (slots - 1)

-- the slot of a hash: its last bits, or its place among hashes
unfoldable pub slot_by : Slots → ℕ → ℕ
slot_by (Hashed slots) hash = hashed_slot slots hash
slot_by (Ranked hashes) hash = rank hashes.items hash

-- the slot of a key is that of its hash
abbrev pub slot_of : Slots → Key → ℕ
slot_of slots key = slot_by slots (hash_of key)

-- a key has a slot
abbrev pub has_slot : Slots → ℕ → Key → Bool
has_slot slots slot key = slot_of slots key == slot

-- another key has the slot of a key
abbrev pub share_slot : Slots → Key → Key → Bool
share_slot slots key other = has_slot slots (slot_of slots key) other
