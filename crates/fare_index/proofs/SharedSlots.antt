-- Keys that are the same have the same slot.
use Rattle.std.proofs.Common.{◌≡◌, true, refl, ap, sym}
use Rattle.std.proofs.lemmas.Bool.{eqb-true, eq-eqb}
use Rattle.fare_index.specs.declared.key.Key.{Key}
use Rattle.fare_index.specs.Key.{same_key}
use Rattle.fare_index.specs.SameKeys.{same_key-true}
use Rattle.fare_index.specs.declared.slots.Slots.{Slots}
use Rattle.fare_index.specs.Slots.{slot_of, has_slot, share_slot}

-- the same key has the same slot
pub same_shares : (slots : Slots) (key other : Key) → same_key key other ≡ true → share_slot slots key other ≡ true
same_shares slots key other h =
    eq-eqb (slot_of slots other) (slot_of slots key) (ap (slot_of slots) (sym (same_key-true key other h)))

-- a key shares its own slot
pub shares_own : (slots : Slots) (key : Key) → share_slot slots key key ≡ true
shares_own slots key = eq-eqb (slot_of slots key) (slot_of slots key) refl

-- keys that share a slot share it with the same keys
pub share_alike : (slots : Slots) (key other : Key) → share_slot slots key other ≡ true → share_slot slots other ≡ share_slot slots key
share_alike slots key other h = ap (has_slot slots) (eqb-true (slot_of slots other) (slot_of slots key) h)
