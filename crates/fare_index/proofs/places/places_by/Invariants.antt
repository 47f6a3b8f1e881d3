-- the places of what has been passed, from the back
use Rattle.std.proofs.Common.{◌≡◌, ◌+◌, List, length, map}
use Rattle.fare_index.specs.declared.key.Key.{Key}
use Rattle.fare_index.specs.Hashed.{hash_of}
use Rattle.fare_index.specs.Slots.{slot_count}
use Rattle.fare_index.proofs.Passed.{IsPassed}
use Rattle.fare_index.proofs.places.places_by.Given as goal

abbrev pub invariant-loop-place : goal.invariant-loop-place
invariant-loop-place l = record {
  many_heads : length l.heads.items ≡ slot_count l.slots;
  many_links : length l.links.items ≡ length l.hashes;
  many_leads : length l.leads.items ≡ length l.hashes + 1;
  passed : (keys : List Key) → l.hashes ≡ map hash_of keys → IsPassed l.slots keys l.place l.heads.items l.links.items l.leads.items;
}
