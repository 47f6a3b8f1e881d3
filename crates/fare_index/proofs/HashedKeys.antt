-- Hashes beside the keys that they are of.
use Rattle.std.proofs.Common.{◌≡◌, ℕ, zero, suc, ◌<◌, List, [], ◌∷◌, length, get_or, map, refl, ap, sym, ◌∙◌, arith}
use Rattle.std.proofs.lemmas.List.{get_or-map}
use Rattle.fare_index.specs.declared.key.Key.{Key}
use Rattle.fare_index.specs.Hashed.{hash_of}

-- a key stands at each place of a list of keys
pub key_at : (keys : List Key) (place : ℕ) → place < length keys → (key : Key) × (key ≡ get_or keys place key)
key_at [] place h = absurd (omega (arith, h))
key_at (key ∷ keys) zero h = (key, refl)
key_at (key ∷ keys) (suc place) h = key_at keys place (omega (arith, h))

-- the hash at a place is that of the key there
pub hash_at : (keys : List Key) (hashes : List ℕ) (place : ℕ) (key : Key) → hashes ≡ map hash_of keys → place < length keys → key ≡ get_or keys place key → get_or hashes place 0 ≡ hash_of key
hash_at keys hashes place key are within at =
    ap (λ l. get_or l place 0) are ∙ get_or-map hash_of keys place key 0 within ∙ ap hash_of (sym at)
