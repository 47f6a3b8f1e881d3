-- Items, and the list of their keys.
use Rattle.std.proofs.Common.{zero, ◌≡◌, ℕ, ◌+◌, ◌<◌, Bool, true, cond, List, [], ◌∷◌, ◌++◌, Some, length, get_or, map, drop, take, refl, ap, sym, ◌∙◌, arith, suc}
use Rattle.std.specs.List.{list_all, position_from}
use Rattle.std.proofs.lemmas.List.{drop-map, take-append-le, take_all}
use Rattle.fare_index.specs.declared.key.Key.{Key}
use Rattle.fare_index.specs.Hashed.{hash_of}

module _ {T : Type 0} (key_of : T → Key) where
  -- the key at a place is that of the item there
  pub key_at_place : (items : List T) (place : ℕ) (d : T) → get_or (map key_of items) place (key_of d) ≡ key_of (get_or items place d)
  key_at_place [] place d = refl
  key_at_place (x ∷ xs) zero d = refl
  key_at_place (x ∷ xs) (suc place) d = key_at_place xs place d

  -- the key of the item at a place is the key at that place
  pub key_read : (items : List T) (place : ℕ) (one : T) → one ≡ get_or items place one → key_of one ≡ get_or (map key_of items) place (key_of one)
  key_read items place one at = ap key_of at ∙ sym (key_at_place items place one)

  -- a place by a test of keys is a place by a test of items
  pub position_by : (test : Key → Bool) (k : ℕ) (items : List T) → position_from test k (map key_of items) ≡ position_from (λ one. test (key_of one)) k items
  position_by test k [] = refl
  position_by test k (x ∷ xs) = ap (cond (test (key_of x)) (Some k)) (position_by test (k + 1) xs)

  -- the same behind the first ones
  pub position_behind : (test : Key → Bool) (k n : ℕ) (items : List T) → position_from test k (drop n (map key_of items)) ≡ position_from (λ one. test (key_of one)) k (drop n items)
  position_behind test k n items = ap (position_from test k) (drop-map key_of n items) ∙ position_by test k (drop n items)

  module _ (holds_of : T → Bool) where
    -- what is known of an item and the hash at its place
    abbrev pub IsHashOf : T → ℕ → Type 0
    IsHashOf one hash = (hash ≡ hash_of (key_of one)) × (holds_of one ≡ true)

    abbrev pub AreHashes : List T → List ℕ → Type 0
    AreHashes items hashes = (i : ℕ) (one : T) (hash : ℕ) → i < length items → IsHashOf (get_or items i one) (get_or hashes i hash)

    -- so it is of those behind the first
    further : (one : T) (items : List T) (hash : ℕ) (hashes : List ℕ) → AreHashes (one ∷ items) (hash ∷ hashes) → AreHashes items hashes
    further one items hash hashes each = λ i o h within. each (suc i) o h (omega (arith, within))

    hashes_are : (items : List T) (hashes : List ℕ) → length hashes ≡ length items → AreHashes items hashes → hashes ≡ map hash_of (map key_of items)
    hashes_are [] [] as_many each = refl
    hashes_are [] (hash ∷ hashes) as_many each = absurd (omega (arith, as_many))
    hashes_are (one ∷ items) [] as_many each = absurd (omega (arith, as_many))
    hashes_are (one ∷ items) (hash ∷ hashes) as_many each =
        (λ i. (each 0 one hash (omega arith)).0 i ∷ hashes_are items hashes (omega (arith, as_many)) (further one items hash hashes each) i)

    -- what holds of each holds of all
    pub all_hold : (items : List T) (hashes : List ℕ) → length hashes ≡ length items → AreHashes items hashes → list_all holds_of items ≡ true
    all_hold [] hashes as_many each = refl
    all_hold (one ∷ items) [] as_many each = absurd (omega (arith, as_many))
    all_hold (one ∷ items) (hash ∷ hashes) as_many each =
        rw (each 0 one hash (omega arith)).1 (all_hold items hashes (omega (arith, as_many)) (further one items hash hashes each))

    -- the hashes that were written over as many are those of the keys of the items
    pub hashes_made : (items : List T) (before after : List ℕ) (count : ℕ) → length after ≡ count → count ≡ length items → AreHashes items after → take count (after ++ drop (length after) before) ≡ map hash_of (map key_of items)
    hashes_made items before after count same as_many each =
        take-append-le count after (drop (length after) before) (omega (arith, same))
        ∙ take_all count after (omega (arith, same))
        ∙ hashes_are items after (same ∙ as_many) each
