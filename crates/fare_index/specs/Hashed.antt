-- What is hashed of a key, and its hash.
use Rattle.std.specs.Prelude.{◌≡◌, ℕ, true, List, [], ◌∷◌, Some, None, bit_xor}
use Rattle.std.specs.List.{fold}
use Rattle.std.specs.Hash.FoldHasher.{initial, write, finish}
use Rattle.std.proofs.Common.{ap}
use Rattle.fare_codes.specs.Codes.{padded}
use Rattle.fare_index.specs.declared.key.Key.{Key}
use Rattle.fare_index.specs.declared.key.Key.TheVariants as kind
use Rattle.fare_index.specs.Key.{same_key}
use Rattle.fare_index.specs.Mark.{mark}
use Rattle.fare_index.specs.SameKeys.{same_key-true}

-- its codes, one write for each; of a pair of cities that isn't one of fares the greater comes first
abbrev pub written : Key → List (List ℕ)
written (kind.City city) = city ∷ []
written (kind.Currency country) = country ∷ []
written (kind.Rule id) = padded id ∷ []
written (kind.Fares from to ind) = from ∷ to ∷ []
written (kind.Permitted first second ind) = second ∷ first ∷ []
written (kind.Ticketed first second) = second ∷ first ∷ []
written (kind.Extra first second ind None) = second ∷ first ∷ []
written (kind.Extra first second ind (Some via)) = second ∷ first ∷ via ∷ []

-- keys that are the same write the same
pub written_alike : (a b : Key) → same_key a b ≡ true → written a ≡ written b
written_alike a b h = ap written (same_key-true a b h)

-- the hash of a key: that of its codes, in which the last bits are turned by its mark
unfoldable pub hash_of : Key → ℕ
hash_of key = bit_xor (finish (fold write initial (written key))) (mark key)
