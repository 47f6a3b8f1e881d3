-- The place of a hash among hashes. Their order is for speed alone: of a place it is only asked that it is one.
use Rattle.std.specs.Prelude.{ℕ, zero, suc, ◌+◌, ◌-◌, ◌/◌, List, length, nat_lt, if◌then◌else◌, slice_index_or}

-- where a search by halves for a hash ends in so many steps, from a place of a list to another
unfoldable pub halved : ℕ → List ℕ → ℕ → ℕ → ℕ → ℕ
halved zero hashes sought low high = low
halved (suc steps) hashes sought low high =
    let middle = low + (high - low) / 2 in
    if nat_lt low high
    then (if nat_lt (slice_index_or hashes middle sought) sought
    then halved steps hashes sought (middle + 1) high
    else halved steps hashes sought low middle)
    else low

-- where a search by halves for a hash ends in a list: where the list is in order, at the first that isn't less
unfoldable pub rank : List ℕ → ℕ → ℕ
rank hashes sought = halved (length hashes) hashes sought 0 (length hashes)
