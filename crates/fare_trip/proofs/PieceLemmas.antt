-- Cutting a line at its first comma.
use Rattle.std.proofs.Common.{◌≡◌, ◌≤◌, ◌<◌, ℕ, ◌+◌, ◌-◌, Bool, true, false, List, [], ◌∷◌, length, take, drop, Some, None, refl, arith, ◌==◌, nat_lt, if◌then◌else◌}
use Rattle.std.specs.List.{position, position_or_len}
use Rattle.std.proofs.lemmas.List.{take_rest}
use Rattle.std.proofs.lemmas.List.Elements.{All-from_get_or}
use Rattle.std.proofs.lemmas.List.Splits.{slice_split_none, slice_split_first, length-slice_split}
use Rattle.std.proofs.lemmas.List.Sums.{fails_before_first}
use Rattle.std.proofs.lemmas.Bool.Decides.{nat_tests}
use Rattle.fare_trip.specs.ShortLine.{pieces}

abbrev is_comma : ℕ → Bool
is_comma byte = byte == 44

-- the place that was found, or the length
found_at : (within : Bool) (at i : ℕ) → (if within then Some at else None) ≡ Some i → (within ≡ true) × (at ≡ i)
found_at false at i h = absurd (cc)
found_at true at i h = (refl, cc)

found_nowhere : (within : Bool) (at : ℕ) → (if within then Some at else None) ≡ None → within ≡ false
found_nowhere false at h = refl
found_nowhere true at h = absurd (cc)

-- the first piece ends at the first comma
pub pieces_at : (line : List ℕ) (i : ℕ) → position is_comma line ≡ Some i → pieces line ≡ take i line ∷ pieces (take (length line - (i + 1)) (drop (i + 1) line))
unfolding pieces
pieces_at line i h =
    let found = found_at (nat_lt (position_or_len is_comma line) (length line)) (position_or_len is_comma line) i h in
    let within : position_or_len is_comma line < length line = grind (arith, nat_tests, found.0) in
    rw (take_rest line (i + 1), ← found.1) (slice_split_first is_comma line 0 within)

-- a line without a comma is one piece
pub pieces_none : (line : List ℕ) → position is_comma line ≡ None → pieces line ≡ line ∷ []
unfolding pieces
pieces_none line h =
    let outside = found_nowhere (nat_lt (position_or_len is_comma line) (length line)) (position_or_len is_comma line) h in
    let beyond : length line ≤ position_or_len is_comma line = grind (arith, nat_tests, outside) in
    slice_split_none is_comma line (All-from_get_or (λ x. is_comma x ≡ false) line 0 (λ k k_in. fails_before_first is_comma line k 0 (omega arith)))

-- each line has a piece
pub some_piece : (line : List ℕ) → 1 ≤ length (pieces line)
unfolding pieces
some_piece line = omega (arith, length-slice_split is_comma line)
