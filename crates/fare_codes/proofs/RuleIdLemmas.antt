-- The zeros behind the characters of a rule's id.
use Rattle.std.proofs.Common.{◌≡◌, ◌≤◌, ◌∙◌, ℕ, zero, suc, true, false, not, cond, List, [], ◌∷◌, ◌++◌, ◌-◌, ◌+◌, length, replicate, take, nat_lt, Some, None, refl, ap, arith}
use Rattle.std.proofs.lemmas.Bool.Decides.{nat_tests}
use Rattle.std.specs.List.{list_all, before_first, position, position_or_len}
use Rattle.fare_codes.specs.Codes.{is_code_character, is_zero, padded}
use Rattle.fare_codes.proofs.TextLemmas.{both}

-- a place below a length is told, and no other
found_at : (place len at : ℕ) → cond (nat_lt place len) (Some place) None ≡ Some at → at ≡ place
found_at place len at h = grind (arith, nat_tests)

found_nowhere : (place len : ℕ) → cond (nat_lt place len) (Some place) None ≡ None → len ≤ place
found_nowhere place len h = grind (arith, nat_tests)

-- the first zero stands no further than the end
zero_in_bounds : (bytes : List ℕ) → position_or_len is_zero bytes ≤ length bytes
zero_in_bounds [] = omega arith
zero_in_bounds (c ∷ cs) = grind (arith, nat_tests, zero_in_bounds cs)

-- where the first zero is found, and where none is
pub before_first_zero : (bytes : List ℕ) (at : ℕ) → position is_zero bytes ≡ Some at → at ≡ position_or_len is_zero bytes
before_first_zero bytes at h = found_at (position_or_len is_zero bytes) (length bytes) at h

pub before_no_zero : (bytes : List ℕ) → length bytes ≡ 8 → position is_zero bytes ≡ None → 8 ≡ position_or_len is_zero bytes
before_no_zero bytes eight h =
    let none : length bytes ≤ position_or_len is_zero bytes = found_nowhere (position_or_len is_zero bytes) (length bytes) h in
    omega (arith, zero_in_bounds bytes, none, eight)

-- no character of a rule's id is zero
character_is_not_zero : (c : ℕ) → is_code_character c ≡ true → is_zero c ≡ false
character_is_not_zero c h = grind (arith, nat_tests)

-- the first of some zeros stands at the front
zeros_at_front : (k : ℕ) → position_or_len is_zero (replicate k 0) ≡ 0
zeros_at_front zero = refl
zeros_at_front (suc k) = refl

-- behind characters the first zero stands at their end
zero_behind : (k : ℕ) (bytes : List ℕ) → list_all is_code_character bytes ≡ true → position_or_len is_zero (bytes ++ replicate k 0) ≡ length bytes
zero_behind k [] h = zeros_at_front k
zero_behind k (c ∷ cs) h =
    let parts = both (is_code_character c) (list_all is_code_character cs) h in
    ap (λ t. cond (not t) (1 + position_or_len is_zero (cs ++ replicate k 0)) 0) (character_is_not_zero c parts.0) ∙ omega (arith, zero_behind k cs parts.1)

-- as many as the first list has
take_front : (bytes others : List ℕ) → take (length bytes) (bytes ++ others) ≡ bytes
take_front [] others = refl
take_front (c ∷ cs) others = ap (λ t. c ∷ t) (take_front cs others)

-- what stands before the zeros is the rule's id
pub before_zeros : (bytes : List ℕ) → list_all is_code_character bytes ≡ true → before_first is_zero (padded bytes) ≡ bytes
before_zeros bytes h =
    ap (λ k. take k (padded bytes)) (zero_behind (8 - length bytes) bytes h) ∙ take_front bytes (replicate (8 - length bytes) 0)
