-- Calls on one object that can fail, numbered together from 1, and the list of those that do.
use Rattle.std.specs.Prelude.{ℕ, ◌+◌, ◌-◌, ◌^◌, Bool, List, min, ◌==◌}
use Rattle.std.specs.List.{list_any}

-- the numbers of the calls that fail, and the number of the last call made; 4,294,967,295 stands
-- for itself and for every later number
pub record CallList : Type 0 where
  pub fail : List ℕ
  pub made : ℕ

-- the number of the call after one of this number
abbrev pub call_after : ℕ → ℕ
call_after made = min (made + 1) (2 ^ 32 - 1)

-- the number of the next call
abbrev pub next_call : CallList → ℕ
next_call calls = call_after calls.made

-- a number in the list is that of this call
abbrev pub is_call : ℕ → ℕ → Bool
is_call number listed = listed == number

-- the next call is one that fails
abbrev pub fails_next : CallList → Bool
fails_next calls = list_any (is_call (next_call calls)) calls.fail

-- the calls, with the next one made
abbrev pub after_call : CallList → CallList
after_call calls = record { fail = calls.fail; made = next_call calls }
