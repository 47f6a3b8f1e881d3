-- The failing calls of a keeper in memory.
use Rattle.std.specs.Prelude.{ℕ, ◌==◌, Bool, List, Option, Some, None, Result, Ok, Err, is_some, if◌then◌else◌}
use Rattle.std.specs.List.{find}
use Rattle.fare_outside.specs.declared.fail_at.FailAt.{FailAt}
use Rattle.fare_ports.specs.declared.keeper.KeepFault.{KeepFault}
use Rattle.fare_ports.specs.declared.keeper.KeepFault.TheVariants.{Failed}
use Rattle.fare_ports.specs.Cause.{one_more}
use Rattle.fare_outside.specs.Calls.{call_after}

-- the calls that fail, and the number of the last call made
pub record FailureList : Type 0 where
  pub fail : List FailAt
  pub made : ℕ

-- a listed failure is that of the call of this number
abbrev pub is_failure_of : ℕ → FailAt → Bool
is_failure_of number listed = listed.call == number

-- the listed failure of the next call, where it fails
abbrev pub next_failure : FailureList → Option FailAt
next_failure failures = find (is_failure_of (call_after failures.made)) failures.fail

-- the failures, with the next call made
abbrev pub after_next : FailureList → FailureList
after_next failures = record { fail = failures.fail; made = call_after failures.made }

-- the answer of a call that fails, or this one
abbrev pub answer_or : {A : Type 0} → Option FailAt → A → Result A KeepFault
answer_or None value = Ok value
answer_or (Some failure) value = Err Failed

-- the count of failures after a call that fails or not
abbrev pub counted : Option FailAt → ℕ → ℕ
counted None faults = faults
counted (Some failure) faults = one_more faults
