-- Numbers that a tariff text wants above zero.
use Rattle.std.specs.Prelude.{ℕ, Option, Some, None, nat_lt, if◌then◌else◌}

-- a number that isn't zero
unfoldable pub above_zero : Option ℕ → Option ℕ
above_zero None = None
above_zero (Some n) = if nat_lt 0 n then Some n else None
