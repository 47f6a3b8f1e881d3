-- The best of the pairs that were compared so far.
use Rattle.std.specs.Prelude.{ℕ, ◌<◌, ◌≤◌, List, Option, Some, None}
use Rattle.std.specs.Option.{option_or}
use Rattle.fare_codes.specs.declared.nuc.Nuc.{Nuc}
use Rattle.fare_codes.specs.declared.nuc.TheConstants.{FARE_LIMIT}
use Rattle.fare_rules.specs.Base.{Compared, highest}

-- the amount that is to be exceeded: that of the best pair so far, or the fare's where there is none
abbrev pub amount_to_exceed : Nuc → Option Compared → Nuc
amount_to_exceed amount None = amount
amount_to_exceed amount (Some found) = found.2

-- the best pair once more pairs are compared: the highest of them where it exceeds the best so far, else the best so
-- far
unfoldable pub improved : Nuc → Option Compared → List Compared → Option Compared
improved amount best pairs = option_or (highest (amount_to_exceed amount best) pairs) best

-- a pair that was compared lies within its component, and its amount is one of a fare
pub record IsPairOf (a : ℕ) (b : ℕ) (found : Compared) : Type 0 where
  pub begins : a ≤ found.0
  pub rises : found.0 < found.1
  pub ends : found.1 ≤ b
  pub is_fare_amount : found.2 < FARE_LIMIT
