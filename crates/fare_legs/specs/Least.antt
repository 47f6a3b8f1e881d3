-- Least: what one of some entries costs, and numbers that are no more.
use Rattle.std.specs.Prelude.{◌≡◌, ℕ, List, Option, Some, Contains}
use Rattle.fare_component.specs.declared.table.entry.Entry.{Entry}
use Rattle.fare_legs.specs.Costs.{IsUpTo}

-- what one of some entries costs
pub record IsCost (cost_of : Entry → Option ℕ) (entries : List Entry) (cost : ℕ) : Type 0 where
  pub entry : Entry
  pub there : Contains entries entry
  pub costs : cost_of entry ≡ Some cost

-- a number is no more than what each of some entries costs
abbrev pub IsUnderEach : (Entry → Option ℕ) → List Entry → Option ℕ → Type 0
IsUnderEach cost_of entries found = (cost : ℕ) → IsCost cost_of entries cost → IsUpTo cost found
