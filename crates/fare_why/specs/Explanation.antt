-- What would make a trip cheaper, as its texts show it.
use Rattle.std.specs.Prelude.{ℕ, ◌<◌, List, Option, option_map, IfSome}
use Rattle.fare_rules.specs.declared.broken.Broken.{Broken}
use Rattle.fare_rules.specs.declared.limits.TheConstants.{PRICE_LIMIT}
use Rattle.fare_rules.specs.declared.part.Part.{Part}
use Rattle.fare_relaxed.specs.declared.term.Term.{Term}

-- what is cheaper without a kind of condition: a construction with its line and its price, what it saves where there is
-- a fare with all conditions, and the rule and the place that bar it
pub record Alternative : Type 0 where
  pub term : Term
  pub parts : List Part
  pub line : List ℕ
  pub total : ℕ
  pub saves : Option ℕ
  pub broken : Broken

-- the price of the trip, where there is a fare, and what is cheaper
pub record Explanation : Type 0 where
  pub total : Option ℕ
  pub reasons : List Alternative

-- a price is below 400,000,000.00, and so is what it saves
pub record IsPricedWithin (total : ℕ) (saves : Option ℕ) : Type 0 where
  pub total_bound : total < PRICE_LIMIT
  pub saves_bound : IfSome saves (λ saved. saved < PRICE_LIMIT)
