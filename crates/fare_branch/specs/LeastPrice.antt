-- The least price of a lawful construction, as a number of its own.
use Rattle.std.specs.Prelude.{ℕ, List, Option, Some, None}
use Rattle.fare_trip.specs.Itinerary.{Itinerary}
use Rattle.fare_tariff.specs.Tariff.{Tariff}
use Rattle.fare_rules.specs.declared.part.Part.{Part}
use Rattle.fare_rules.proofs.ExistenceLemmas.{best_answer}
use Rattle.fare_branch.specs.declared.bound.TheConstants.{NO_PRICE}

-- the price of what is best, or `NO_PRICE` where nothing is
abbrev pub price_of : Option (List Part × ℕ) → ℕ
price_of None = NO_PRICE
price_of (Some best) = best.1

-- the price of Best, or `NO_PRICE` where no construction is lawful
unfoldable pub least_price : Tariff → Itinerary → ℕ
least_price tariff trip = price_of (best_answer tariff trip).0
