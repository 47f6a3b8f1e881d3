-- The ticketed point mileages of the sectors of a span, looked up once for all spans within it.
use Rattle.std.specs.Prelude.{◌≡◌, ℕ, ◌<◌, ◌≤◌, List, Option, None, IfSome, slice_index_or}
use Rattle.fare_trip.specs.Itinerary.{Itinerary}
use Rattle.fare_records.specs.declared.limits.TheConstants.{MOST_MILES}
use Rattle.fare_tariff.specs.Tariff.{Tariff}
use Rattle.fare_rules.specs.Mileage.{sector_miles}

-- the mileage that stands at the number of a sector
abbrev pub miles_at : List (Option ℕ) → ℕ → Option ℕ
miles_at miles number = slice_index_or miles number None

-- at the number of each sector of a span stands its ticketed point mileage
abbrev pub AreMiles : Tariff → Itinerary → ℕ → ℕ → List (Option ℕ) → Type 0
AreMiles tariff trip a b miles =
    (number : ℕ) → a < number → number ≤ b → miles_at miles number ≡ sector_miles tariff trip number

-- no mileage is above the greatest that is filed
abbrev pub AreInRange : List (Option ℕ) → Type 0
AreInRange miles = (number : ℕ) → IfSome (miles_at miles number) (λ found. found ≤ MOST_MILES)
