-- What the sheet of a unit says of its sum and its minimum: neither is above its price.
use Rattle.std.proofs.Common.{ℕ, ◌≤◌, List, Option, Some, None, arith}
use Rattle.std.specs.Prelude.{IfSome}
use Rattle.fare_trip.specs.Itinerary.{Itinerary}
use Rattle.fare_tariff.specs.Tariff.{Tariff}
use Rattle.fare_rules.specs.declared.part.Part.{Part}
use Rattle.fare_rules.specs.UnitPrice.{at_least, unit_sheet, unit_kind, unit_sum, unit_minimum}

sum_least : (sum : ℕ) (minimum : Option ℕ) → sum ≤ at_least sum minimum
sum_least sum None = omega arith
sum_least sum (Some minimum) = omega arith

minimum_least : (sum : ℕ) (minimum : Option ℕ) → IfSome minimum (λ (m : ℕ). m ≤ at_least sum minimum)
minimum_least sum None = tt
minimum_least sum (Some minimum) = omega arith

pub sum_in_price : (tariff : Tariff) (trip : Itinerary) (parts : List Part) (own : List ℕ) → (unit_sheet tariff trip parts own).sum ≤ (unit_sheet tariff trip parts own).price
unfolding unit_sheet
sum_in_price tariff trip parts own = sum_least (unit_sum tariff trip parts own) (unit_minimum tariff trip parts own (unit_kind tariff trip parts own))

pub minimum_in_price : (tariff : Tariff) (trip : Itinerary) (parts : List Part) (own : List ℕ) → IfSome (unit_sheet tariff trip parts own).minimum (λ (m : ℕ). m ≤ (unit_sheet tariff trip parts own).price)
unfolding unit_sheet
minimum_in_price tariff trip parts own = minimum_least (unit_sum tariff trip parts own) (unit_minimum tariff trip parts own (unit_kind tariff trip parts own))
