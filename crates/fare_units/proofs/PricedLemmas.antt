-- A construction that has a price breaks no rule, and its parts go on within the trip.
use Rattle.std.proofs.Common.{◌≡◌, ℕ, List, Option, Some, None, Ok, refl}
use Rattle.fare_trip.specs.Itinerary.{Itinerary}
use Rattle.fare_tariff.specs.Tariff.{Tariff}
use Rattle.fare_rules.specs.declared.broken.Broken.{Broken}
use Rattle.fare_rules.specs.declared.part.Part.{Part}
use Rattle.fare_rules.specs.Lawful.{first_broken, lawful_price, unless_broken}
use Rattle.fare_rules.specs.UnitPrice.{price}
use Rattle.fare_lawful.specs.Advance.{Advances}
use Rattle.fare_lawful.proofs.UnitLemmas.{advances_of_unbroken}

-- where a price is answered nothing was found broken
unbroken_when_priced : (broken : Option Broken) (cost found : ℕ) → unless_broken broken cost ≡ Ok found → broken ≡ None
unbroken_when_priced None cost found e = refl
unbroken_when_priced (Some rule) cost found e = cc

pub unbroken_of_price : (tariff : Tariff) (trip : Itinerary) (parts : List Part) (found : ℕ) → lawful_price tariff trip parts ≡ Ok found → first_broken tariff trip parts ≡ None
unfolding lawful_price
unbroken_of_price tariff trip parts found e = unbroken_when_priced (first_broken tariff trip parts) (price tariff trip parts) found e

pub advances_of_price : (tariff : Tariff) (trip : Itinerary) (parts : List Part) (found : ℕ) → lawful_price tariff trip parts ≡ Ok found → Advances trip parts
advances_of_price tariff trip parts found e = advances_of_unbroken tariff trip parts (unbroken_of_price tariff trip parts found e)
