-- What each unit of a lawful construction costs at most, by what that costs.
use Rattle.std.proofs.Common.{◌≡◌, ℕ, ◌+◌, ◌≤◌, List, [], ◌∷◌, ap, inl, inr, arith}
use Rattle.std.specs.Prelude.{Some, None, sum_by}
use Rattle.std.proofs.lemmas.List.Sums.{sum_by-cons}
use Rattle.fare_trip.specs.Itinerary.{Itinerary}
use Rattle.fare_tariff.specs.Tariff.{Tariff}
use Rattle.fare_rules.specs.declared.part.Part.{Part}
use Rattle.fare_rules.specs.Best.{IsLawful}
use Rattle.fare_rules.specs.Construction.{greatest_unit, places, units}
use Rattle.fare_rules.specs.UnitPrice.{price, unit_price}
use Rattle.fare_rules.proofs.LawfulLemmas.{price_of_lawful}
use Rattle.fare_rules.proofs.MemberLemmas.{Member, member_numbers}
use Rattle.fare_homing.specs.declared.homing.Bar.{Bar}
use Rattle.fare_homing.specs.Units.{IsBar, IsUnitCeiling}
use Rattle.fare_legs.specs.declared.ceiling.Ceiling.{Ceiling}
use Rattle.fare_legs.specs.Ceiling.{IsCeiling}

-- a sum is no less than what one member adds
sum_has : (f : ℕ → ℕ) (xs : List ℕ) (x : ℕ) → Member x xs → f x ≤ sum_by f xs
sum_has f [] x m = absurd m
sum_has f (y ∷ ys) x (inl same) =
    let more : sum_by f (y ∷ ys) ≡ f y + sum_by f ys = sum_by-cons f y ys in
    let here : f x ≡ f y = ap f same in
    omega arith
sum_has f (y ∷ ys) x (inr m) =
    let more : sum_by f (y ∷ ys) ≡ f y + sum_by f ys = sum_by-cons f y ys in
    let up : f x ≤ sum_by f ys = sum_has f ys x m in
    omega arith

-- no unit costs more than all
unit_up : (tariff : Tariff) (trip : Itinerary) (parts : List Part) (cost : ℕ) → IsLawful tariff trip parts cost → (unit : ℕ) → 1 ≤ unit → unit ≤ greatest_unit parts (places parts) → unit_price tariff trip parts unit ≤ cost
unfolding price
unit_up tariff trip parts cost lawful unit low high =
    let there : Member unit (units parts) = member_numbers 1 (greatest_unit parts (places parts) + 1) unit low (omega arith) in
    let up : unit_price tariff trip parts unit ≤ sum_by (unit_price tariff trip parts) (units parts) = sum_has (unit_price tariff trip parts) (units parts) unit there in
    let whole : sum_by (unit_price tariff trip parts) (units parts) ≡ cost = price_of_lawful tariff trip parts cost lawful in
    omega arith

-- without a ceiling units are under none
pub units_free : (tariff : Tariff) (trip : Itinerary) → IsUnitCeiling tariff trip None None
units_free tariff trip = record { alike = tt; units = λ parts price lawful cheap unit low high long. tt }

-- units are under the ceiling of all
pub units_by_all : (tariff : Tariff) (trip : Itinerary) (known : Ceiling) → IsCeiling tariff trip (Some known) → IsUnitCeiling tariff trip (Some known) (Some known)
units_by_all tariff trip known alike = record {
  alike = alike;
  units = λ parts cost lawful cheap unit low high long.
      let up : unit_price tariff trip parts unit ≤ cost = unit_up tariff trip parts cost lawful unit low high in
      let most : cost ≤ known.price = cheap in
      omega arith;
}

-- and under that of a bar whose limit is no less
pub units_by_bar : (tariff : Tariff) (trip : Itinerary) (known : Ceiling) (bar : Bar) → IsBar tariff trip bar → known.price ≤ bar.limit → IsUnitCeiling tariff trip (Some known) (Some bar.unit)
units_by_bar tariff trip known bar is low = record {
  alike = is.alike;
  units = λ parts cost lawful cheap. let most : cost ≤ known.price = cheap in is.units parts cost lawful (omega arith);
}
