-- The price of a fare as a unit of its own is one of its amount.
use Rattle.std.proofs.Common.{◌≡◌, ℕ, false, Some, None, refl, inl, inr}
use Rattle.std.proofs.lemmas.Bool.{cases_Bool}
use Rattle.fare_trip.specs.Itinerary.{Itinerary}
use Rattle.fare_records.specs.Record.{FareRecord}
use Rattle.fare_tariff.specs.Tariff.{Tariff}
use Rattle.fare_tariff.specs.Lookup.{fare_at}
use Rattle.fare_rules.specs.ComponentAmount.{component_amount, is_half_round_trip}
use Rattle.fare_rules.specs.UnitPrice.{one_way_price}
use Rattle.fare_component.specs.Table.{single_price}
use Rattle.fare_conditions.specs.Usable.{is_for_span}
use Rattle.fare_conditions.proofs.AmountLemmas.{unsuitable}

-- a fare that has no amount priced out has no price as a unit of its own
pub no_single_there : (tariff : Tariff) (trip : Itinerary) (a b number : ℕ) (fare : FareRecord)
    → fare_at tariff number ≡ Some fare → is_for_span tariff trip a b false fare ≡ false
    → single_price tariff trip a b number ≡ None
unfolding one_way_price component_amount
no_single_there tariff trip a b number fare filed none =
    let amount = unsuitable tariff trip a b false fare none in
    rw (filed, filed, amount) (elim (cases_Bool (is_half_round_trip fare)) [ inl t ↦ rw t refl | inr f ↦ rw f refl ])
