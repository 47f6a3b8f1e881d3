-- What a part between costs is told by what is looked at of it.
use Rattle.std.proofs.Common.{◌≡◌, ℕ, ◌≤◌, Bool, false, List, sym, subst, ◌∙◌}
use Rattle.std.specs.Prelude.{Option, Some}
use Rattle.fare_codes.specs.declared.country.Country.{Country}
use Rattle.fare_trip.specs.Itinerary.{Itinerary, count}
use Rattle.fare_tariff.specs.Tariff.{Tariff}
use Rattle.fare_component.specs.declared.table.entry.Entry.{Entry}
use Rattle.fare_component.specs.Table.{entries_of}
use Rattle.fare_legs.specs.declared.ceiling.Ceiling.{Ceiling}
use Rattle.fare_legs.specs.Barred.{is_barred}
use Rattle.fare_homing.specs.Between.{cost_within}
use Rattle.fare_legs.specs.Ceiling.{below_ceiling}
use Rattle.fare_legs.specs.Costs.{between_cost}
use Rattle.fare_homing.specs.HomingRows.{IsBetween}
use Rattle.fare_legs.specs.Least.{IsCost}
use Rattle.fare_legs.specs.Countries.{heads_in, AreCountries}
use Rattle.fare_legs.specs.Threes.{AreOfTwo}
use Rattle.fare_legs.proofs.CountryLemmas.{heads_same}
use Rattle.fare_legs.proofs.ThreeLemmas.{none_of_two}

-- what a part between costs is what it does with an entry that is looked at
pub cost_is_within : (tariff : Tariff) (trip : Itinerary) (countries : List (Option Country)) (of_two : List ℕ) (ceiling : Option Ceiling) (a b home x : ℕ) (heads : Bool) → AreCountries tariff trip countries → a ≤ count trip → b ≤ count trip → home ≤ count trip
    → heads ≡ heads_in countries a b home → AreOfTwo tariff trip of_two → IsBetween tariff trip ceiling a home b x
    → IsCost (cost_within tariff trip of_two ceiling (record { start = a; end = b; home = home; heads = heads })) (entries_of tariff trip a b) x
cost_is_within tariff trip countries of_two ceiling a b home x heads are low mid high told two between =
    let entry : Entry = between.part.entry in
    let P : Bool → Type 0 = λ way. below_ceiling tariff trip ceiling a home b (between_cost way) entry ≡ Some x in
    let costs : P heads = subst P (heads_same tariff trip countries a b home are low mid high ∙ sym told) between.part.costs in
    let free : is_barred tariff of_two entry.fare ≡ false = none_of_two tariff trip of_two entry.fare two between.third in
    record { entry = entry; there = between.part.there; costs = rw free costs }
