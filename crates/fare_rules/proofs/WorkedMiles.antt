-- The miles and the amount of a fare from London to Rome by way of Paris, computed on the definitions.
use Prim.Native.String.{String}
use Rattle.std.specs.Prelude.{◌≡◌, refl, ℕ, List, [], ◌∷◌, Option, Some, None, map, codes, false}
use Rattle.fare_codes.specs.declared.city.City.{City}
use Rattle.fare_codes.specs.declared.indicator.Indicator.TheVariants.{EH, AT}
use Rattle.fare_tariff.specs.Tariff.{Tariff}
use Rattle.fare_rules.specs.declared.amount.Amount.{Amount}
use Rattle.fare_rules.specs.declared.miles.Mileage.{Mileage}
use Rattle.fare_rules.specs.declared.miles.Mileage.TheVariants.{Direct, Within, Excess, NoTpm, NoMpm, Over}
use Rattle.fare_rules.specs.declared.miles.Miles.{Miles}
use Rattle.fare_rules.specs.Completion.{Choice}
use Rattle.fare_rules.specs.ComponentAmount.{component_amount, fare_amount, is_applicable, repeats_city, runs_between, has_indicator, covers_cabins, covers_carriers, in_season, span_surcharge}
use Rattle.fare_rules.specs.Indicator.{indicator_of}
use Rattle.fare_codes.specs.Season.{season_holds}
use Rattle.fare_rules.specs.Terms.{stops_hold, transfers_hold, advance_holds}
use Rattle.fare_codes.specs.Amounts.{surcharged}
use Rattle.fare_codes.specs.Day.{day_number, days_since_1970}
use Rattle.jiff_core.specs.Calendar.{days_of_months}
use Rattle.fare_rules.specs.Mileage.{mileage, compared_miles, surcharge, sum_of_miles}
use Rattle.fare_rules.specs.Base.{base, compared_pairs}
use Rattle.fare_rules.specs.Reference.{reference}
use Rattle.fare_rules.specs.Completion.{first_part_choices}
use Rattle.fare_rules.specs.Span.{placed}
use Rattle.fare_rules.proofs.Filed.{allowance, allowance_anyhow}
use Rattle.fare_rules.proofs.Editions.{through_fare, with_allowance, without_miles, without_paris}
use Rattle.fare_rules.proofs.Trips.{stopping_in_paris}

-- miles by their sum, allowance, net and permitted miles
abbrev miles : ℕ → ℕ → ℕ → ℕ → Miles
miles sum allowance net mpm = record { sum = sum; allowance = allowance; net = net; mpm = mpm }

-- the edition of the through fare with an extra mileage allowance by way of a city, or by any way
abbrev by_way_of : String → ℕ → Tariff
by_way_of via miles = with_allowance (allowance "LON" "ROM" EH via miles)

abbrev by_any_way : ℕ → Tariff
by_any_way miles = with_allowance (allowance_anyhow "LON" "ROM" EH miles)

-- what the way from London to Rome asks for
abbrev way_to_rome : Tariff → Mileage
way_to_rome tariff = mileage tariff stopping_in_paris 0 2 EH

-- each surcharge step holds up to its last mile, and an allowance is taken off by way of its city, or by any way
pub ways_to_rome :
    map way_to_rome (
    through_fare 40_000 700
    ∷ through_fare 40_000 701
    ∷ through_fare 40_000 750
    ∷ through_fare 40_000 751
    ∷ through_fare 40_000 800
    ∷ through_fare 40_000 801
    ∷ through_fare 40_000 850
    ∷ through_fare 40_000 851
    ∷ through_fare 40_000 900
    ∷ through_fare 40_000 901
    ∷ through_fare 40_000 950
    ∷ through_fare 40_000 951
    ∷ by_way_of "PAR" 60
    ∷ by_way_of "PAR" 2_000
    ∷ by_way_of "FRA" 60
    ∷ by_any_way 60
    ∷ without_miles
    ∷ [])
    ≡ (Within (miles 1_000 0 1_000 1_000)
    ∷ Excess 5 (miles 1_001 0 1_001 1_000)
    ∷ Excess 5 (miles 1_050 0 1_050 1_000)
    ∷ Excess 10 (miles 1_051 0 1_051 1_000)
    ∷ Excess 10 (miles 1_100 0 1_100 1_000)
    ∷ Excess 15 (miles 1_101 0 1_101 1_000)
    ∷ Excess 15 (miles 1_150 0 1_150 1_000)
    ∷ Excess 20 (miles 1_151 0 1_151 1_000)
    ∷ Excess 20 (miles 1_200 0 1_200 1_000)
    ∷ Excess 25 (miles 1_201 0 1_201 1_000)
    ∷ Excess 25 (miles 1_250 0 1_250 1_000)
    ∷ Over (miles 1_251 0 1_251 1_000)
    ∷ Within (miles 1_051 60 991 1_000)
    ∷ Within (miles 1_051 2_000 0 1_000)
    ∷ Excess 10 (miles 1_051 0 1_051 1_000)
    ∷ Within (miles 1_051 60 991 1_000)
    ∷ NoTpm 2
    ∷ [])
unfolding mileage compared_miles surcharge sum_of_miles
ways_to_rome = refl

-- one sector is direct, and where no miles are permitted for an indicator there are none to compare with
pub ways_apart :
    (mileage (through_fare 40_000 700) stopping_in_paris 0 1 EH
    ∷ mileage (through_fare 40_000 700) stopping_in_paris 0 2 AT
    ∷ mileage without_miles stopping_in_paris 0 2 AT
    ∷ [])
    ≡ (Direct ∷ NoMpm ∷ NoTpm 2 ∷ [])
unfolding mileage compared_miles surcharge sum_of_miles
ways_apart = refl

-- the amount of the through fare
abbrev through_amount : Tariff → Option Amount
through_amount tariff = component_amount tariff stopping_in_paris 0 2 8 false

-- an amount by its base, its surcharge and itself
abbrev amount : ℕ → ℕ → ℕ → Option Amount
amount base surcharge raised = Some (record { base = base; surcharge = surcharge; amount = raised })

-- the base with its surcharge is rounded down, and there is no amount where the way is too long or has no miles
pub through_amounts :
    map through_amount (
    through_fare 40_000 700
    ∷ through_fare 40_000 750
    ∷ through_fare 40_000 751
    ∷ through_fare 33_333 750
    ∷ through_fare 40_000 950
    ∷ through_fare 40_000 951
    ∷ by_way_of "PAR" 60
    ∷ by_way_of "FRA" 60
    ∷ without_miles
    ∷ [])
    ≡ (amount 40_000 0 40_000
    ∷ amount 40_000 5 42_000
    ∷ amount 40_000 10 44_000
    ∷ amount 33_333 5 34_999
    ∷ amount 40_000 25 50_000
    ∷ None
    ∷ amount 40_000 0 40_000
    ∷ amount 40_000 10 44_000
    ∷ None
    ∷ [])
unfolding component_amount fare_amount is_applicable repeats_city runs_between has_indicator indicator_of covers_cabins
    covers_carriers in_season season_holds stops_hold transfers_hold advance_holds day_number days_of_months
    days_since_1970 surcharged span_surcharge mileage compared_miles surcharge sum_of_miles base compared_pairs
    reference
through_amounts = refl

-- the first parts that a construction can have
abbrev first_parts : Tariff → List Choice
first_parts tariff = first_part_choices tariff stopping_in_paris

-- where the way is too long or has no miles, no construction can begin
pub first_parts_to_rome :
    map first_parts (through_fare 40_000 700 ∷ through_fare 40_000 951 ∷ without_miles ∷ [])
    ≡ (((2, 8) ∷ []) ∷ [] ∷ [] ∷ [])
unfolding first_part_choices component_amount fare_amount is_applicable repeats_city runs_between has_indicator
    indicator_of covers_cabins covers_carriers in_season season_holds stops_hold transfers_hold advance_holds day_number
    days_of_months days_since_1970 surcharged span_surcharge mileage compared_miles surcharge sum_of_miles base
    compared_pairs reference
first_parts_to_rome = refl

-- the first city of a trip that an edition does not know
abbrev first_unknown : Tariff → Option City
first_unknown tariff = placed tariff stopping_in_paris

-- a city that is not filed is found, and without miles none is missing
pub unknown_places :
    map first_unknown (without_miles ∷ without_paris ∷ []) ≡ (None ∷ Some (codes "PAR") ∷ [])
unfolding placed
unknown_places = refl
