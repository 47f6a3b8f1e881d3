-- Directions, minimums and references of constructions that turn on a finer point of the rules, computed on the
-- definitions.
use Prim.Native.String.{String}
use Rattle.std.specs.Prelude.{◌≡◌, refl, ℕ, List, [], ◌∷◌, Option, Some, None, true, false, codes, map, take, option_and_then}
use Rattle.fare_codes.specs.declared.indicator.Indicator.TheVariants.{EH}
use Rattle.fare_codes.specs.declared.nuc.Nuc.{Nuc}
use Rattle.fare_records.specs.Record.{FareRecord}
use Rattle.fare_tariff.specs.Lookup.{fare_at}
use Rattle.fare_rules.specs.declared.part.Part.{Part}
use Rattle.fare_rules.specs.declared.unit_sheet.UnitKind.TheVariants as unit
use Rattle.fare_rules.specs.Backhaul.{greatest_reference, backhaul}
use Rattle.fare_rules.specs.Base.{compared_pairs, base}
use Rattle.fare_rules.specs.Circle.{own_sectors, circle_reference, unit_circle_minimum, circle_minimum}
use Rattle.fare_rules.specs.ComponentAmount.{repeats_city, runs_between, has_indicator, covers_cabins, covers_carriers, in_season, span_surcharge, is_applicable, fare_amount, component_amount}
use Rattle.fare_rules.specs.Construction.{uncovered, misnumbered, unfiled, own, places}
use Rattle.fare_rules.specs.Direction.{is_back, is_back_in}
use Rattle.fare_rules.specs.Indicator.{indicator_of}
use Rattle.fare_rules.specs.Lawful.{breaks, first_broken, lawful_price}
use Rattle.fare_rules.specs.Mileage.{surcharge, sum_of_miles, compared_miles, mileage}
use Rattle.fare_rules.specs.Reference.{reference}
use Rattle.fare_rules.specs.Shape.{crossed, is_hr, mixed, closes, is_open_jaw, unchained, unclosed}
use Rattle.fare_rules.specs.Terms.{stops_hold, transfers_hold, advance_holds}
use Rattle.fare_rules.specs.UnitPrice.{part_amount, unit_sum, is_round_trip, unit_kind, unit_minimum, unit_sheet, price, one_way_price}
use Rattle.fare_rules.specs.UnitRules.{stay, mistimed, misfitted, clashed}
use Rattle.fare_codes.specs.Amounts.{surcharged}
use Rattle.fare_codes.specs.Day.{day_number, days_since_1970}
use Rattle.fare_codes.specs.Season.{season_holds}
use Rattle.jiff_core.specs.Calendar.{days_of_months}
use Rattle.fare_rules.proofs.Filed.{part}
use Rattle.fare_rules.proofs.Cases.{Case, case, found, expected, sheets, sheet, priced}
use Rattle.fare_rules.proofs.Editions.{through_fare, beside_paris, home_by_manchester, with_new_york, dear_in_april, carrier_in_summer}
use Rattle.fare_rules.proofs.Trips.{stopping_in_paris, changing_in_paris, on_to_manchester, back_by_manchester, new_york_from_paris, rome_in_may}

-- home to London by way of Manchester
abbrev by_manchester : List Part
by_manchester = part 1 1 5 ∷ part 2 1 6 ∷ part 3 1 7 ∷ []

-- an open jaw that ends in Manchester
abbrev ending_in_manchester : List Part
ending_in_manchester = part 1 1 5 ∷ part 2 1 6 ∷ []

-- round Paris and Rome, with a round trip to New York inside it
abbrev new_york_inside : List Part
new_york_inside = part 1 1 6 ∷ part 2 2 7 ∷ part 3 2 7 ∷ part 4 1 8 ∷ part 5 1 9 ∷ []

-- round Paris and Rome, at the fare of May
abbrev home_in_may : List Part
home_in_may = part 1 1 8 ∷ part 2 1 9 ∷ part 3 1 11 ∷ []

-- lawful constructions with their prices
abbrev finer_constructions : List Case
finer_constructions =
    -- the second part ends in the country of the origin, so it goes back, though it is not the last
    case home_by_manchester back_by_manchester by_manchester (priced 25_000)
    -- an open jaw whose gap lies between its end and its origin
    ∷ case home_by_manchester on_to_manchester ending_in_manchester (priced 19_000)
    -- a circle trip asks for the fare to Rome by its own sectors, and not by the Atlantic, which its side trip crosses
    ∷ case with_new_york new_york_from_paris new_york_inside (priced 70_000)
    -- it asks for the fare to Rome on the day of the part that goes there, and not on the day when the trip begins
    ∷ case dear_in_april rome_in_may home_in_may (priced 24_000)
    ∷ []

-- each costs that
pub finer_prices : map found finer_constructions ≡ map expected finer_constructions
unfolding greatest_reference backhaul compared_pairs base own_sectors circle_reference unit_circle_minimum repeats_city
    runs_between has_indicator covers_cabins covers_carriers in_season span_surcharge is_applicable fare_amount
    component_amount uncovered misnumbered unfiled own is_back_in indicator_of breaks first_broken lawful_price surcharge
    sum_of_miles compared_miles mileage reference crossed is_hr mixed closes is_open_jaw unchained unclosed stops_hold
    transfers_hold advance_holds part_amount unit_sum is_round_trip unit_kind unit_minimum unit_sheet price stay mistimed
    misfitted clashed day_number season_holds days_of_months days_since_1970 surcharged
finer_prices = refl

-- their units
pub finer_sheets :
    (sheets home_by_manchester back_by_manchester by_manchester
    ∷ sheets home_by_manchester on_to_manchester ending_in_manchester
    ∷ sheets with_new_york new_york_from_paris new_york_inside
    ∷ sheets dear_in_april rome_in_may home_in_may
    ∷ [])
    ≡ ((sheet unit.CT 25_000 (Some 20_000) 25_000 ∷ [])
    ∷ (sheet unit.OJ 19_000 None 19_000 ∷ [])
    ∷ (sheet unit.CT 28_000 (Some 30_000) 30_000 ∷ sheet unit.RT 40_000 None 40_000 ∷ [])
    ∷ (sheet unit.CT 23_000 (Some 24_000) 24_000 ∷ [])
    ∷ [])
unfolding greatest_reference backhaul compared_pairs base own_sectors circle_reference unit_circle_minimum repeats_city
    runs_between has_indicator covers_cabins covers_carriers in_season span_surcharge is_applicable fare_amount
    component_amount uncovered misnumbered unfiled own is_back_in indicator_of breaks first_broken lawful_price surcharge
    sum_of_miles compared_miles mileage reference crossed is_hr mixed closes is_open_jaw unchained unclosed stops_hold
    transfers_hold advance_holds part_amount unit_sum is_round_trip unit_kind unit_minimum unit_sheet price stay mistimed
    misfitted clashed day_number season_holds days_of_months days_since_1970 surcharged
finer_sheets = refl

-- on the way home by Manchester the second part goes back, and so does the last
pub home_directions :
    map (is_back home_by_manchester back_by_manchester by_manchester) (places by_manchester) ≡ (false ∷ true ∷ true ∷ [])
unfolding is_back_in is_hr own
home_directions = refl

-- the circle minimum over the first parts of the unit by Rome
abbrev minimum_over : ℕ → Option Nuc
minimum_over count = circle_minimum dear_in_april rome_in_may (take count home_in_may) (own (take count home_in_may) 1)

-- over the first part it is twice the fare to Paris, over two twice the fare to Rome, and the way home adds nothing
pub minimums_over_fronts :
    (minimum_over 1 ∷ minimum_over 2 ∷ minimum_over 3 ∷ []) ≡ (Some 20_000 ∷ Some 24_000 ∷ Some 24_000 ∷ [])
unfolding circle_minimum circle_reference own_sectors own reference indicator_of season_holds
minimums_over_fronts = refl

-- the reference from London to Paris for a fare on a day
abbrev to_paris : String → FareRecord → Option Nuc
to_paris on fare = reference carrier_in_summer (codes "LON") (codes "PAR") EH fare (codes on)

-- and for the carrier's fare to Rome
abbrev carrier_to_paris : String → Option Nuc
carrier_to_paris on = option_and_then (to_paris on) (fare_at carrier_in_summer 8)

-- the carrier's own fare serves in its season, and outside it that of every carrier
pub references_by_season :
    (carrier_to_paris "2025-04-30" ∷ carrier_to_paris "2025-05-01" ∷ carrier_to_paris "2025-11-01" ∷ [])
    ≡ (Some 35_000 ∷ Some 50_000 ∷ Some 35_000 ∷ [])
unfolding reference season_holds
references_by_season = refl

-- one way a fare costs its backhaul minimum where Paris is a stopover, its amount where it is not, and nothing where it
-- may not be used
pub one_way_prices :
    (one_way_price (beside_paris 45_000 20_000) stopping_in_paris 0 2 8
    ∷ one_way_price (beside_paris 45_000 20_000) changing_in_paris 0 2 8
    ∷ one_way_price (through_fare 40_000 951) stopping_in_paris 0 2 8
    ∷ [])
    ≡ (Some 50_000 ∷ Some 40_000 ∷ None ∷ [])
unfolding one_way_price component_amount fare_amount is_applicable repeats_city runs_between has_indicator indicator_of
    covers_cabins covers_carriers in_season season_holds stops_hold transfers_hold advance_holds day_number days_of_months
    days_since_1970 surcharged span_surcharge mileage compared_miles surcharge sum_of_miles base compared_pairs reference
    backhaul greatest_reference
one_way_prices = refl
