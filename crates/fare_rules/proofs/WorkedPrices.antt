-- Lawful constructions with their prices, and what makes them up, computed on the definitions.
use Rattle.std.specs.Prelude.{◌≡◌, refl, ℕ, List, [], ◌∷◌, Option, Some, None, Bool, true, false, map, option_map}
use Rattle.fare_codes.specs.declared.area.Area.TheVariants.{Two}
use Rattle.fare_codes.specs.declared.indicator.Indicator.TheVariants.{EH, AP}
use Rattle.fare_trip.specs.Itinerary.{Itinerary}
use Rattle.fare_tariff.specs.Lookup.{fare_at}
use Rattle.fare_records.specs.Record.{FareRecord}
use Rattle.fare_tariff.specs.Tariff.{Tariff}
use Rattle.fare_rules.specs.declared.part.Part.{Part}
use Rattle.fare_rules.specs.declared.unit_sheet.UnitKind.TheVariants as unit
use Rattle.fare_rules.specs.Base.{Compared}
use Rattle.fare_rules.specs.Construction.{places}
use Rattle.fare_rules.specs.Direction.{is_back}
use Rattle.fare_rules.specs.Indicator.{indicator}
use Rattle.fare_rules.specs.Backhaul.{greatest_reference, backhaul}
use Rattle.fare_rules.specs.Base.{compared_pairs, base, higher}
use Rattle.fare_rules.specs.Circle.{own_sectors, circle_reference, unit_circle_minimum}
use Rattle.fare_rules.specs.ComponentAmount.{repeats_city, runs_between, has_indicator, covers_cabins, covers_carriers, in_season, span_surcharge, is_applicable, fare_amount, component_amount}
use Rattle.fare_rules.specs.Construction.{uncovered, misnumbered, unfiled, own}
use Rattle.fare_rules.specs.Direction.{is_back_in}
use Rattle.fare_rules.specs.Indicator.{indicator_of}
use Rattle.fare_rules.specs.Lawful.{breaks, first_broken, lawful_price}
use Rattle.fare_rules.specs.Mileage.{surcharge, sum_of_miles, compared_miles, mileage}
use Rattle.fare_rules.specs.Reference.{reference}
use Rattle.fare_rules.specs.Shape.{crossed, is_hr, mixed, closes, is_open_jaw, unchained, unclosed}
use Rattle.fare_rules.specs.Terms.{stops_hold, transfers_hold, advance_holds}
use Rattle.fare_rules.specs.UnitPrice.{part_amount, unit_sum, is_round_trip, unit_kind, unit_minimum, unit_sheet, price}
use Rattle.fare_rules.specs.UnitRules.{stay, mistimed, misfitted, clashed}
use Rattle.fare_codes.specs.Amounts.{surcharged}
use Rattle.fare_codes.specs.Day.{day_number, days_since_1970}
use Rattle.fare_codes.specs.Season.{season_holds}
use Rattle.jiff_core.specs.Calendar.{days_of_months}
use Rattle.fare_rules.specs.Order.{is_before, compare_parts}
use Rattle.fare_rules.proofs.Filed.{city, part}
use Rattle.fare_rules.proofs.Cases.{Case, case, found, expected, sheets, sheet, priced}
use Rattle.fare_rules.proofs.Editions.{through_fare, beside_paris, pacific_circle, round_the_world, end_on_end, side_trip, paris_and_lyon, inside_a_country, summer_and_winter}
use Rattle.fare_rules.proofs.Trips.{stopping_in_paris, changing_in_paris, straight_to_rome, paris_twice, by_the_pacific, on_two_carriers, back_from_lyon, manchester_and_back}

-- the through fare with 700 miles from Paris
abbrev plain : Tariff
plain = through_fare 40_000 700

-- lawful constructions with their prices
abbrev lawful_constructions : List Case
lawful_constructions =
    -- a through fare within its miles
    case plain stopping_in_paris (part 2 1 8 ∷ []) (priced 40_000)
    -- one with a surcharge of 5, rounded down
    ∷ case (through_fare 33_333 750) stopping_in_paris (part 2 1 8 ∷ []) (priced 34_999)
    -- a higher intermediate point in Paris, and its backhaul minimum
    ∷ case (beside_paris 45_000 20_000) stopping_in_paris (part 2 1 8 ∷ []) (priced 50_000)
    -- a break in Paris
    ∷ case (beside_paris 45_000 20_000) stopping_in_paris (part 1 1 9 ∷ part 2 2 10 ∷ []) (priced 65_000)
    -- a transfer point is not compared
    ∷ case (beside_paris 45_000 20_000) changing_in_paris (part 2 1 8 ∷ []) (priced 40_000)
    -- a circle trip that costs twice the fare to Los Angeles
    ∷ case pacific_circle by_the_pacific (part 1 1 8 ∷ part 3 1 9 ∷ []) (priced 90_000)
    -- with the dearer half it is a round trip, which has no minimum
    ∷ case pacific_circle by_the_pacific (part 1 1 8 ∷ part 3 1 15 ∷ []) (priced 80_000)
    -- a side trip inside a round trip
    ∷ case side_trip paris_twice (part 1 1 8 ∷ part 2 2 9 ∷ part 3 2 9 ∷ part 4 1 8 ∷ []) (priced 36_000)
    -- the dearer fare to Paris may be followed by the fare from there
    ∷ case end_on_end stopping_in_paris (part 1 1 11 ∷ part 2 2 12 ∷ []) (priced 30_000)
    -- round the world in two parts, of which the second has a surcharge and goes back
    ∷ case round_the_world on_two_carriers (part 2 1 12 ∷ part 5 1 13 ∷ []) (priced 280_000)
    -- an open jaw between Paris and Lyon
    ∷ case (paris_and_lyon (city "LYS" "FR" Two)) back_from_lyon (part 1 1 9 ∷ part 3 1 10 ∷ []) (priced 19_000)
    -- a round trip inside one country, whose last part goes back
    ∷ case inside_a_country manchester_and_back (part 1 1 4 ∷ part 2 1 4 ∷ []) (priced 12_000)
    -- a fare of the summer
    ∷ case summer_and_winter (straight_to_rome "2025-04-10") (part 1 1 4 ∷ []) (priced 40_000)
    -- the winter lasts to 31 March
    ∷ case summer_and_winter (straight_to_rome "2025-03-31") (part 1 1 5 ∷ []) (priced 30_000)
    -- and begins on 1 November
    ∷ case summer_and_winter (straight_to_rome "2025-11-01") (part 1 1 5 ∷ []) (priced 30_000)
    ∷ []

-- each costs that
pub lawful_prices : map found lawful_constructions ≡ map expected lawful_constructions
unfolding greatest_reference backhaul compared_pairs base own_sectors circle_reference unit_circle_minimum repeats_city
    runs_between has_indicator covers_cabins covers_carriers in_season span_surcharge is_applicable fare_amount
    component_amount uncovered misnumbered unfiled own is_back_in indicator_of breaks first_broken lawful_price
    surcharge sum_of_miles compared_miles mileage reference crossed is_hr mixed closes is_open_jaw unchained unclosed
    stops_hold transfers_hold advance_holds part_amount unit_sum is_round_trip unit_kind unit_minimum unit_sheet price
    stay mistimed misfitted clashed day_number season_holds days_of_months days_since_1970 surcharged
lawful_prices = refl

-- a backhaul minimum, a circle minimum, a round trip, two units, and an open jaw
pub worked_sheets :
    (sheets (beside_paris 45_000 20_000) stopping_in_paris (part 2 1 8 ∷ [])
    ∷ sheets pacific_circle by_the_pacific (part 1 1 8 ∷ part 3 1 9 ∷ [])
    ∷ sheets pacific_circle by_the_pacific (part 1 1 8 ∷ part 3 1 15 ∷ [])
    ∷ sheets side_trip paris_twice (part 1 1 8 ∷ part 2 2 9 ∷ part 3 2 9 ∷ part 4 1 8 ∷ [])
    ∷ sheets round_the_world on_two_carriers (part 2 1 12 ∷ part 5 1 13 ∷ [])
    ∷ sheets (paris_and_lyon (city "LYS" "FR" Two)) back_from_lyon (part 1 1 9 ∷ part 3 1 10 ∷ [])
    ∷ [])
    ≡ ((sheet unit.OW 45_000 (Some 50_000) 50_000 ∷ [])
    ∷ (sheet unit.CT 79_000 (Some 90_000) 90_000 ∷ [])
    ∷ (sheet unit.RT 80_000 None 80_000 ∷ [])
    ∷ (sheet unit.RT 20_000 None 20_000 ∷ sheet unit.RT 16_000 None 16_000 ∷ [])
    ∷ (sheet unit.CT 277_500 (Some 280_000) 280_000 ∷ [])
    ∷ (sheet unit.OJ 19_000 None 19_000 ∷ [])
    ∷ [])
unfolding greatest_reference backhaul compared_pairs base own_sectors circle_reference unit_circle_minimum repeats_city
    runs_between has_indicator covers_cabins covers_carriers in_season span_surcharge is_applicable fare_amount
    component_amount uncovered misnumbered unfiled own is_back_in indicator_of breaks first_broken lawful_price
    surcharge sum_of_miles compared_miles mileage reference crossed is_hr mixed closes is_open_jaw unchained unclosed
    stops_hold transfers_hold advance_holds part_amount unit_sum is_round_trip unit_kind unit_minimum unit_sheet price
    stay mistimed misfitted clashed day_number season_holds days_of_months days_since_1970 surcharged
worked_sheets = refl

-- the higher intermediate point of a fare
abbrev higher_by : Tariff → Itinerary → ℕ → ℕ → Bool → FareRecord → Option Compared
higher_by tariff trip a b back fare = higher tariff trip a b fare back

-- the higher intermediate point of the fare of a record
abbrev higher_of : Tariff → Itinerary → ℕ → ℕ → ℕ → Bool → Option (Option Compared)
higher_of tariff trip a b number back = option_map (higher_by tariff trip a b back) (fare_at tariff number)

-- Paris is higher where it is a stopover, and no point is where it is a transfer or its fare is not above
pub higher_points :
    (higher_of (beside_paris 45_000 20_000) stopping_in_paris 0 2 8 false
    ∷ higher_of (beside_paris 45_000 20_000) changing_in_paris 0 2 8 false
    ∷ higher_of (beside_paris 40_000 20_000) stopping_in_paris 0 2 8 false
    ∷ higher_of (beside_paris 20_000 45_000) stopping_in_paris 0 2 8 false
    ∷ [])
    ≡ (Some (Some (0, 1, 45_000)) ∷ Some None ∷ Some None ∷ Some (Some (1, 2, 45_000)) ∷ [])
unfolding higher compared_pairs reference indicator_of season_holds
higher_points = refl

-- the construction round the world
abbrev world_parts : List Part
world_parts = part 2 1 12 ∷ part 5 1 13 ∷ []

-- its first part goes out, and its second back
pub world_directions : map (is_back round_the_world on_two_carriers world_parts) (places world_parts)
    ≡ (false ∷ true ∷ [])
unfolding is_back_in is_hr own
world_directions = refl

-- the first goes by the eastern hemisphere, and the second over both oceans
pub world_indicators :
    (indicator round_the_world on_two_carriers 0 2 ∷ indicator round_the_world on_two_carriers 2 5 ∷ []) ≡ (EH ∷ AP ∷ [])
unfolding indicator_of
world_indicators = refl

-- the second has a surcharge
pub world_amount :
    component_amount round_the_world on_two_carriers 2 5 13 true
    ≡ Some (record { base = 150_000; surcharge = 5; amount = 157_500 })
unfolding component_amount fare_amount is_applicable repeats_city runs_between has_indicator indicator_of covers_cabins
    covers_carriers in_season season_holds stops_hold transfers_hold advance_holds day_number days_of_months
    days_since_1970 surcharged span_surcharge mileage compared_miles surcharge sum_of_miles base compared_pairs
    reference
world_amount = refl

-- at equal prices the construction whose first part is longer is before
pub longer_is_before :
    (is_before (part 2 1 8 ∷ []) 40_000 (part 1 1 9 ∷ part 2 2 10 ∷ []) 40_000
    ∷ is_before (part 1 1 9 ∷ part 2 2 10 ∷ []) 40_000 (part 2 1 8 ∷ []) 40_000
    ∷ [])
    ≡ (true ∷ false ∷ [])
unfolding is_before compare_parts
longer_is_before = refl
