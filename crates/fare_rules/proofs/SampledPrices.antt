-- An edition of fares each way between three cities, and constructions whose prices a separate program has worked out.
use Rattle.std.specs.Prelude.{◌≡◌, refl, List, [], ◌∷◌, Some, None, map}
use Rattle.fare_codes.specs.declared.area.Area.TheVariants.{Two}
use Rattle.fare_codes.specs.declared.cabin.Cabin.TheVariants.{Y}
use Rattle.fare_codes.specs.declared.indicator.Indicator.TheVariants.{EH}
use Rattle.fare_codes.specs.declared.kind.Kind.TheVariants.{OW, HR}
use Rattle.fare_codes.specs.declared.mode.Mode.TheVariants.{Nearest}
use Rattle.fare_trip.specs.Itinerary.{Itinerary}
use Rattle.fare_tariff.specs.Tariff.{Tariff}
use Rattle.fare_rules.specs.declared.unit_sheet.UnitKind.TheVariants as unit
use Rattle.fare_rules.specs.Backhaul.{greatest_reference, backhaul}
use Rattle.fare_rules.specs.Base.{compared_pairs, base}
use Rattle.fare_rules.specs.Circle.{own_sectors, circle_reference, unit_circle_minimum}
use Rattle.fare_rules.specs.ComponentAmount.{repeats_city, runs_between, has_indicator, covers_cabins, covers_carriers, in_season, span_surcharge, is_applicable, fare_amount, component_amount}
use Rattle.fare_rules.specs.Construction.{uncovered, misnumbered, unfiled, own}
use Rattle.fare_rules.specs.Direction.{is_back_in}
use Rattle.fare_rules.specs.Indicator.{indicator_of}
use Rattle.fare_rules.specs.Lawful.{breaks, first_broken, lawful_price}
use Rattle.fare_rules.specs.Mileage.{surcharge, sum_of_miles, compared_miles, mileage}
use Rattle.fare_rules.specs.OneSector.{single_fare}
use Rattle.fare_rules.specs.Reference.{reference}
use Rattle.fare_rules.specs.Shape.{crossed, is_hr, mixed, closes, is_open_jaw, unchained, unclosed}
use Rattle.fare_rules.specs.Terms.{stops_hold, transfers_hold, advance_holds}
use Rattle.fare_rules.specs.UnitPrice.{part_amount, unit_sum, is_round_trip, unit_kind, unit_minimum, unit_sheet, price}
use Rattle.fare_rules.specs.UnitRules.{stay, mistimed, misfitted, clashed}
use Rattle.fare_codes.specs.Amounts.{surcharged}
use Rattle.fare_codes.specs.Day.{day_number, days_since_1970}
use Rattle.fare_codes.specs.Season.{season_holds}
use Rattle.jiff_core.specs.Calendar.{days_of_months}
use Rattle.fare_rules.proofs.Filed.{city, currency, fare, permitted, ticketed, allowance, edition, free, trip, stop, change, part}
use Rattle.fare_rules.proofs.Cases.{Case, case, found, expected, sheets, sheet, priced, broken}

-- fares of half round trips and one way between Manchester, Paris and Milan, of one carrier and of every carrier
abbrev between_three_cities : Tariff
between_three_cities = edition (
    fare "MAN" "MIL" EH "Q2" Y HR free 10_000
    ∷ city "PAR" "FR" Two
    ∷ currency "IT" "EUR" 1_000_000 2 1 Nearest
    ∷ fare "PAR" "MAN" EH "Q2" Y HR free 25_000
    ∷ fare "MAN" "PAR" EH "Q2" Y HR free 18_441
    ∷ currency "GB" "GBP" 1 1 5 Nearest
    ∷ fare "PAR" "MAN" EH "Q2" Y OW free 30_000
    ∷ city "MIL" "IT" Two
    ∷ fare "MIL" "PAR" EH "YY" Y HR free 17_099
    ∷ ticketed "MIL" "PAR" 1_102
    ∷ fare "MAN" "PAR" EH "YY" Y OW free 35_000
    ∷ ticketed "MAN" "PAR" 1_903
    ∷ fare "PAR" "MAN" EH "YY" Y OW free 27_102
    ∷ fare "MIL" "PAR" EH "Q2" Y OW free 10_000
    ∷ fare "PAR" "MIL" EH "Q2" Y HR free 20_000
    ∷ fare "MAN" "MIL" EH "YY" Y HR free 15_000
    ∷ allowance "MAN" "MIL" EH "MAN" 901
    ∷ fare "MIL" "MAN" EH "Q2" Y HR free 15_000
    ∷ fare "MIL" "MAN" EH "Q2" Y OW free 11_076
    ∷ fare "PAR" "MIL" EH "YY" Y OW free 28_446
    ∷ fare "PAR" "MIL" EH "YY" Y HR free 22_380
    ∷ currency "FR" "EUR" 1_000_000 2 10 Nearest
    ∷ fare "MIL" "PAR" EH "Q2" Y HR free 10_000
    ∷ fare "MIL" "PAR" EH "YY" Y OW free 16_874
    ∷ fare "MIL" "MAN" EH "YY" Y OW free 20_000
    ∷ fare "MAN" "MIL" EH "YY" Y OW free 22_901
    ∷ city "MAN" "GB" Two
    ∷ permitted "MIL" "MAN" EH 3_453
    ∷ fare "MAN" "PAR" EH "Q2" Y OW free 20_000
    ∷ fare "MIL" "MAN" EH "YY" Y HR free 10_000
    ∷ fare "MAN" "PAR" EH "YY" Y HR free 26_343
    ∷ fare "PAR" "MIL" EH "Q2" Y OW free 19_000
    ∷ fare "MAN" "MIL" EH "Q2" Y OW free 10_000
    ∷ [])

-- Manchester by way of Paris to Milan, and back with a transfer in Paris
abbrev there_and_back : Itinerary
there_and_back = trip "2025-04-27" "MAN" (
    stop "PAR" "Q2" "2025-05-17"
    ∷ stop "MIL" "Q2" "2025-05-24"
    ∷ change "PAR" "Q2" "2025-06-07"
    ∷ stop "MAN" "Q2" "2025-06-08"
    ∷ [])

-- constructions with their prices, or the rule that each breaks first
abbrev sampled_constructions : List Case
sampled_constructions =
    -- a circle trip whose minimum binds, with a round trip inside it
    case between_three_cities there_and_back (part 1 1 32 ∷ part 2 2 22 ∷ part 3 2 22 ∷ part 4 1 6 ∷ []) (priced 97_446)
    -- a circle trip whose minimum does not bind
    ∷ case between_three_cities there_and_back (part 1 1 6 ∷ part 2 1 22 ∷ part 4 1 17 ∷ []) (priced 55_821)
    -- a round trip between two one way fares
    ∷ case between_three_cities there_and_back (part 1 1 30 ∷ part 2 2 22 ∷ part 3 2 22 ∷ part 4 3 14 ∷ []) (priced 91_862)
    -- part 3 goes from Milan to Paris, out, and its fare runs from Paris to Milan
    ∷ case between_three_cities there_and_back (part 1 1 32 ∷ part 2 1 16 ∷ part 3 1 16 ∷ part 4 1 6 ∷ []) (broken 9 3)
    -- three parts of one unit, of which the second begins elsewhere
    ∷ case between_three_cities there_and_back (part 1 1 6 ∷ part 2 2 16 ∷ part 3 1 22 ∷ part 4 3 32 ∷ []) (broken 6 1)
    ∷ []

pub sampled_prices : map found sampled_constructions ≡ map expected sampled_constructions
unfolding greatest_reference backhaul compared_pairs base own_sectors circle_reference unit_circle_minimum repeats_city
    runs_between has_indicator covers_cabins covers_carriers in_season span_surcharge is_applicable fare_amount
    component_amount uncovered misnumbered unfiled own is_back_in indicator_of breaks first_broken lawful_price
    surcharge sum_of_miles compared_miles mileage single_fare reference crossed is_hr mixed closes is_open_jaw unchained
    unclosed stops_hold transfers_hold advance_holds part_amount unit_sum is_round_trip unit_kind unit_minimum
    unit_sheet price stay mistimed misfitted clashed day_number season_holds days_of_months days_since_1970 surcharged
sampled_prices = refl

-- the units of the lawful ones
pub sampled_sheets :
    (sheets between_three_cities there_and_back (part 1 1 32 ∷ part 2 2 22 ∷ part 3 2 22 ∷ part 4 1 6 ∷ [])
    ∷ sheets between_three_cities there_and_back (part 1 1 6 ∷ part 2 1 22 ∷ part 4 1 17 ∷ [])
    ∷ sheets between_three_cities there_and_back (part 1 1 30 ∷ part 2 2 22 ∷ part 3 2 22 ∷ part 4 3 14 ∷ [])
    ∷ [])
    ≡ ((sheet unit.CT 44_784 (Some 52_686) 52_686 ∷ sheet unit.RT 44_760 None 44_760 ∷ [])
    ∷ (sheet unit.CT 55_821 (Some 36_882) 55_821 ∷ [])
    ∷ (sheet unit.OW 20_000 None 20_000 ∷ sheet unit.RT 44_760 None 44_760 ∷ sheet unit.OW 27_102 None 27_102 ∷ [])
    ∷ [])
unfolding greatest_reference backhaul compared_pairs base own_sectors circle_reference unit_circle_minimum repeats_city
    runs_between has_indicator covers_cabins covers_carriers in_season span_surcharge is_applicable fare_amount
    component_amount uncovered misnumbered unfiled own is_back_in indicator_of breaks first_broken lawful_price
    surcharge sum_of_miles compared_miles mileage single_fare reference crossed is_hr mixed closes is_open_jaw unchained
    unclosed stops_hold transfers_hold advance_holds part_amount unit_sum is_round_trip unit_kind unit_minimum
    unit_sheet price stay mistimed misfitted clashed day_number season_holds days_of_months days_since_1970 surcharged
sampled_sheets = refl
