-- For each rule a construction that breaks it first, computed on the definitions.
use Rattle.std.specs.Prelude.{◌≡◌, refl, List, [], ◌∷◌, map}
use Rattle.fare_codes.specs.declared.area.Area.TheVariants.{Two}
use Rattle.fare_tariff.specs.Tariff.{Tariff}
use Rattle.fare_rules.specs.Backhaul.{greatest_reference, backhaul}
use Rattle.fare_rules.specs.Base.{compared_pairs, base}
use Rattle.fare_rules.specs.Circle.{own_sectors, circle_reference, unit_circle_minimum}
use Rattle.fare_rules.specs.ComponentAmount.{repeats_city, runs_between, has_indicator, covers_cabins, covers_carriers, in_season, span_surcharge, is_applicable, fare_amount, component_amount}
use Rattle.fare_rules.specs.Construction.{uncovered, misnumbered, unfiled, own}
use Rattle.fare_rules.specs.Direction.{is_back_in}
use Rattle.fare_rules.specs.Indicator.{indicator_of}
use Rattle.fare_rules.specs.Lawful.{breaks, first_broken, lawful_price}
use Rattle.fare_rules.specs.Mileage.{surcharge, sum_of_miles, compared_miles, mileage}
use Rattle.fare_rules.specs.Reference.{reference}
use Rattle.fare_rules.specs.Shape.{crossed, is_hr, mixed, closes, is_open_jaw, unchained, unclosed}
use Rattle.fare_rules.specs.Terms.{stops_hold, transfers_hold, advance_holds}
use Rattle.fare_rules.specs.UnitPrice.{part_amount, unit_sum, is_round_trip, unit_kind, unit_minimum, unit_sheet, price}
use Rattle.fare_rules.specs.UnitRules.{stay, mistimed, misfitted, clashed}
use Rattle.fare_codes.specs.Amounts.{surcharged}
use Rattle.fare_codes.specs.Day.{day_number, days_since_1970}
use Rattle.fare_codes.specs.Season.{season_holds}
use Rattle.jiff_core.specs.Calendar.{days_of_months}
use Rattle.fare_rules.proofs.Filed.{city, part}
use Rattle.fare_rules.proofs.Cases.{Case, case, found, expected, broken}
use Rattle.fare_rules.proofs.Editions.{through_fare, beside_paris, pacific_circle, end_on_end, side_trip, paris_and_lyon, home_by_manchester, limited}
use Rattle.fare_rules.proofs.Trips.{stopping_in_paris, changing_in_paris, in_business, straight_to_rome, rome_and_back, paris_twice, los_angeles_and_back, back_from_lyon, on_from_lyon, there_and_back_twice, back_by_manchester}

-- the through fare with 700 miles from Paris
abbrev plain : Tariff
plain = through_fare 40_000 700

-- constructions with the rule that each breaks first, and the place
abbrev broken_constructions : List Case
broken_constructions =
    -- the parts end before the trip
    case plain stopping_in_paris (part 1 1 8 ∷ []) (broken 1 2)
    -- a part ends where it begins
    ∷ case plain stopping_in_paris (part 2 1 8 ∷ part 2 2 8 ∷ []) (broken 1 2)
    -- there is no part
    ∷ case plain stopping_in_paris [] (broken 1 1)
    -- a part ends behind the trip
    ∷ case plain stopping_in_paris (part 3 1 8 ∷ []) (broken 1 1)
    -- no unit has the number 0
    ∷ case plain stopping_in_paris (part 2 0 8 ∷ []) (broken 2 1)
    -- the first unit has the number 2
    ∷ case plain stopping_in_paris (part 2 2 8 ∷ []) (broken 2 1)
    -- record 9 is no fare
    ∷ case plain stopping_in_paris (part 2 1 9 ∷ []) (broken 3 1)
    -- two units cross
    ∷ case side_trip paris_twice (part 1 1 8 ∷ part 2 2 9 ∷ part 3 1 9 ∷ part 4 2 8 ∷ []) (broken 4 4)
    -- two one way fares share a unit
    ∷ case (beside_paris 45_000 20_000) stopping_in_paris (part 1 1 9 ∷ part 2 1 10 ∷ []) (broken 5 1)
    -- the unit's second part begins in another country than its first part ends
    ∷ case (paris_and_lyon (city "LYS" "IT" Two)) back_from_lyon (part 1 1 9 ∷ part 3 1 10 ∷ []) (broken 6 1)
    -- the unit does not come home
    ∷ case side_trip stopping_in_paris (part 1 1 8 ∷ part 2 1 9 ∷ []) (broken 7 1)
    -- the unit comes home with its second part, and goes on
    ∷ case side_trip there_and_back_twice (part 1 1 8 ∷ part 2 1 8 ∷ part 3 1 8 ∷ part 4 1 8 ∷ []) (broken 7 1)
    -- a half round trip stands alone
    ∷ case limited (straight_to_rome "2025-04-10") (part 1 1 18 ∷ []) (broken 7 1)
    -- one part goes through Paris twice
    ∷ case plain paris_twice (part 4 1 8 ∷ []) (broken 8 1)
    -- a unit closes only at its end: its third part goes from Rome to Paris and is not priced back
    ∷ case side_trip paris_twice (part 1 1 8 ∷ part 2 1 9 ∷ part 3 1 9 ∷ part 4 1 8 ∷ []) (broken 9 3)
    -- the second part heads home to the country of the origin, and its fare runs out
    ∷ case home_by_manchester back_by_manchester (part 1 1 5 ∷ part 2 1 9 ∷ part 3 1 7 ∷ []) (broken 9 2)
    -- a fare by the Pacific is used over the Atlantic
    ∷ case pacific_circle los_angeles_and_back (part 1 1 10 ∷ part 2 1 10 ∷ []) (broken 10 1)
    -- an economy fare is used in business class
    ∷ case plain in_business (part 2 1 8 ∷ []) (broken 11 1)
    -- a fare of one carrier is used on another
    ∷ case limited stopping_in_paris (part 2 1 20 ∷ []) (broken 12 1)
    -- the rule allows no stopover
    ∷ case limited stopping_in_paris (part 2 1 14 ∷ []) (broken 13 1)
    -- the rule allows no transfer
    ∷ case limited changing_in_paris (part 2 1 15 ∷ []) (broken 14 1)
    -- the rule asks for 60 days, and there are 40
    ∷ case limited stopping_in_paris (part 2 1 16 ∷ []) (broken 15 1)
    -- the way is longer than any surcharge allows
    ∷ case (through_fare 40_000 951) stopping_in_paris (part 2 1 8 ∷ []) (broken 16 1)
    -- the rule allows no surcharge
    ∷ case limited stopping_in_paris (part 2 1 17 ∷ []) (broken 17 1)
    -- the rule asks for a stay of a week, and it is two days
    ∷ case limited rome_and_back (part 1 1 18 ∷ part 2 1 18 ∷ []) (broken 18 1)
    -- a rule that lists no rule is not even combined with itself
    ∷ case limited rome_and_back (part 1 1 19 ∷ part 2 1 19 ∷ []) (broken 19 1)
    -- the first fare's rule does not list the second one's
    ∷ case end_on_end stopping_in_paris (part 1 1 10 ∷ part 2 2 12 ∷ []) (broken 20 2)
    -- a part holds a surface sector, and its miles are not asked
    ∷ case plain on_from_lyon (part 3 1 8 ∷ []) (broken 21 1)
    -- a fare from May on is used in April
    ∷ case limited stopping_in_paris (part 2 1 21 ∷ []) (broken 22 1)
    ∷ []

-- each breaks that rule first, there
pub broken_rules : map found broken_constructions ≡ map expected broken_constructions
unfolding greatest_reference backhaul compared_pairs base own_sectors circle_reference unit_circle_minimum repeats_city
    runs_between has_indicator covers_cabins covers_carriers in_season span_surcharge is_applicable fare_amount
    component_amount uncovered misnumbered unfiled own is_back_in indicator_of breaks first_broken lawful_price
    surcharge sum_of_miles compared_miles mileage reference crossed is_hr mixed closes is_open_jaw unchained unclosed
    stops_hold transfers_hold advance_holds part_amount unit_sum is_round_trip unit_kind unit_minimum unit_sheet price
    stay mistimed misfitted clashed day_number season_holds days_of_months days_since_1970 surcharged
broken_rules = refl
