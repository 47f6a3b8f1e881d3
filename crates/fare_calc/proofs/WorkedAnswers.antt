-- Answers to the byte, computed on the definitions.
use Prim.Native.String.{String}
use Rattle.std.specs.Prelude.{◌≡◌, refl, ℕ, List, [], ◌∷◌, Some, codes, map, flat_map}
use Rattle.fare_codes.specs.declared.area.Area.TheVariants.{Two}
use Rattle.fare_codes.specs.declared.cabin.Cabin.TheVariants.{Y}
use Rattle.fare_codes.specs.declared.indicator.Indicator.TheVariants.{EH}
use Rattle.fare_codes.specs.declared.kind.Kind.TheVariants.{OW}
use Rattle.fare_codes.specs.declared.mode.Mode.TheVariants.{Up, Nearest}
use Rattle.fare_codes.specs.Amounts.{surcharged, tenths, converted}
use Rattle.fare_codes.specs.Day.{day_number, days_since_1970}
use Rattle.fare_codes.specs.Numbers.{last_digits, decimal_text}
use Rattle.fare_codes.specs.Season.{season_holds}
use Rattle.fare_trip.specs.Itinerary.{Itinerary}
use Rattle.fare_tariff.specs.Tariff.{Tariff}
use Rattle.std.specs.Fmt.{digits}
use Rattle.jiff_core.specs.Calendar.{days_of_months}
use Rattle.fare_rules.specs.declared.part.Part.{Part}
use Rattle.fare_rules.specs.Backhaul.{greatest_reference, backhaul}
use Rattle.fare_rules.specs.Base.{compared_pairs, base, higher}
use Rattle.fare_rules.specs.Circle.{own_sectors, circle_reference, unit_circle_minimum}
use Rattle.fare_rules.specs.ComponentAmount.{repeats_city, runs_between, has_indicator, covers_cabins, covers_carriers, in_season, span_surcharge, is_applicable, fare_amount, component_amount}
use Rattle.fare_rules.specs.Construction.{own}
use Rattle.fare_rules.specs.Direction.{is_back_in}
use Rattle.fare_rules.specs.Indicator.{indicator_of}
use Rattle.fare_rules.specs.Mileage.{surcharge, sum_of_miles, compared_miles, mileage}
use Rattle.fare_rules.specs.Reference.{reference}
use Rattle.fare_rules.specs.Shape.{is_hr, closes, is_open_jaw}
use Rattle.fare_rules.specs.Terms.{stops_hold, transfers_hold, advance_holds}
use Rattle.fare_rules.specs.UnitPrice.{part_amount, unit_sum, is_round_trip, unit_kind, unit_minimum, unit_sheet, price}
use Rattle.fare_rules.proofs.Filed.{allowance, city, currency, fare, edition, free, part}
use Rattle.fare_rules.proofs.Editions.{through_fare, with_allowance, beside_paris, pacific_circle, round_the_world, end_on_end, side_trip, paris_and_lyon}
use Rattle.fare_rules.proofs.Trips.{straight_to_rome, stopping_in_paris, changing_in_paris, paris_twice, by_the_pacific, on_two_carriers, back_from_lyon}
use Rattle.fare_calc.specs.PartSheets.{part_sheets, sheet_with}
use Rattle.fare_calc.specs.LineOf.{line_of}
use Rattle.fare_line.specs.LineText.{parts_text, line_text}
use Rattle.fare_calc.specs.Worksheet.{miles_text, part_lines, unit_line, currency_lines, worksheet_text}
use Rattle.fare_calc.specs.Answer.{answer_text}

-- record 6 is a one way fare from London to Rome
abbrev two_cities : Tariff
two_cities = edition (
    currency "GB" "GBP" 750_000 0 1 Up
    ∷ currency "IT" "EUR" 900_000 2 1 Nearest
    ∷ city "LON" "GB" Two
    ∷ city "ROM" "IT" Two
    ∷ fare "LON" "ROM" EH "YY" Y OW free 40_000
    ∷ [])

-- the edition of fares round the world, as its seventh
abbrev seventh : Tariff
seventh = record round_the_world { number = 7 }

-- the open jaw's edition, with Lyon in France
abbrev in_france : Tariff
in_france = paris_and_lyon (city "LYS" "FR" Two)

-- an edition, a trip and parts, with the text that is expected
abbrev Case : Type 0
Case = Tariff × Itinerary × List Part × List ℕ

-- a construction with what is expected of it
abbrev case : Tariff → Itinerary → List Part → String → Case
case tariff trip parts text = (tariff, trip, parts, codes text)

-- the text of its line
abbrev line_found : Case → List ℕ
line_found one = line_text (line_of one.0 one.1 one.2)

-- the answer where it is best
abbrev answer_found : Case → List ℕ
answer_found one = answer_text one.0 one.1 (Some one.2)

-- what is expected of it
abbrev expected : Case → List ℕ
expected one = one.3

-- constructions with their lines
abbrev lines : List Case
lines =
    -- a part within its miles
    case (through_fare 40_000 700) stopping_in_paris (part 2 1 8 ∷ [])
    "LON Q1 PAR Q1 ROM M400.00 YYYOW/1 NUC400.00END ROE0.750000"
    -- with surcharges of 5, 10 and 25
    ∷ case (through_fare 40_000 750) stopping_in_paris (part 2 1 8 ∷ [])
    "LON Q1 PAR Q1 ROM 5M420.00 YYYOW/1 NUC420.00END ROE0.750000"
    ∷ case (through_fare 40_000 751) stopping_in_paris (part 2 1 8 ∷ [])
    "LON Q1 PAR Q1 ROM 10M440.00 YYYOW/1 NUC440.00END ROE0.750000"
    ∷ case (through_fare 40_000 950) stopping_in_paris (part 2 1 8 ∷ [])
    "LON Q1 PAR Q1 ROM 25M500.00 YYYOW/1 NUC500.00END ROE0.750000"
    -- a transfer
    ∷ case (beside_paris 45_000 20_000) changing_in_paris (part 2 1 8 ∷ [])
    "LON Q1 X/PAR Q1 ROM M400.00 YYYOW/1 NUC400.00END ROE0.750000"
    -- a circle trip that is raised to its minimum, and a round trip that has none
    ∷ case pacific_circle by_the_pacific (part 1 1 8 ∷ part 3 1 9 ∷ [])
    "LON Q1 TYO 400.00 YYYHR/1 Q1 LAX Q1 LON M390.00 YYYHR/1 P/1 110.00 NUC900.00END ROE0.750000"
    ∷ case pacific_circle by_the_pacific (part 1 1 8 ∷ part 3 1 15 ∷ [])
    "LON Q1 TYO 400.00 YYYHR/1 Q1 LAX Q1 LON M400.00 Q1YHR/1 NUC800.00END ROE0.750000"
    -- a side trip
    ∷ case side_trip paris_twice (part 1 1 8 ∷ part 2 2 9 ∷ part 3 2 9 ∷ part 4 1 8 ∷ [])
    "LON Q1 PAR 100.00 YYYHR/1 Q1 ROM 80.00 YYYHR/2 Q1 PAR 80.00 YYYHR/2 Q1 LON 100.00 YYYHR/1 NUC360.00END ROE0.750000"
    -- two units, of which one is under a rule
    ∷ case end_on_end stopping_in_paris (part 1 1 11 ∷ part 2 2 12 ∷ [])
    "LON Q1 PAR 200.00 YYYOW/1 Q1 ROM 100.00 YYYOWRB/2 NUC300.00END ROE0.750000"
    -- an open jaw
    ∷ case in_france back_from_lyon (part 1 1 9 ∷ part 3 1 10 ∷ [])
    "LON Q1 PAR 100.00 YYYHR/1 // LYS Q1 LON 90.00 YYYHR/1 NUC190.00END ROE0.750000"
    ∷ []

-- each has that line
pub worked_lines : map line_found lines ≡ map expected lines
unfolding digits greatest_reference backhaul compared_pairs base higher own_sectors circle_reference unit_circle_minimum repeats_city runs_between has_indicator covers_cabins covers_carriers in_season span_surcharge is_applicable fare_amount component_amount own is_back_in indicator_of surcharge sum_of_miles compared_miles mileage reference is_hr closes is_open_jaw stops_hold transfers_hold advance_holds part_amount unit_sum is_round_trip unit_kind unit_minimum unit_sheet price day_number season_holds days_of_months days_since_1970 surcharged tenths converted last_digits decimal_text sheet_with line_of parts_text line_text miles_text part_lines unit_line currency_lines worksheet_text answer_text
worked_lines = refl

-- constructions with their answers
abbrev answers : List Case
answers =
    -- one sector
    case two_cities (straight_to_rome "2025-04-10") (part 1 1 6 ∷ [])
    "EDITION 1 2025-01-01\nLON Q1 ROM 400.00 YYYOW/1 NUC400.00END ROE0.750000\nPART 1 LON-ROM UNIT 1 OUT\nFARE 6 YYYOW 400.00\nMILES DIRECT\nHIP NONE\nAF 400.00\nUNIT 1 OW SUM 400.00 CHECK NONE PRICE 400.00\nTOTAL NUC 400.00\nROE 0.750000\nLOCAL GBP 300\n"
    -- a higher intermediate point and a backhaul minimum
    ∷ case (beside_paris 45_000 20_000) stopping_in_paris (part 2 1 8 ∷ [])
    "EDITION 1 2025-01-01\nLON Q1 PAR Q1 ROM MLONPAR450.00 YYYOW/1 P/1 50.00 NUC500.00END ROE0.750000\nPART 1 LON-ROM UNIT 1 OUT\nFARE 8 YYYOW 400.00\nMILES TPM 1000 EMA 0 NET 1000 MPM 1000 M\nHIP LON-PAR 450.00\nAF 450.00\nUNIT 1 OW SUM 450.00 CHECK BH 500.00 PRICE 500.00\nTOTAL NUC 500.00\nROE 0.750000\nLOCAL GBP 375\n"
    -- a circle trip with a transfer, a surcharge, a part that is priced back and a circle minimum
    ∷ case seventh on_two_carriers (part 2 1 12 ∷ part 5 1 13 ∷ [])
    "EDITION 7 2025-01-01\nLON Q1 X/FRA Q1 TYO M1200.00 YYYHRFLEX/1 Q2 LAX Q2 NYC Q2 LON 5M1575.00 YYYHRFLEX/1 P/1 25.00 NUC2800.00END ROE0.750000\nPART 1 LON-TYO UNIT 1 OUT\nFARE 12 YYYHRFLEX 1200.00\nMILES TPM 6300 EMA 0 NET 6300 MPM 7400 M\nHIP NONE\nAF 1200.00\nPART 2 TYO-LON UNIT 1 BACK\nFARE 13 YYYHRFLEX 1500.00\nMILES TPM 11370 EMA 0 NET 11370 MPM 11000 5M\nHIP NONE\nAF 1575.00\nUNIT 1 CT SUM 2775.00 CHECK CT 2800.00 PRICE 2800.00\nTOTAL NUC 2800.00\nROE 0.750000\nLOCAL GBP 2100\n"
    ∷ []

-- each has that answer
pub worked_answers : map answer_found answers ≡ map expected answers
unfolding digits greatest_reference backhaul compared_pairs base higher own_sectors circle_reference unit_circle_minimum repeats_city runs_between has_indicator covers_cabins covers_carriers in_season span_surcharge is_applicable fare_amount component_amount own is_back_in indicator_of surcharge sum_of_miles compared_miles mileage reference is_hr closes is_open_jaw stops_hold transfers_hold advance_holds part_amount unit_sum is_round_trip unit_kind unit_minimum unit_sheet price day_number season_holds days_of_months days_since_1970 surcharged tenths converted last_digits decimal_text sheet_with line_of parts_text line_text miles_text part_lines unit_line currency_lines worksheet_text answer_text
worked_answers = refl

-- the lines of the parts of a construction
abbrev parts_text_of : Tariff → Itinerary → List Part → List ℕ
parts_text_of tariff trip parts = flat_map part_lines (part_sheets tariff trip parts)

-- a part with an allowance, and one whose allowance is more than its miles
pub lines_of_allowances :
    (parts_text_of (with_allowance (allowance "LON" "ROM" EH "PAR" 60)) stopping_in_paris (part 2 1 8 ∷ [])
    ∷ parts_text_of (with_allowance (allowance "LON" "ROM" EH "PAR" 2_000)) stopping_in_paris (part 2 1 8 ∷ [])
    ∷ [])
    ≡ (codes "PART 1 LON-ROM UNIT 1 OUT\nFARE 8 YYYOW 400.00\nMILES TPM 1051 EMA 60 NET 991 MPM 1000 M\nHIP NONE\nAF 400.00\n"
    ∷ codes "PART 1 LON-ROM UNIT 1 OUT\nFARE 8 YYYOW 400.00\nMILES TPM 1051 EMA 2000 NET 0 MPM 1000 M\nHIP NONE\nAF 400.00\n"
    ∷ [])
unfolding digits greatest_reference backhaul compared_pairs base higher own_sectors circle_reference unit_circle_minimum repeats_city runs_between has_indicator covers_cabins covers_carriers in_season span_surcharge is_applicable fare_amount component_amount own is_back_in indicator_of surcharge sum_of_miles compared_miles mileage reference is_hr closes is_open_jaw stops_hold transfers_hold advance_holds part_amount unit_sum is_round_trip unit_kind unit_minimum unit_sheet price day_number season_holds days_of_months days_since_1970 surcharged tenths converted last_digits decimal_text sheet_with line_of parts_text line_text miles_text part_lines unit_line currency_lines worksheet_text answer_text
lines_of_allowances = refl
