-- Unit price: what a pricing unit costs, by its kind.
use Rattle.std.specs.Prelude.{ℕ, Bool, false, List, [], ◌∷◌, Option, Some, None, option_and_then, option_map, max}
use Rattle.std.specs.Prelude.{sum_by, ◌==◌, ◌&&◌, if◌then◌else◌}
use Rattle.fare_codes.specs.declared.nuc.Nuc.{Nuc}
use Rattle.fare_trip.specs.Itinerary.{Itinerary}
use Rattle.fare_tariff.specs.Tariff.{Tariff}
use Rattle.fare_tariff.specs.Lookup.{fare_at}
use Rattle.fare_rules.specs.declared.amount.Amount.{Amount}
use Rattle.fare_rules.specs.declared.part.Part.{Part}
use Rattle.fare_rules.specs.declared.unit_sheet.UnitKind.{UnitKind}
use Rattle.fare_rules.specs.declared.unit_sheet.UnitKind.TheVariants.{OW, RT, CT, OJ}
use Rattle.fare_rules.specs.declared.unit_sheet.UnitSheet.{UnitSheet}
use Rattle.fare_rules.specs.Backhaul.{backhaul}
use Rattle.fare_rules.specs.ComponentAmount.{component_amount}
use Rattle.fare_rules.specs.Construction.{part_at, start_of, end_of, first_of, own, units}
use Rattle.fare_rules.specs.Shape.{holds_ow, closes, is_open_jaw}
use Rattle.fare_rules.specs.Direction.{is_back_in}
use Rattle.fare_rules.specs.Circle.{unit_circle_minimum}

-- the component amount of a part of a unit, in the part's direction
unfoldable pub part_amount : Tariff → Itinerary → List Part → List ℕ → ℕ → Option Amount
part_amount tariff trip parts own k =
    component_amount tariff trip (start_of trip parts k) (end_of parts k) (part_at parts k).fare
    (is_back_in tariff trip parts own k)

-- the hundredths of an amount, 0 where there is none
abbrev pub hundredths_of : Option Amount → ℕ
hundredths_of None = 0
hundredths_of (Some found) = found.amount

-- the hundredths that a part of a unit costs
abbrev pub part_cost : Tariff → Itinerary → List Part → List ℕ → ℕ → ℕ
part_cost tariff trip parts own k = hundredths_of (part_amount tariff trip parts own k)

-- the sum of the amounts of a unit
unfoldable pub unit_sum : Tariff → Itinerary → List Part → List ℕ → ℕ
unit_sum tariff trip parts own = sum_by (part_cost tariff trip parts own) own

-- a unit has exactly two parts, of costs that are equal
abbrev pub are_two_equal : (ℕ → ℕ) → List ℕ → Bool
are_two_equal cost [] = false
are_two_equal cost (k ∷ []) = false
are_two_equal cost (k ∷ next ∷ []) = cost k == cost next
are_two_equal cost (k ∷ next ∷ third ∷ rest) = false

-- a unit is a round trip: it closes, and has exactly two parts of equal amounts
unfoldable pub is_round_trip : Tariff → Itinerary → List Part → List ℕ → Bool
is_round_trip tariff trip parts own =
    closes trip parts own && are_two_equal (part_cost tariff trip parts own) own

-- the kind of a unit: one way where it holds a one way fare, else an open jaw, a round trip, or else a circle trip
unfoldable pub unit_kind : Tariff → Itinerary → List Part → List ℕ → UnitKind
unit_kind tariff trip parts own =
    if holds_ow tariff parts own then OW
    else (if is_open_jaw tariff trip parts own then OJ
    else (if is_round_trip tariff trip parts own then RT
    else CT))

-- the greater of a sum and a minimum, where there is one
abbrev pub at_least : ℕ → Option ℕ → ℕ
at_least sum None = sum
at_least sum (Some minimum) = max sum minimum

-- the backhaul minimum of the fare of a record number over a span
abbrev pub number_backhaul : Tariff → Itinerary → ℕ → ℕ → ℕ → Option Nuc
number_backhaul tariff trip a b number = option_and_then (backhaul tariff trip a b) (fare_at tariff number)

-- what the fare of a record number costs one way over a span, by its amount there: the amount or the backhaul minimum
abbrev pub raised_one_way : Tariff → Itinerary → ℕ → ℕ → ℕ → Amount → ℕ
raised_one_way tariff trip a b number found = at_least found.amount (number_backhaul tariff trip a b number)

-- the price of the fare of a record number one way over a span: its component amount or its backhaul minimum, whichever
-- is greater; none where it may not be used there
unfoldable pub one_way_price : Tariff → Itinerary → ℕ → ℕ → ℕ → Option ℕ
one_way_price tariff trip a b number =
    option_map (raised_one_way tariff trip a b number) (component_amount tariff trip a b number false)

-- the backhaul minimum of a part
abbrev pub part_backhaul : Tariff → Itinerary → List Part → ℕ → Option Nuc
part_backhaul tariff trip parts k =
    number_backhaul tariff trip (start_of trip parts k) (end_of parts k) (part_at parts k).fare

-- the minimum of a unit by its kind: the backhaul minimum one way, the circle minimum of a circle trip, and else none
unfoldable pub unit_minimum : Tariff → Itinerary → List Part → List ℕ → UnitKind → Option ℕ
unit_minimum tariff trip parts own OW = part_backhaul tariff trip parts (first_of own)
unit_minimum tariff trip parts own RT = None
unit_minimum tariff trip parts own CT = unit_circle_minimum tariff trip parts own
unit_minimum tariff trip parts own OJ = None

-- the sheet of a kind, a sum and a minimum
abbrev pub sheet_from : UnitKind → ℕ → Option ℕ → UnitSheet
sheet_from kind sum minimum = record { kind = kind; sum = sum; minimum = minimum; price = at_least sum minimum }

-- the sheet of a unit by its kind
abbrev pub sheet_of_kind : Tariff → Itinerary → List Part → List ℕ → UnitKind → UnitSheet
sheet_of_kind tariff trip parts own kind =
    sheet_from kind (unit_sum tariff trip parts own) (unit_minimum tariff trip parts own kind)

-- the kind, sum, minimum and price of the unit of some places of parts
unfoldable pub unit_sheet : Tariff → Itinerary → List Part → List ℕ → UnitSheet
unit_sheet tariff trip parts own = sheet_of_kind tariff trip parts own (unit_kind tariff trip parts own)

-- the price of a unit by its number
abbrev pub unit_price : Tariff → Itinerary → List Part → ℕ → ℕ
unit_price tariff trip parts unit = (unit_sheet tariff trip parts (own parts unit)).price

-- the price of a construction: the sum of the prices of its units
unfoldable pub price : Tariff → Itinerary → List Part → ℕ
price tariff trip parts = sum_by (unit_price tariff trip parts) (units parts)
