-- The base of a component's fare, and its higher intermediate point.
use Rattle.std.specs.Prelude.{ℕ, ◌+◌, Bool, not, List, [], ◌∷◌, Option, None, max, option_map, filter_map, flat_map}
use Rattle.std.specs.Prelude.{find, ◌==◌, ◌&&◌, ◌||◌, nat_lt, if◌then◌else◌}
use Rattle.fare_codes.specs.declared.day.Day.{Day}
use Rattle.fare_codes.specs.declared.nuc.Nuc.{Nuc}
use Rattle.fare_trip.specs.Itinerary.{Itinerary, point}
use Rattle.fare_records.specs.Record.{FareRecord}
use Rattle.fare_tariff.specs.Tariff.{Tariff}
use Rattle.fare_rules.specs.Numbers.{numbers}
use Rattle.fare_rules.specs.Span.{is_stopover, first_day}
use Rattle.fare_rules.specs.Indicator.{indicator}
use Rattle.fare_rules.specs.Reference.{reference}

-- a pair of points, and the amount that was found for it
abbrev pub Compared : Type 0
Compared = ℕ × ℕ × Nuc

-- a point is an end of a component or an interior stopover
abbrev pub is_end_or_stopover : Itinerary → ℕ → ℕ → Bool
is_end_or_stopover trip end i = (i == end) || is_stopover trip i

-- a pair of points of a component a to b is compared: it is not the whole, it begins at a or at an interior stopover,
-- and it ends at b or at an interior stopover
abbrev pub is_compared : Itinerary → ℕ → ℕ → ℕ → ℕ → Bool
is_compared trip a b i j =
    not ((i == a) && (j == b)) && is_end_or_stopover trip a i && is_end_or_stopover trip b j

-- the reference between two points of a component: from the earlier to the later, or the other way where it is priced
-- back
abbrev pub reference_between : Tariff → Itinerary → FareRecord → Bool → Day → ℕ → ℕ → Option Nuc
reference_between tariff trip fare back on i j =
    if back then reference tariff (point trip j) (point trip i) (indicator tariff trip i j) fare on
    else reference tariff (point trip i) (point trip j) (indicator tariff trip i j) fare on

-- the reference of a pair of points of a component, where it is compared and there is one
abbrev pub compared_reference : Tariff → Itinerary → ℕ → ℕ → FareRecord → Bool → ℕ → ℕ → Option Nuc
compared_reference tariff trip a b fare back i j =
    if is_compared trip a b i j then reference_between tariff trip fare back (first_day trip a) i j else None

-- a pair with its amount
abbrev pub with_amount : ℕ → ℕ → Nuc → Compared
with_amount i j amount = (i, j, amount)

-- what is found for the pair of two points
abbrev pub compared_pair : Tariff → Itinerary → ℕ → ℕ → FareRecord → Bool → ℕ → ℕ → Option Compared
compared_pair tariff trip a b fare back i j =
    option_map (with_amount i j) (compared_reference tariff trip a b fare back i j)

-- what is found for the pairs that begin at a point
abbrev pub compared_from : Tariff → Itinerary → ℕ → ℕ → FareRecord → Bool → ℕ → List Compared
compared_from tariff trip a b fare back i =
    filter_map (compared_pair tariff trip a b fare back i) (numbers (i + 1) (b + 1))

-- all pairs of a component for which a reference is found, by their first and then their second point
unfoldable pub compared_pairs : Tariff → Itinerary → ℕ → ℕ → FareRecord → Bool → List Compared
compared_pairs tariff trip a b fare back = flat_map (compared_from tariff trip a b fare back) (numbers a b)

-- the greatest of an amount and those that were found
abbrev pub greatest_amount : Nuc → List Compared → Nuc
greatest_amount amount [] = amount
greatest_amount amount (found ∷ rest) = max found.2 (greatest_amount amount rest)

-- the base of a fare: the greatest of its amount and all references
unfoldable pub base : Tariff → Itinerary → ℕ → ℕ → FareRecord → Bool → Nuc
base tariff trip a b fare back = greatest_amount fare.amount (compared_pairs tariff trip a b fare back)

-- a pair gives an amount
abbrev pub gives : Nuc → Compared → Bool
gives amount found = found.2 == amount

-- the first pair that gives the greatest amount, where that is above the fare's
abbrev pub highest : Nuc → List Compared → Option Compared
highest amount pairs =
    let greatest = greatest_amount amount pairs in
    if nat_lt amount greatest then find (gives greatest) pairs else None

-- the higher intermediate point: the first pair that gives the base, with the base, where that is above the fare's
-- amount
unfoldable pub higher : Tariff → Itinerary → ℕ → ℕ → FareRecord → Bool → Option Compared
higher tariff trip a b fare back = highest fare.amount (compared_pairs tariff trip a b fare back)
