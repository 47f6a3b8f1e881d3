-- Shape: how the parts of units lie in each other, and how a unit closes.
use Rattle.std.specs.Prelude.{ℕ, ◌+◌, Bool, true, false, not, List, [], ◌∷◌, length, Option, Some, None, find, bytes_eq}
use Rattle.std.specs.Prelude.{nat_le, nat_lt, ◌==◌, ◌&&◌, ◌||◌}
use Rattle.std.specs.List.{list_any}
use Rattle.fare_codes.specs.declared.city.City.{City}
use Rattle.fare_codes.specs.declared.country.Country.{Country}
use Rattle.fare_codes.specs.declared.kind.Kind.TheVariants.{OW}
use Rattle.fare_trip.specs.Itinerary.{Itinerary}
use Rattle.fare_records.specs.Record.{FareRecord}
use Rattle.fare_tariff.specs.Tariff.{Tariff}
use Rattle.fare_codes.specs.Same.{same_kind}
use Rattle.fare_rules.specs.declared.part.Part.{Part}
use Rattle.fare_rules.specs.Numbers.{numbers}
use Rattle.fare_rules.specs.Indicator.{country}
use Rattle.fare_rules.specs.Construction.{places, units, unit_of, fare_of, own, origin, last_of, but_last, start_city}
use Rattle.fare_rules.specs.Construction.{end_city}

-- two parts belong to one unit
abbrev pub is_same_unit : List Part → ℕ → ℕ → Bool
is_same_unit parts a b = unit_of parts a == unit_of parts b

-- a part c belongs to another unit than b, and some part before b belongs to the unit of c
abbrev pub is_begun_before : List Part → ℕ → ℕ → Bool
is_begun_before parts b c = not (is_same_unit parts c b) && list_any (is_same_unit parts c) (numbers 1 b)

-- a part b belongs to the unit of d, and between them stands a part of another unit that began before b
abbrev pub is_straddled : List Part → ℕ → ℕ → Bool
is_straddled parts d b = is_same_unit parts d b && list_any (is_begun_before parts b) (numbers (b + 1) d)

-- parts a < b < c < d have a and c in one unit, and b and d in another
abbrev pub is_crossed : List Part → ℕ → Bool
is_crossed parts d = list_any (is_straddled parts d) (numbers 1 d)

-- the first part that crosses another unit
unfoldable pub crossed : List Part → Option ℕ
crossed parts = find (is_crossed parts) (places parts)

-- a fare, where there is one, is one way
abbrev pub is_one_way : Option FareRecord → Bool
is_one_way None = false
is_one_way (Some fare) = same_kind fare.kind OW

-- the fare of a part is one way
abbrev pub is_ow : Tariff → List Part → ℕ → Bool
is_ow tariff parts k = is_one_way (fare_of tariff parts k)

-- a unit holds a one way fare
abbrev pub holds_ow : Tariff → List Part → List ℕ → Bool
holds_ow tariff parts own = list_any (is_ow tariff parts) own

-- a unit of half round trips is one without a one way fare
unfoldable pub is_hr : Tariff → List Part → List ℕ → Bool
is_hr tariff parts own = not (holds_ow tariff parts own)

-- a unit holds a one way fare and has more than one part
abbrev pub is_mixed : Tariff → List Part → ℕ → Bool
is_mixed tariff parts unit = holds_ow tariff parts (own parts unit) && nat_lt 1 (length (own parts unit))

-- the first unit in which a one way fare is not alone
unfoldable pub mixed : Tariff → List Part → Option ℕ
mixed tariff parts = find (is_mixed tariff parts) (units parts)

-- a part begins in the city where another one ends
abbrev pub follows : Itinerary → List Part → ℕ → ℕ → Bool
follows trip parts before k = bytes_eq (start_city trip parts k) (end_city trip parts before)

-- each part of a unit begins in the city where its previous one ends
abbrev pub is_chained : Itinerary → List Part → List ℕ → Bool
is_chained trip parts [] = true
is_chained trip parts (k ∷ []) = true
is_chained trip parts (k ∷ next ∷ rest) = follows trip parts k next && is_chained trip parts (next ∷ rest)

-- a part ends in a city
abbrev pub ends_in : Itinerary → List Part → City → ℕ → Bool
ends_in trip parts city k = bytes_eq (end_city trip parts k) city

-- the last part of a unit ends in its origin
abbrev pub comes_home : Itinerary → List Part → List ℕ → Bool
comes_home trip parts own = ends_in trip parts (origin trip parts own) (last_of own)

-- an earlier part of a unit ends in its origin
abbrev pub comes_home_early : Itinerary → List Part → List ℕ → Bool
comes_home_early trip parts own = list_any (ends_in trip parts (origin trip parts own)) (but_last own)

-- a unit has two or more parts, and its last one ends in its origin and no earlier one does
abbrev pub ends_at_home : Itinerary → List Part → List ℕ → Bool
ends_at_home trip parts own =
    nat_le 2 (length own) && comes_home trip parts own && not (comes_home_early trip parts own)

-- a unit closes: it has two or more parts, each begins where its previous one ends, the last one ends in the origin and
-- no earlier one does
unfoldable pub closes : Itinerary → List Part → List ℕ → Bool
closes trip parts own = is_chained trip parts own && ends_at_home trip parts own

-- two countries are there and the same
abbrev pub is_same_country : Option Country → Option Country → Bool
is_same_country (Some a) (Some b) = bytes_eq a b
is_same_country (Some a) None = false
is_same_country None b = false

-- two cities lie in one country
abbrev pub lie_together : Tariff → City → City → Bool
lie_together tariff a b = is_same_country (country tariff a) (country tariff b)

-- between two cities lies a gap inside one country, and between two others none
abbrev pub is_only_gap : Tariff → City → City → City → City → Bool
is_only_gap tariff a b c d = not (bytes_eq a b) && lie_together tariff a b && bytes_eq c d

-- a unit is an open jaw: it has exactly two parts and exactly one gap, between the end of the first and the start of
-- the second or between the end of the second and the origin, and the cities of the gap lie in one country
abbrev pub is_jaw : Tariff → Itinerary → List Part → List ℕ → Bool
is_jaw tariff trip parts [] = false
is_jaw tariff trip parts (k ∷ []) = false
is_jaw tariff trip parts (k ∷ next ∷ []) =
    is_only_gap tariff
    (end_city trip parts k) (start_city trip parts next) (end_city trip parts next) (start_city trip parts k)
    || is_only_gap tariff
    (end_city trip parts next) (start_city trip parts k) (end_city trip parts k) (start_city trip parts next)
is_jaw tariff trip parts (k ∷ next ∷ third ∷ rest) = false

-- a unit is an open jaw
unfoldable pub is_open_jaw : Tariff → Itinerary → List Part → List ℕ → Bool
is_open_jaw tariff trip parts own = is_jaw tariff trip parts own

-- a unit must close: it is one of half round trips, and no open jaw
abbrev pub must_close : Tariff → Itinerary → List Part → List ℕ → Bool
must_close tariff trip parts own = is_hr tariff parts own && not (is_open_jaw tariff trip parts own)

-- a unit that must close has a part that begins in another city than its previous one ends
abbrev pub is_unchained : Tariff → Itinerary → List Part → ℕ → Bool
is_unchained tariff trip parts unit =
    must_close tariff trip parts (own parts unit) && not (is_chained trip parts (own parts unit))

-- the first unit that is not chained
unfoldable pub unchained : Tariff → Itinerary → List Part → Option ℕ
unchained tariff trip parts = find (is_unchained tariff trip parts) (units parts)

-- a unit that must close has one part, or does not end in its origin, or comes there early
abbrev pub is_unclosed : Tariff → Itinerary → List Part → ℕ → Bool
is_unclosed tariff trip parts unit =
    must_close tariff trip parts (own parts unit) && not (ends_at_home trip parts (own parts unit))

-- the first unit that does not close
unfoldable pub unclosed : Tariff → Itinerary → List Part → Option ℕ
unclosed tariff trip parts = find (is_unclosed tariff trip parts) (units parts)
