-- Unit rules: stays, and which fares may be combined.
use Rattle.std.specs.Prelude.{ℕ, ◌-◌, Bool, false, not, List, Option, Some, None, find, ◌&&◌}
use Rattle.std.specs.List.{list_any}
use Rattle.fare_codes.specs.declared.rule_id.RuleId.{RuleId}
use Rattle.fare_codes.specs.Day.{day_number}
use Rattle.fare_trip.specs.Itinerary.{Itinerary}
use Rattle.fare_records.specs.Record.{FareRecord}
use Rattle.fare_tariff.specs.Tariff.{Tariff}
use Rattle.fare_tariff.specs.Lookup.{unit_ok, ends_ok}
use Rattle.fare_rules.specs.declared.part.Part.{Part}
use Rattle.fare_rules.specs.Numbers.{numbers}
use Rattle.fare_rules.specs.Span.{first_day}
use Rattle.fare_rules.specs.Terms.{term_holds, terms_of_fare, allows_stay}
use Rattle.fare_rules.specs.Construction.{places, units, own, first_of, last_of, start_of, fare_of}
use Rattle.fare_rules.specs.Shape.{is_hr, is_same_unit}

-- the day of the first sector of a part, as a number
abbrev pub part_day : Itinerary → List Part → ℕ → ℕ
part_day trip parts k = day_number (first_day trip (start_of trip parts k))

-- the stay of a unit: the days from the first sector of its first part to the first sector of its last part
unfoldable pub stay : Itinerary → List Part → List ℕ → ℕ
stay trip parts own = part_day trip parts (last_of own) - part_day trip parts (first_of own)

-- the rule of a fare, where there is one, allows a stay
abbrev pub allows_stay_of : Tariff → ℕ → Option FareRecord → Bool
allows_stay_of tariff days None = false
allows_stay_of tariff days (Some fare) = term_holds (allows_stay days) (terms_of_fare tariff fare)

-- the rule of a part's fare does not allow a stay
abbrev pub forbids_stay : Tariff → List Part → ℕ → ℕ → Bool
forbids_stay tariff parts days k = not (allows_stay_of tariff days (fare_of tariff parts k))

-- the stay of a unit of half round trips is outside the rule of one of its parts
abbrev pub is_mistimed : Tariff → Itinerary → List Part → ℕ → Bool
is_mistimed tariff trip parts unit =
    is_hr tariff parts (own parts unit)
    && list_any (forbids_stay tariff parts (stay trip parts (own parts unit))) (own parts unit)

-- the first unit whose stay is not allowed
unfoldable pub mistimed : Tariff → Itinerary → List Part → Option ℕ
mistimed tariff trip parts = find (is_mistimed tariff trip parts) (units parts)

-- two fares, where both are there, pass a test on their rules
abbrev pub rules_pass : (Option RuleId → Option RuleId → Bool) → Option FareRecord → Option FareRecord → Bool
rules_pass test (Some one) (Some other) = test one.rule other.rule
rules_pass test (Some one) None = false
rules_pass test None other = false

-- the fares of two parts are combinable in a unit
abbrev pub are_unit_mates : Tariff → List Part → ℕ → ℕ → Bool
are_unit_mates tariff parts j k = rules_pass (unit_ok tariff) (fare_of tariff parts j) (fare_of tariff parts k)

-- the fares of two parts are combinable end on end
abbrev pub are_end_mates : Tariff → List Part → ℕ → ℕ → Bool
are_end_mates tariff parts j k = rules_pass (ends_ok tariff) (fare_of tariff parts j) (fare_of tariff parts k)

-- an earlier part of a part's unit is not combinable with it in a unit
abbrev pub is_misfit : Tariff → List Part → ℕ → ℕ → Bool
is_misfit tariff parts k j = is_same_unit parts k j && not (are_unit_mates tariff parts j k)

-- a part has an earlier part of its unit with which it is not combinable
abbrev pub has_misfit : Tariff → List Part → ℕ → Bool
has_misfit tariff parts k = list_any (is_misfit tariff parts k) (numbers 1 k)

-- two parts of a unit are not combinable in a unit
abbrev pub is_misfitted : Tariff → List Part → ℕ → Bool
is_misfitted tariff parts unit = list_any (has_misfit tariff parts) (own parts unit)

-- the first unit with two parts that are not combinable in it
unfoldable pub misfitted : Tariff → List Part → Option ℕ
misfitted tariff parts = find (is_misfitted tariff parts) (units parts)

-- an earlier part of another unit is not combinable end on end with a part
abbrev pub is_clash : Tariff → List Part → ℕ → ℕ → Bool
is_clash tariff parts k j = not (is_same_unit parts k j) && not (are_end_mates tariff parts j k)

-- a part has an earlier part of another unit with which it is not combinable end on end
abbrev pub clashes : Tariff → List Part → ℕ → Bool
clashes tariff parts k = list_any (is_clash tariff parts k) (numbers 1 k)

-- the first part that is not combinable end on end with an earlier part of another unit
unfoldable pub clashed : Tariff → List Part → Option ℕ
clashed tariff parts = find (clashes tariff parts) (places parts)
