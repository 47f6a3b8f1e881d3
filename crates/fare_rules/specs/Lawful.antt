-- Lawful constructions: the rules in their order, the first one that is broken, and the price where none is.
use Rattle.std.specs.Prelude.{◌≡◌, ℕ, ◌≤◌, Bool, true, length, is_some, false, not, List, [], ◌∷◌, Option, Some, None}
use Rattle.std.specs.Prelude.{Result, Ok, Err, find, option_map, ◌&&◌}
use Rattle.fare_trip.specs.Itinerary.{Itinerary}
use Rattle.fare_records.specs.Record.{FareRecord}
use Rattle.fare_tariff.specs.Tariff.{Tariff}
use Rattle.fare_rules.specs.declared.broken.Broken.{Broken}
use Rattle.fare_rules.specs.declared.part.Part.{Part}
use Rattle.fare_rules.specs.declared.rule.Rule.TheVariants as rule
use Rattle.fare_rules.specs.Numbers.{first_given}
use Rattle.fare_rules.specs.Span.{holds_surface}
use Rattle.fare_rules.specs.Terms.{stops_hold, transfers_hold, advance_holds}
use Rattle.fare_rules.specs.ComponentAmount.{repeats_city, runs_between, has_indicator, covers_cabins, covers_carriers}
use Rattle.fare_rules.specs.ComponentAmount.{in_season, mileage_holds, excess_holds, component_amount}
use Rattle.fare_rules.specs.Construction.{places, start_of, end_of, part_at, fare_of, uncovered, misnumbered, unfiled}
use Rattle.fare_rules.specs.Shape.{crossed, mixed, unchained, unclosed}
use Rattle.fare_rules.specs.Direction.{is_back}
use Rattle.fare_rules.specs.UnitRules.{mistimed, misfitted, clashed}
use Rattle.fare_rules.specs.UnitPrice.{price}
use Rattle.fare_rules.specs.Rule.{number_of}

-- a fare is there and fails a test
abbrev pub fails : (FareRecord → Bool) → Option FareRecord → Bool
fails test None = false
fails test (Some fare) = not (test fare)

-- a part holds a surface sector
abbrev pub holds_gap : Itinerary → List Part → ℕ → Bool
holds_gap trip parts k = holds_surface trip (start_of trip parts k) (end_of parts k)

-- a part touches two equal cities
abbrev pub is_twisted : Itinerary → List Part → ℕ → Bool
is_twisted trip parts k = repeats_city trip (start_of trip parts k) (end_of parts k)

-- a part that holds no surface sector has a fare that fails a test
abbrev pub fails_in_air : Tariff → Itinerary → List Part → (FareRecord → Bool) → ℕ → Bool
fails_in_air tariff trip parts test k = not (holds_gap trip parts k) && fails test (fare_of tariff parts k)

-- the fare of a part does not run between its ends in the part's direction
abbrev pub is_mispaired : Tariff → Itinerary → List Part → ℕ → Bool
is_mispaired tariff trip parts k =
    fails_in_air tariff trip parts
    (runs_between trip (start_of trip parts k) (end_of parts k) (is_back tariff trip parts k)) k

-- the fare of a part has another indicator than the part
abbrev pub is_misrouted : Tariff → Itinerary → List Part → ℕ → Bool
is_misrouted tariff trip parts k =
    fails_in_air tariff trip parts (has_indicator tariff trip (start_of trip parts k) (end_of parts k)) k

-- the class of a part's fare is below a cabin
abbrev pub is_underclassed : Tariff → Itinerary → List Part → ℕ → Bool
is_underclassed tariff trip parts k =
    fails_in_air tariff trip parts (covers_cabins trip (start_of trip parts k) (end_of parts k)) k

-- the carrier of a part's fare is not `YY` and not each sector's
abbrev pub is_miscarried : Tariff → Itinerary → List Part → ℕ → Bool
is_miscarried tariff trip parts k =
    fails_in_air tariff trip parts (covers_carriers trip (start_of trip parts k) (end_of parts k)) k

-- a part has more interior stopovers than its rule allows
abbrev pub stops_too_often : Tariff → Itinerary → List Part → ℕ → Bool
stops_too_often tariff trip parts k =
    fails_in_air tariff trip parts (stops_hold tariff trip (start_of trip parts k) (end_of parts k)) k

-- a part has more interior transfers than its rule allows
abbrev pub transfers_too_often : Tariff → Itinerary → List Part → ℕ → Bool
transfers_too_often tariff trip parts k =
    fails_in_air tariff trip parts (transfers_hold tariff trip (start_of trip parts k) (end_of parts k)) k

-- the rule of a part asks for more days from the sale day
abbrev pub is_late : Tariff → Itinerary → List Part → ℕ → Bool
is_late tariff trip parts k = fails_in_air tariff trip parts (advance_holds tariff trip) k

-- the mileage of a part lets no fare be used
abbrev pub is_unmeasured : Tariff → Itinerary → List Part → ℕ → Bool
is_unmeasured tariff trip parts k =
    not (holds_gap trip parts k) && not (mileage_holds tariff trip (start_of trip parts k) (end_of parts k))

-- a part has a surcharge that its rule does not allow
abbrev pub is_excessive : Tariff → Itinerary → List Part → ℕ → Bool
is_excessive tariff trip parts k =
    fails_in_air tariff trip parts (excess_holds tariff trip (start_of trip parts k) (end_of parts k)) k

-- the season of a part's fare does not hold the day of the part's first sector
abbrev pub is_out_of_season : Tariff → Itinerary → List Part → ℕ → Bool
is_out_of_season tariff trip parts k = fails (in_season trip (start_of trip parts k)) (fare_of tariff parts k)

-- a rule of a number that is broken at a place
abbrev pub broken_at : ℕ → ℕ → Broken
broken_at rule place = record { rule = rule; place = place }

-- the place at which a rule of a number is broken, if any
abbrev pub at_rule : ℕ → Option ℕ → Option Broken
at_rule rule place = option_map (broken_at rule) place

-- a rule of parts is broken at the first part that fails it
abbrev pub at_part : List Part → ℕ → (ℕ → Bool) → Option Broken
at_part parts rule test = at_rule rule (find test (places parts))

-- the rules by their numbers, each with where it is broken
unfoldable pub breaks : Tariff → Itinerary → List Part → List (Option Broken)
breaks tariff trip parts =
    at_rule (number_of rule.Cover) (uncovered trip parts)
    ∷ at_rule (number_of rule.Numbering) (misnumbered parts)
    ∷ at_rule (number_of rule.Record) (unfiled tariff parts)
    ∷ at_rule (number_of rule.Crossing) (crossed parts)
    ∷ at_rule (number_of rule.Alone) (mixed tariff parts)
    ∷ at_rule (number_of rule.Chain) (unchained tariff trip parts)
    ∷ at_rule (number_of rule.Close) (unclosed tariff trip parts)
    ∷ at_part parts (number_of rule.Distinct) (is_twisted trip parts)
    ∷ at_part parts (number_of rule.Pair) (is_mispaired tariff trip parts)
    ∷ at_part parts (number_of rule.Indicator) (is_misrouted tariff trip parts)
    ∷ at_part parts (number_of rule.Cabin) (is_underclassed tariff trip parts)
    ∷ at_part parts (number_of rule.Carrier) (is_miscarried tariff trip parts)
    ∷ at_part parts (number_of rule.Stops) (stops_too_often tariff trip parts)
    ∷ at_part parts (number_of rule.Transfers) (transfers_too_often tariff trip parts)
    ∷ at_part parts (number_of rule.Advance) (is_late tariff trip parts)
    ∷ at_part parts (number_of rule.Mileage) (is_unmeasured tariff trip parts)
    ∷ at_part parts (number_of rule.Excess) (is_excessive tariff trip parts)
    ∷ at_rule (number_of rule.Stay) (mistimed tariff trip parts)
    ∷ at_rule (number_of rule.Combine) (misfitted tariff parts)
    ∷ at_rule (number_of rule.End) (clashed tariff parts)
    ∷ at_part parts (number_of rule.Surface) (holds_gap trip parts)
    ∷ at_part parts (number_of rule.Season) (is_out_of_season tariff trip parts)
    ∷ []

-- the first broken rule: the least number, at the least place
unfoldable pub first_broken : Tariff → Itinerary → List Part → Option Broken
first_broken tariff trip parts = first_given (breaks tariff trip parts)

-- a price, where nothing is broken
abbrev pub unless_broken : Option Broken → ℕ → Result ℕ Broken
unless_broken (Some found) price = Err found
unless_broken None price = Ok price

-- the price of a lawful construction, or the first broken rule
unfoldable pub lawful_price : Tariff → Itinerary → List Part → Result ℕ Broken
lawful_price tariff trip parts = unless_broken (first_broken tariff trip parts) (price tariff trip parts)

-- Lawful in words: Construction, Shape and Unit rules hold, and for each part its number names a fare and its component
-- amount is defined with the part's direction
pub record MeetsTheRules (tariff : Tariff) (trip : Itinerary) (parts : List Part) : Type 0 where
  pub cover : uncovered trip parts ≡ None
  pub numbering : misnumbered parts ≡ None
  pub filed : unfiled tariff parts ≡ None
  pub crossing : crossed parts ≡ None
  pub alone : mixed tariff parts ≡ None
  pub chain : unchained tariff trip parts ≡ None
  pub close : unclosed tariff trip parts ≡ None
  pub stay : mistimed tariff trip parts ≡ None
  pub combine : misfitted tariff parts ≡ None
  pub ends : clashed tariff parts ≡ None
  pub amounts : (k : ℕ) → 1 ≤ k → k ≤ length parts
      → is_some (component_amount tariff trip (start_of trip parts k) (end_of parts k) (part_at parts k).fare
      (is_back tariff trip parts k)) ≡ true
