-- The rules that ask one test of each part, or of each unit.
use Rattle.std.specs.Prelude.{ℕ, Bool, List, Option, not, ◌&&◌}
use Rattle.fare_trip.specs.Itinerary.{Itinerary}
use Rattle.fare_tariff.specs.Record.{FareRecord}
use Rattle.fare_tariff.specs.Tariff.{Tariff}
use Rattle.fare_rules.specs.declared.part.Part.{Part}
use Rattle.fare_rules.specs.Span.{holds_surface}
use Rattle.fare_rules.specs.Terms.{stops_hold, transfers_hold, advance_holds}
use Rattle.fare_rules.specs.ComponentAmount.{repeats_city, has_indicator, covers_cabins, covers_carriers, in_season}
use Rattle.fare_rules.specs.ComponentAmount.{mileage_holds, excess_holds}
use Rattle.fare_rules.specs.Construction.{start_of, end_of, fare_of}
use Rattle.fare_rules.specs.Lawful.{fails}
use Rattle.fare_rules.specs.Shape.{is_mixed, is_unchained, is_unclosed}
use Rattle.fare_rules.specs.UnitRules.{is_mistimed, is_misfitted}
use Rattle.fare_lawful.specs.declared.rules.part_rules.FareRule.{FareRule}
use Rattle.fare_lawful.specs.declared.rules.part_rules.FareRule.TheVariants.{Indicator, Cabin, Carrier, Stops, Transfers}
use Rattle.fare_lawful.specs.declared.rules.part_rules.FareRule.TheVariants.{Advance, Excess}
use Rattle.fare_lawful.specs.declared.rules.part_rules.PartRule.{PartRule}
use Rattle.fare_lawful.specs.declared.rules.part_rules.PartRule.TheVariants.{Distinct, Fare, Mileage, Surface, Season}
use Rattle.fare_lawful.specs.declared.rules.unit_rules.UnitRule.{UnitRule}
use Rattle.fare_lawful.specs.declared.rules.unit_rules.UnitRule.TheVariants.{Alone, Chain, Close, Stay, Combine}

-- what a rule asks of the fare of a span
abbrev pub fare_passes : Tariff → Itinerary → ℕ → ℕ → FareRecord → FareRule → Bool
fare_passes tariff trip a b fare Indicator = has_indicator tariff trip a b fare
fare_passes tariff trip a b fare Cabin = covers_cabins trip a b fare
fare_passes tariff trip a b fare Carrier = covers_carriers trip a b fare
fare_passes tariff trip a b fare Stops = stops_hold tariff trip a b fare
fare_passes tariff trip a b fare Transfers = transfers_hold tariff trip a b fare
fare_passes tariff trip a b fare Advance = advance_holds tariff trip fare
fare_passes tariff trip a b fare Excess = excess_holds tariff trip a b fare

-- the fare of a span is there and fails a rule
abbrev pub fare_fails : Tariff → Itinerary → ℕ → ℕ → Option FareRecord → FareRule → Bool
fare_fails tariff trip a b fare rule = fails (λ filed. fare_passes tariff trip a b filed rule) fare

-- a span and its fare break a rule
abbrev pub span_breaks : Tariff → Itinerary → ℕ → ℕ → Option FareRecord → PartRule → Bool
span_breaks tariff trip a b fare Distinct = repeats_city trip a b
span_breaks tariff trip a b fare (Fare rule) = not (holds_surface trip a b) && fare_fails tariff trip a b fare rule
span_breaks tariff trip a b fare Mileage = not (holds_surface trip a b) && not (mileage_holds tariff trip a b)
span_breaks tariff trip a b fare Surface = holds_surface trip a b
span_breaks tariff trip a b fare Season = fails (in_season trip a) fare

-- a part breaks a rule of parts
abbrev pub part_breaks : Tariff → Itinerary → List Part → PartRule → ℕ → Bool
part_breaks tariff trip parts rule k =
    span_breaks tariff trip (start_of trip parts k) (end_of parts k) (fare_of tariff parts k) rule

-- a unit breaks a rule of units
abbrev pub unit_breaks : Tariff → Itinerary → List Part → UnitRule → ℕ → Bool
unit_breaks tariff trip parts Alone = is_mixed tariff parts
unit_breaks tariff trip parts Chain = is_unchained tariff trip parts
unit_breaks tariff trip parts Close = is_unclosed tariff trip parts
unit_breaks tariff trip parts Stay = is_mistimed tariff trip parts
unit_breaks tariff trip parts Combine = is_misfitted tariff parts
