-- What a fare's use for a span asks beside its mileage, and the bounds of an amount.
use Rattle.std.specs.Prelude.{ℕ, ◌<◌, ◌≤◌, Bool, not, ◌&&◌}
use Rattle.fare_trip.specs.Itinerary.{Itinerary}
use Rattle.fare_tariff.specs.Record.{FareRecord}
use Rattle.fare_tariff.specs.Tariff.{Tariff}
use Rattle.fare_rules.specs.declared.amount.Amount.{Amount}
use Rattle.fare_codes.specs.declared.nuc.TheConstants.{FARE_LIMIT}
use Rattle.fare_codes.specs.declared.limits.TheConstants.{MOST_SURCHARGE}
use Rattle.fare_rules.specs.declared.limits.TheConstants.{MOST_AMOUNT}
use Rattle.fare_rules.specs.Span.{holds_surface}
use Rattle.fare_rules.specs.Terms.{stops_hold, transfers_hold, advance_holds}
use Rattle.fare_rules.specs.ComponentAmount.{repeats_city, runs_between, may_be_priced, has_indicator, covers_cabins}
use Rattle.fare_rules.specs.ComponentAmount.{covers_carriers, in_season}

-- a fare is for a span: the span can be a component, and the fare runs between its ends, has its indicator and covers
-- its cabins, its carriers and its day
unfoldable pub is_for_span : Tariff → Itinerary → ℕ → ℕ → Bool → FareRecord → Bool
is_for_span tariff trip a b back fare =
    not (holds_surface trip a b) && not (repeats_city trip a b)
    && runs_between trip a b back fare && may_be_priced back fare
    && has_indicator tariff trip a b fare && covers_cabins trip a b fare && covers_carriers trip a b fare
    && in_season trip a fare

-- a fare may be used for a span, whatever its mileage: it is for the span, and the terms on stopovers, transfers and
-- advance days hold
unfoldable pub is_usable : Tariff → Itinerary → ℕ → ℕ → Bool → FareRecord → Bool
is_usable tariff trip a b back fare =
    is_for_span tariff trip a b back fare
    && stops_hold tariff trip a b fare && transfers_hold tariff trip a b fare && advance_holds tariff trip fare

-- the base is one of a fare, the surcharge is at most a quarter of it, and the amount isn't below the base
pub record IsAmount (found : Amount) : Type 0 where
  pub base : found.base < FARE_LIMIT
  pub surcharge : found.surcharge ≤ MOST_SURCHARGE
  pub not_below : found.base ≤ found.amount
  pub amount : found.amount ≤ MOST_AMOUNT
