-- What is computed once for a span, for all fares that are tried there.
use Rattle.std.specs.Prelude.{◌≡◌, ℕ, ◌<◌, ◌≤◌, Bool, true, false, not, ◌&&◌, Option, Some, None, length, nat_le}
use Rattle.std.specs.Prelude.{bytes_eq}
use Rattle.std.specs.List.{list_all}
use Rattle.fare_codes.specs.declared.cabin.Cabin.{Cabin}
use Rattle.fare_codes.specs.declared.carrier.Carrier.{Carrier}
use Rattle.fare_trip.specs.Itinerary.{Itinerary, count}
use Rattle.fare_tariff.specs.Tariff.{Tariff}
use Rattle.fare_codes.specs.declared.limits.TheConstants.{MOST_SURCHARGE}
use Rattle.fare_rules.specs.Indicator.{indicator}
use Rattle.fare_rules.specs.Span.{holds_surface, sectors, stopovers, transfers}
use Rattle.fare_rules.specs.ComponentAmount.{covers_cabin, is_carried_by, rank, repeats_city, span_surcharge}
use Rattle.fare_conditions.specs.declared.span.Span.{Span}

-- the one carrier of some sectors, where they have one, is a carrier
abbrev pub is_carrier : Option Carrier → Carrier → Bool
is_carrier None carrier = false
is_carrier (Some one) carrier = bytes_eq one carrier

-- a class covers the cabins of a span where its rank is at least this
abbrev pub IsGreatestRank : Itinerary → ℕ → ℕ → ℕ → Type 0
IsGreatestRank trip a b greatest =
    (class : Cabin) → list_all (covers_cabin trip class) (sectors a b) ≡ nat_le greatest (rank class)

-- all sectors of a span are by a carrier where it is this
abbrev pub IsOneCarrier : Itinerary → ℕ → ℕ → Option Carrier → Type 0
IsOneCarrier trip a b one =
    (carrier : Carrier) → list_all (is_carried_by trip carrier) (sectors a b) ≡ is_carrier one carrier

-- a span of a trip can be a component, its mileage lets fares be used, and it has this indicator, surcharge, number of
-- stopovers and of transfers, greatest rank of a cabin and carrier
pub record IsSpan (tariff : Tariff) (trip : Itinerary) (span : Span) : Type 0 where
  pub rises : span.a < span.b
  pub within : span.b ≤ count trip
  pub plain : (not (holds_surface trip span.a span.b) && not (repeats_city trip span.a span.b)) ≡ true
  pub indicator : span.ind ≡ indicator tariff trip span.a span.b
  pub measured : span_surcharge tariff trip span.a span.b ≡ Some span.step
  pub step : span.step ≤ MOST_SURCHARGE
  pub stops : span.stops ≡ length (stopovers trip span.a span.b)
  pub transfers : span.transfers ≡ length (transfers trip span.a span.b)
  pub rank : IsGreatestRank trip span.a span.b span.rank
  pub carrier : IsOneCarrier trip span.a span.b span.carrier
