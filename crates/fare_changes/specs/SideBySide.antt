-- What each item costs, which is there, or found memory wanting.
use Rattle.std.specs.Prelude.{◌≡◌, ◌<◌, ℕ, List, Option, IfSome, length, slice_index_or}
use Rattle.serde_json.specs.View.{view}
use Rattle.serde_json.specs.declared.value.Value.{Value}
use Rattle.fare_trip.specs.ItineraryText.{trip_of}
use Rattle.fare_tariff.specs.Tariff.{Tariff}
use Rattle.fare_changes.specs.declared.compared.Compared.{Compared}
use Rattle.fare_changes.specs.Compared.{IsCompared}

-- there is a place for what each item costs, and what stands there is what the item costs by itself
pub record AreAnswered (old new : Tariff) (values : List Value) (answers : List (Option Compared)) : Type 0 where
  pub count : length answers ≡ length values
  pub each : (i : ℕ) (value : Value) (answer : Option Compared) → i < length values →
      IfSome (slice_index_or answers i answer) (IsCompared old new (trip_of (view (slice_index_or values i value))))
