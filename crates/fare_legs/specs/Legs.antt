-- Legs: what the parts from a point cost at least, by what a part is in its unit.
use Rattle.std.specs.Prelude.{ℕ, ◌<◌, List, [], Option, slice_index_or}
use Rattle.fare_trip.specs.Itinerary.{Itinerary, count}
use Rattle.fare_tariff.specs.Tariff.{Tariff}
use Rattle.fare_rules.specs.Construction.{begin_after}
use Rattle.fare_component.specs.declared.table.entry.Entry.{Entry}
use Rattle.fare_component.specs.Table.{entries_of}
use Rattle.fare_bounds.specs.Covers.{rest_at}
use Rattle.fare_legs.specs.declared.legs.Least.{Least}
use Rattle.fare_legs.specs.declared.legs.LegRows.{LegRows}
use Rattle.fare_legs.specs.Barred.{unless_barred}
use Rattle.fare_legs.specs.Costs.{single_cost, first_cost, back_cost}
use Rattle.fare_legs.specs.Least.{IsUnderEach}

-- numbers are no more than what a part costs with some entries, by what it is in its unit, unless its fare is barred
pub record AreLeastOf (tariff : Tariff) (barred : List ℕ) (entries : List Entry) (least : Least) : Type 0 where
  pub alone : IsUnderEach (unless_barred tariff barred single_cost) entries least.alone
  pub first : IsUnderEach (unless_barred tariff barred first_cost) entries least.first
  pub last : IsUnderEach (unless_barred tariff barred back_cost) entries least.last

-- the numbers of a row are no more than what the parts from a point cost, by the points where these end
abbrev pub AreLegs : Tariff → Itinerary → (Entry → Option ℕ) → ℕ → List (Option ℕ) → Type 0
AreLegs tariff trip cost_of a row = (b : ℕ) → IsUnderEach cost_of (entries_of tariff trip a b) (rest_at row b)

-- rows are no more than what the parts from a point cost, by what a part is in its unit, unless its fare is barred
pub record AreLegsOf (tariff : Tariff) (trip : Itinerary) (barred : List ℕ) (a : ℕ) (legs : LegRows) : Type 0 where
  pub alone : AreLegs tariff trip (unless_barred tariff barred single_cost) a legs.alone
  pub first : AreLegs tariff trip (unless_barred tariff barred first_cost) a legs.first
  pub last : AreLegs tariff trip (unless_barred tariff barred back_cost) a legs.last

-- no numbers
abbrev pub no_legs : LegRows
no_legs = record { alone = []; first = []; last = [] }

-- rows are no more than what the parts behind each point cost, unless their fares are barred
abbrev pub AreLegsBehind : Tariff → Itinerary → List ℕ → List LegRows → Type 0
AreLegsBehind tariff trip barred rows =
    (i : ℕ) → i < count trip → AreLegsOf tariff trip barred (begin_after trip i) (slice_index_or rows i no_legs)
