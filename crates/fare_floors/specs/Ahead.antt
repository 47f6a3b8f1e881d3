-- Ahead: what is behind the part that comes next after some first parts, by what that part is.
use Rattle.std.specs.Prelude.{◌≡◌, ℕ, ◌+◌, ◌≤◌, Bool, true, false, not, ◌&&◌, List, ◌∷◌, ◌++◌, length, Option}
use Rattle.std.specs.Prelude.{option_map}
use Rattle.fare_trip.specs.Itinerary.{Itinerary, count}
use Rattle.fare_tariff.specs.Tariff.{Tariff}
use Rattle.fare_rules.specs.declared.part.Part.{Part}
use Rattle.fare_rules.specs.Best.{IsLawful}
use Rattle.fare_rules.specs.Construction.{end_of, greatest_unit, places}
use Rattle.fare_rules.specs.Shape.{is_ow}
use Rattle.fare_component.specs.Table.{Pricing}
use Rattle.fare_bounds.specs.Covers.{rest_at}
use Rattle.fare_floors.specs.declared.ahead.Ahead.{Ahead}
use Rattle.fare_homing.specs.declared.homing.Homing.{Homing}
use Rattle.fare_floors.specs.Barring.{left_of}
use Rattle.fare_floors.specs.Costs.{part_least, AreUnitFloors}
use Rattle.fare_floors.specs.Floors.{IsMadeWith}
use Rattle.fare_legs.specs.Ceiling.{IsWithin}
use Rattle.fare_legs.specs.Costs.{IsUpTo}
use Rattle.fare_homing.specs.Homing.{may_end_at}
use Rattle.fare_homing.specs.Rows.{begun_from, cell, closing_from, jaw_from, AreHomingsOf}
use Rattle.fare_floors.specs.Stack.{AreHomes, IsOver, IsOverOpen}

-- a number is behind the part that comes next after some first parts: it is there, and with what the first parts cost
-- at least and what that part does it is no more than the price
abbrev pub IsBehindNext : Pricing → List Part → Part → List Part → ℕ → ℕ → Option ℕ → Type 0
IsBehindNext table first part rest price spent behind =
    IsUpTo price (option_map (λ more. spent
    + part_least table.edition table.trip (first ++ part ∷ rest) (length first + 1) + more) behind)

-- what is known of the next part after some first parts: in every lawful construction that begins with them, and is
-- under the ceiling, what is behind it, as a one way fare by the point where it ends, and as a half round trip by its
-- unit and that point; and of the first parts what each of their units costs at least
pub record AreAhead (table : Pricing) (first : List Part) (ahead : Ahead) : Type 0 where
  pub floors : AreUnitFloors table.edition table.trip first ahead.floors
  pub alone : (part : Part) (rest : List Part) (price : ℕ)
      → IsLawful table.edition table.trip (first ++ part ∷ rest) price → IsWithin ahead.ceiling price
      → is_ow table.edition (first ++ part ∷ rest) (length first + 1) ≡ true
      → IsBehindNext table first part rest price ahead.spent (rest_at ahead.alone part.end)
  pub half : (part : Part) (rest : List Part) (price : ℕ)
      → IsLawful table.edition table.trip (first ++ part ∷ rest) price → IsWithin ahead.ceiling price
      → is_ow table.edition (first ++ part ∷ rest) (length first + 1) ≡ false
      → IsBehindNext table first part rest price ahead.spent (cell ahead.half part.unit part.end)

-- numbers are behind a half round trip of a unit that comes next after some first parts, by the point where it ends:
-- no more than what is over the units that go on behind it
abbrev pub AreBehindHalf : Pricing → Homing → List Part → ℕ → List (Option ℕ) → Type 0
AreBehindHalf table homing first unit numbers =
    (part : Part) (rest : List Part) (price cost : ℕ)
    → IsLawful table.edition table.trip (first ++ part ∷ rest) price → IsWithin homing.ceiling price → part.unit ≡ unit
    → is_ow table.edition (first ++ part ∷ rest) (length first + 1) ≡ false
    → IsOver table.edition table.trip (begun_from homing) (closing_from homing) (jaw_from homing)
    (rest_at (left_of table.edition homing first)) (first ++ part ∷ rest) (length first + 1)
    (greatest_unit (first ++ part ∷ rest) (places (first ++ part ∷ rest)))
    (end_of (first ++ part ∷ rest) (length first + 1)) cost → IsUpTo cost (rest_at numbers part.end)

-- a unit that begins at a point must go on behind a half round trip that ends at another: this is its first part, or
-- ends where the unit may not
abbrev pub must_go_from : Tariff → Itinerary → ℕ → Bool → ℕ → Bool
must_go_from tariff trip start begun i = not (begun && may_end_at tariff trip start i)

-- a row is what is over a unit behind a half round trip of it that ends at each point, where the unit then stands, by
-- what is there without it
abbrev pub IsHalfRow : Pricing → Homing → ℕ → ℕ → Bool → List (Option ℕ) → List (Option ℕ) → Type 0
IsHalfRow table homing from start begun below row =
    (homes : List (Option ℕ)) × AreHomes table.edition table.trip from start begun below homes
    × ((i : ℕ) → from ≤ i → i ≤ count table.trip
    → IsOverOpen table.trip homing (i + 1) begun i start (must_go_from table.edition table.trip start begun i) i homes
    (rest_at below i) (rest_at row i))

-- what is known of where a search stands: what is behind the points of the trip, that the first parts are of the trip,
-- and what is ahead of them
pub record IsStage (table : Pricing) (homing : Homing) (front : List Part) (ahead : Ahead) : Type 0 where
  pub homings : AreHomingsOf table.edition table.trip homing
  pub made : IsMadeWith table front
  pub next : AreAhead table front ahead
