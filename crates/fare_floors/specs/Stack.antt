-- Stack: units that go on behind some first parts come home one inside the other, the one that began last first.
use Rattle.std.specs.Prelude.{◌≡◌, ℕ, zero, suc, ◌+◌, ◌≤◌, Bool, true, false, List, ◌++◌, length, Option, Some}
use Rattle.std.specs.Prelude.{[], nat_le, nat_lt, ◌&&◌, if◌then◌else◌, filter, slice_index_or, sum_by}
use Rattle.fare_trip.specs.Itinerary.{Itinerary, count}
use Rattle.fare_tariff.specs.Tariff.{Tariff}
use Rattle.fare_rules.specs.declared.part.Part.{Part}
use Rattle.fare_rules.specs.Best.{IsLawful}
use Rattle.fare_rules.specs.Numbers.{numbers}
use Rattle.fare_rules.specs.Construction.{own, is_own, first_of, last_of, start_of, end_of, greatest_unit, places}
use Rattle.fare_component.specs.Table.{Pricing}
use Rattle.fare_bounds.specs.Covers.{rest_at}
use Rattle.fare_homing.specs.declared.homing.Homing.{Homing}
use Rattle.fare_floors.specs.declared.stacking.Open.{Open}
use Rattle.fare_floors.specs.declared.stack.Stack.{Stack}
use Rattle.fare_floors.specs.Barring.{left_of}
use Rattle.fare_floors.specs.Costs.{true_cost, units_floor, AreUnitFloors}
use Rattle.fare_floors.specs.Ending.{needs_more}
use Rattle.fare_floors.specs.Floors.{IsFloorAnswer}
use Rattle.fare_legs.specs.Ceiling.{IsWithin}
use Rattle.fare_legs.specs.Costs.{IsUpTo, is_same_city}
use Rattle.fare_homing.specs.Homing.{closing_by, may_end_at, homing_at}
use Rattle.fare_homing.specs.Rows.{begun_from, closing_from, jaw_from}

-- a unit goes on behind a place: its first part stands there or before, and its last one behind
abbrev pub goes_on : List Part → ℕ → ℕ → Bool
goes_on parts k unit = nat_le (first_of (own parts unit)) k && nat_lt k (last_of (own parts unit))

-- the places of a unit up to a place
abbrev pub own_to : List Part → ℕ → ℕ → List ℕ
own_to parts k unit = filter (is_own parts unit) (numbers 1 (k + 1))

-- a unit stands at a place where the last of its parts up to there ended
abbrev pub stand_of : List Part → ℕ → ℕ → ℕ
stand_of parts k unit = end_of parts (last_of (own_to parts k unit))

-- a unit has more than one part up to a place
abbrev pub has_more : List Part → ℕ → ℕ → Bool
has_more parts k unit = nat_lt 1 (length (own_to parts k unit))

-- the places of a unit behind a place
abbrev pub own_from : List Part → ℕ → ℕ → List ℕ
own_from parts k unit = filter (is_own parts unit) (numbers (k + 1) (length parts + 1))

-- the last part of a unit begins at a point or behind it, and it, and all its parts behind a place, cost no more than a
-- number
pub record LastsBy (tariff : Tariff) (trip : Itinerary) (parts : List Part) (k unit i cost : ℕ) : Type 0 where
  pub begins : i ≤ start_of trip parts (last_of (own parts unit))
  pub costs : true_cost tariff trip parts (last_of (own parts unit)) ≤ cost
  pub all : sum_by (true_cost tariff trip parts) (own_from parts k unit) ≤ cost

-- a cost is over the units, up to a number, that go on behind a place: from a point on, each comes home where it does
-- from where it stands, the greatest number first, and behind that there is what is behind where no unit is open
abbrev pub IsOver : Tariff → Itinerary → (ℕ → ℕ → ℕ → Option ℕ) → (ℕ → ℕ → ℕ → Option ℕ) → (ℕ → ℕ → ℕ → Option ℕ)
    → (ℕ → Option ℕ) → List Part → ℕ → ℕ → ℕ → ℕ → Type 0
IsOver tariff trip begun closing jaw left parts k zero i cost = IsUpTo cost (left i)
IsOver tariff trip begun closing jaw left parts k (suc u) i cost =
    (goes_on parts k (suc u) ≡ true → (x : ℕ) × (y : ℕ) × (x + y ≤ cost)
    × IsUpTo x (homing_at trip (closing_by (has_more parts k (suc u)) begun closing (stand_of parts k (suc u)))
    (jaw (stand_of parts k (suc u))) (start_of trip parts (first_of (own parts (suc u)))) i
    (end_of parts (last_of (own parts (suc u)))))
    × IsOver tariff trip begun closing jaw left parts k u (end_of parts (last_of (own parts (suc u)))) y
    × LastsBy tariff trip parts k (suc u) i x)
    × (goes_on parts k (suc u) ≡ false → IsOver tariff trip begun closing jaw left parts k u i cost)

-- numbers are under what is behind each point from the end of some first parts on, over the units up to a number, in
-- every construction that begins with the parts and is under the ceiling
abbrev pub AreOver : Pricing → Homing → List Part → ℕ → List (Option ℕ) → Type 0
AreOver table homing first unit numbers =
    (rest : List Part) (price i cost : ℕ) → IsLawful table.edition table.trip (first ++ rest) price
    → IsWithin homing.ceiling price → end_of first (length first) ≤ i → i ≤ count table.trip
    → IsOver table.edition table.trip (begun_from homing) (closing_from homing) (jaw_from homing)
    (rest_at (left_of table.edition homing first)) (first ++ rest) (length first) unit i cost
    → IsUpTo cost (rest_at numbers i)

-- a unit that begins at a point may come home at another: in the same city, or, where it has one part so far, in its
-- country
abbrev pub may_come_to : Tariff → Itinerary → ℕ → Bool → ℕ → Bool
may_come_to tariff trip start closes home =
    if closes then is_same_city trip start home else may_end_at tariff trip start home

-- numbers are those behind each point from one on where a unit may come home
abbrev pub AreHomes : Tariff → Itinerary → ℕ → ℕ → Bool → List (Option ℕ) → List (Option ℕ) → Type 0
AreHomes tariff trip from start closes behind homes =
    (home : ℕ) → from ≤ home → home ≤ count trip → may_come_to tariff trip start closes home ≡ true
    → rest_at homes home ≡ rest_at behind home

-- a number is under the sum of two others, where there are both
abbrev pub IsUnderSum : Option ℕ → Option ℕ → Option ℕ → Type 0
IsUnderSum a b least = (x y : ℕ) → a ≡ Some x → b ≡ Some y → IsUpTo (x + y) least

-- a number is under what is behind a point until a unit that stands at another comes home, at any point from one on,
-- with what is behind that; the unit has one part, or more where it must close
abbrev pub IsUntilHome : Itinerary → Homing → ℕ → Bool → ℕ → ℕ → ℕ → List (Option ℕ) → Option ℕ → Type 0
IsUntilHome trip homing from closes stand start i homes least =
    (home : ℕ) → from ≤ home → home ≤ count trip
    → IsUnderSum (homing_at trip (closing_by closes (begun_from homing) (closing_from homing) stand)
    (jaw_from homing stand) start i home) (rest_at homes home) least

-- a number is under what is behind a point over an open unit: until it comes home; or, where the unit need not go on,
-- what was there without it
pub record IsOverOpen (trip : Itinerary) (homing : Homing) (from : ℕ) (closes : Bool) (stand start : ℕ) (must : Bool)
    (i : ℕ) (homes : List (Option ℕ)) (behind least : Option ℕ) : Type 0 where
  pub home : IsUntilHome trip homing from closes stand start i homes least
  pub whole : must ≡ false → (cost : ℕ) → IsUpTo cost behind → IsUpTo cost least

-- what is known of an open unit of some parts: where it begins, where it stands, whether it has two parts or more, and
-- whether it must have more
pub record IsOpenUnit (table : Pricing) (parts : List Part) (unit : ℕ) (opened : Open) : Type 0 where
  pub start : opened.start ≡ start_of table.trip parts (first_of (own parts unit))
  pub within : opened.start ≤ count table.trip
  pub stands : opened.stands ≡ end_of parts (last_of (own parts unit))
  pub closes : opened.closes ≡ nat_lt 1 (length (own parts unit))
  pub must : opened.must ≡ needs_more table.edition table.trip parts (own parts unit)

-- numbers are under what is behind each point from one on over an open unit, by those that are there without it
abbrev pub AreOverOpen : Pricing → Homing → ℕ → Open → List (Option ℕ) → List (Option ℕ) → Type 0
AreOverOpen table homing from opened behind row =
    (homes : List (Option ℕ)) × AreHomes table.edition table.trip from opened.start opened.closes behind homes
    × ((i : ℕ) → from ≤ i → i ≤ count table.trip
    → IsOverOpen table.trip homing from opened.closes opened.stands opened.start opened.must i homes (rest_at behind i)
    (rest_at row i))

-- rows are over the units of some first parts, by the number up to which they are counted
abbrev pub AreOverUnits : Pricing → Homing → List Part → List (List (Option ℕ)) → Type 0
AreOverUnits table homing front rows =
    (unit : ℕ) → unit ≤ greatest_unit front (places front)
    → AreOver table homing front unit (slice_index_or rows unit [])

-- what is known of some first parts by their units: what each costs at least, and no more than all do, what is behind
-- each point over the units up to each number, and a floor
pub record IsStack (table : Pricing) (homing : Homing) (front : List Part) (stack : Stack) : Type 0 where
  pub floors : AreUnitFloors table.edition table.trip front stack.floors
  pub spent : stack.spent ≤ units_floor table.edition table.trip front
  pub over : AreOverUnits table homing front stack.over
  pub floor : IsFloorAnswer table.edition table.trip front stack.floor
