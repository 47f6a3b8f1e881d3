-- HomingRows: the numbers of homing at each point, by those of the points behind it.
use Rattle.std.specs.Prelude.{◌≡◌, ℕ, ◌+◌, ◌<◌, ◌≤◌, true, false, List, [], Option, Some}
use Rattle.fare_trip.specs.Itinerary.{Itinerary, count}
use Rattle.fare_tariff.specs.Tariff.{Tariff}
use Rattle.fare_rules.specs.Construction.{begin_after}
use Rattle.fare_component.specs.declared.table.entry.Entry.{Entry}
use Rattle.fare_component.specs.Table.{entries_of}
use Rattle.fare_legs.specs.declared.ceiling.Ceiling.{Ceiling}
use Rattle.fare_legs.specs.Barred.{unless_barred}
use Rattle.fare_legs.specs.Ceiling.{below_ceiling}
use Rattle.fare_legs.specs.Costs.{single_cost, first_cost, between_cost, back_cost, heads_to}
use Rattle.fare_homing.specs.Homing.{may_end_at}
use Rattle.fare_legs.specs.Costs.{IsUpTo, is_same_city}
use Rattle.fare_homing.specs.Homing.{homing_at, may_go_on}
use Rattle.fare_legs.specs.Least.{IsCost}
use Rattle.fare_legs.specs.Owed.{IsOwed}
use Rattle.fare_legs.specs.Pairs.{HasPair}
use Rattle.fare_legs.specs.Threes.{IsOneOfThree}

-- what a part from a point to another costs, by what it is in its unit
abbrev pub IsPart : Tariff → Itinerary → (Entry → Option ℕ) → ℕ → ℕ → ℕ → Type 0
IsPart tariff trip cost_of a b = IsCost cost_of (entries_of tariff trip a b)

-- what a part between from a point costs by where it ends, in a unit that closes at another point, where it isn't too
-- dear for a ceiling; its fare is then one of three in a unit
pub record IsBetween (tariff : Tariff) (trip : Itinerary) (ceiling : Option Ceiling) (a home b cost : ℕ) : Type 0 where
  pub part : IsPart tariff trip (below_ceiling tariff trip ceiling a home b (between_cost (heads_to tariff trip a b home)))
      a b cost
  pub third : IsOneOfThree tariff trip part.entry.fare

-- numbers are under what one unit costs that begins behind a point, by the point where it ends: a part alone in it; or
-- the unit's first and last part, which may pair, with all that is between them, from the city where the first ends;
-- unless the fares of these are barred
pub record AreWholes (tariff : Tariff) (trip : Itinerary) (barred : List ℕ) (begun jaw : ℕ → ℕ → ℕ → Option ℕ) (i : ℕ)
    (whole : ℕ → Option ℕ) : Type 0 where
  pub alone : (j cost : ℕ) → IsPart tariff trip (unless_barred tariff barred single_cost) (begin_after trip i) j cost
      → IsUpTo cost (whole j)
  pub first : (b j x y cost : ℕ) → may_end_at tariff trip (begin_after trip i) j ≡ true
      → IsPart tariff trip (unless_barred tariff barred first_cost) (begin_after trip i) b x → b < j
      → IsUpTo y (homing_at trip (begun b) (jaw b) (begin_after trip i) b j) → x + y ≤ cost
      → HasPair tariff trip barred (begin_after trip i) j cost → IsUpTo cost (whole j)

-- a number of one row with one of another is under a third, from a point to any between it and another
abbrev pub IsUnderBoth : (ℕ → Option ℕ) → (ℕ → ℕ → Option ℕ) → ℕ → (ℕ → Option ℕ) → Type 0
IsUnderBoth steps behind i row =
    (b j x y : ℕ) → i < b → b < j → IsUpTo x (steps b) → IsUpTo y (behind b j) → IsUpTo (x + y) (row j)

-- what the last part of a unit that stands in the city of a point costs behind another, by where it ends: it begins
-- there, or behind a gap in one country
pub record IsLast (tariff : Tariff) (trip : Itinerary) (stand i j cost : ℕ) : Type 0 where
  pub near : may_go_on tariff trip stand (begin_after trip i) ≡ true
  pub part : IsPart tariff trip back_cost (begin_after trip i) j cost

-- what the second of two parts is worth there: no less than it costs, nor, where no gap is before it, than what its
-- unit owes behind the first
pub record IsSecond (tariff : Tariff) (trip : Itinerary) (stand i j worth : ℕ) : Type 0 where
  pub within : (stand < j) × (j ≤ count trip)
  pub last : (x : ℕ) × IsLast tariff trip stand i j x × (x ≤ worth)
  pub owed : is_same_city trip stand (begin_after trip i) ≡ true → (y : ℕ) × IsOwed tariff trip stand j y × (y ≤ worth)

-- numbers are under what a part between costs that begins behind a point, by the point where its unit closes, with what
-- is behind that until the unit closes elsewhere than where the part ends
abbrev pub AreBetweens : Tariff → Itinerary → Option Ceiling → (ℕ → ℕ → Option ℕ) → ℕ → (ℕ → Option ℕ) → Type 0
AreBetweens tariff trip ceiling after i row =
    (b j x y : ℕ) → IsBetween tariff trip ceiling (begin_after trip i) j b x → b < j → is_same_city trip j b ≡ false
    → j ≤ count trip → IsUpTo y (after b j) → IsUpTo (x + y) (row j)

-- numbers are under what comes next behind a point of a unit that stands in the city of another, by the point where that
-- closes: what its last part is worth; or one between, from there, with what is behind that until the unit closes
-- elsewhere than where the part ends
pub record AreNext (tariff : Tariff) (trip : Itinerary) (ceiling : Option Ceiling) (worth : ℕ → ℕ → Type 0)
    (after : ℕ → ℕ → Option ℕ) (stand i : ℕ) (row : ℕ → Option ℕ) : Type 0 where
  pub last : (j x : ℕ) → worth j x → IsUpTo x (row j)
  pub between : (b j x y : ℕ) → is_same_city trip stand (begin_after trip i) ≡ true
      → IsBetween tariff trip ceiling (begin_after trip i) j b x → b < j → is_same_city trip j b ≡ false
      → j ≤ count trip
      → IsUpTo y (after b j) → IsUpTo (x + y) (row j)

-- numbers are under what is behind a point until a unit that stands in the city of another closes, by the point where
-- that is: what its last part is worth; one between, from there, with what is behind that until the unit closes
-- elsewhere than where the part ends; or one whole unit that comes before
pub record AreClosings (tariff : Tariff) (trip : Itinerary) (ceiling : Option Ceiling) (worth : ℕ → ℕ → Type 0)
    (after : ℕ → ℕ → Option ℕ) (whole : ℕ → Option ℕ) (stays : ℕ → ℕ → Option ℕ) (stand i : ℕ) (row : ℕ → Option ℕ) :
    Type 0 where
  pub last : (j x : ℕ) → worth j x → IsUpTo x (row j)
  pub between : (b j x y : ℕ) → is_same_city trip stand (begin_after trip i) ≡ true
      → IsBetween tariff trip ceiling (begin_after trip i) j b x → b < j → is_same_city trip j b ≡ false
      → j ≤ count trip
      → IsUpTo y (after b j) → IsUpTo (x + y) (row j)
  pub nested : IsUnderBoth whole stays i row

-- numbers are under what is behind a point until a unit that stands in the city of another ends as an open jaw, by the
-- point where that is: its last part, from there; or one whole unit that comes before
pub record AreJaws (tariff : Tariff) (trip : Itinerary) (whole : ℕ → Option ℕ) (stays : ℕ → ℕ → Option ℕ) (stand i : ℕ)
    (row : ℕ → Option ℕ) : Type 0 where
  pub last : (j x : ℕ) → is_same_city trip stand (begin_after trip i) ≡ true
      → IsPart tariff trip back_cost (begin_after trip i) j x → IsUpTo x (row j)
  pub nested : IsUnderBoth whole stays i row

-- numbers are under what is behind a point where no unit is open: one whole unit with what is then behind that
abbrev pub IsOnward : Itinerary → (ℕ → Option ℕ) → (ℕ → Option ℕ) → ℕ → Option ℕ → Type 0
IsOnward trip whole rests i rest =
    (b x y : ℕ) → i < b → b ≤ count trip → IsUpTo x (whole b) → IsUpTo y (rests b) → IsUpTo (x + y) rest

-- numbers are what the parts behind each point cost at least: `begun c i j` from i on until a unit that has one part and
-- stands in the city of c closes at j, `closing c i j` the same where it has more, `jaw c i j` until one with one part
-- ends there as an open jaw, `whole i j` where one unit begins behind i and ends at j, `rest i` up to the trip's end
-- where no unit is open
pub record AreHomings (tariff : Tariff) (trip : Itinerary) (ceiling : Option Ceiling)
    (begun closing jaw : ℕ → ℕ → ℕ → Option ℕ) (whole : ℕ → ℕ → Option ℕ) (rest : ℕ → Option ℕ) : Type 0 where
  pub wholes : (i : ℕ) → i < count trip → AreWholes tariff trip [] begun jaw i (whole i)
  pub begins : (c i : ℕ) → c ≤ i → i < count trip
      → AreClosings tariff trip ceiling (IsSecond tariff trip c i) (λ b. closing b b) (whole i) (begun c) c i
      (begun c i)
  pub closes : (c i : ℕ) → c ≤ i → i < count trip
      → AreClosings tariff trip ceiling (IsLast tariff trip c i) (λ b. closing b b) (whole i) (closing c) c i
      (closing c i)
  pub ends : (c i : ℕ) → c ≤ i → i < count trip → AreJaws tariff trip (whole i) (jaw c) c i (jaw c i)
  pub onward : (i : ℕ) → i < count trip → IsOnward trip (whole i) rest i (rest i)
  pub nothing : rest (count trip) ≡ Some 0

-- numbers are what the parts behind each point cost at least up to the trip's end where no unit is open, and some fares
-- are barred from units that begin there: `whole i j` one unit that begins behind i and ends at j, and `rest i` all
pub record AreRests (tariff : Tariff) (trip : Itinerary) (barred : List ℕ) (begun jaw : ℕ → ℕ → ℕ → Option ℕ)
    (whole : ℕ → ℕ → Option ℕ) (rest : ℕ → Option ℕ) : Type 0 where
  pub wholes : (i : ℕ) → i < count trip → AreWholes tariff trip barred begun jaw i (whole i)
  pub onward : (i : ℕ) → i < count trip → IsOnward trip (whole i) rest i (rest i)
  pub nothing : rest (count trip) ≡ Some 0
