-- Rows: the numbers of homing by two points of a trip.
use Rattle.std.specs.Prelude.{ℕ, List, [], Option, None, IfSome, slice_index_or}
use Rattle.fare_trip.specs.Itinerary.{Itinerary}
use Rattle.fare_tariff.specs.Tariff.{Tariff}
use Rattle.fare_bounds.specs.Covers.{rest_at}
use Rattle.fare_homing.specs.declared.homing.Homing.{Homing}
use Rattle.fare_homing.specs.declared.homing.Standing.{Standing}
use Rattle.fare_legs.specs.Ceiling.{IsCeiling}
use Rattle.fare_legs.specs.Countries.{AreCountries}
use Rattle.fare_homing.specs.HomingRows.{AreHomings}
use Rattle.fare_legs.specs.Lonely.{AreLonely}
use Rattle.fare_homing.specs.Onward.{AreOnwards}
use Rattle.fare_homing.specs.Units.{IsBar, IsUnitCeiling}
use Rattle.fare_legs.specs.Threes.{AreOfTwo}

-- a number by its two points; none where there is no such row or place
abbrev pub cell : List (List (Option ℕ)) → ℕ → ℕ → Option ℕ
cell rows i j = slice_index_or (slice_index_or rows i []) j None

-- no numbers
abbrev pub no_standing : Standing
no_standing = record { begun = []; closing = []; jaw = [] }

-- what is behind a point until a unit that stands in the city of another closes at a third, where it has one part
abbrev pub begun_from : Homing → ℕ → ℕ → ℕ → Option ℕ
begun_from homing c i j = cell (slice_index_or homing.standing c no_standing).begun i j

-- the same where it has more
abbrev pub closing_from : Homing → ℕ → ℕ → ℕ → Option ℕ
closing_from homing c i j = cell (slice_index_or homing.standing c no_standing).closing i j

-- the same until it ends there as an open jaw, where it has one part
abbrev pub jaw_from : Homing → ℕ → ℕ → ℕ → Option ℕ
jaw_from homing c i j = cell (slice_index_or homing.standing c no_standing).jaw i j

-- the numbers of a trip are no more than what its parts cost where each unit of three parts or more is under a ceiling,
-- which is so in what is under the ceiling of all, and these ceilings and the bar are those of the trip; its countries
-- are those of its points, its lonely fares have rules that combine with no fare of their own, of none of its fares of
-- two may one that has its rule be one of three in a unit, and its numbers by what is barred are no more either
pub record AreHomingsOf (tariff : Tariff) (trip : Itinerary) (homing : Homing) : Type 0 where
  pub known : AreHomings tariff trip homing.unit_ceiling (begun_from homing) (closing_from homing) (jaw_from homing)
      (cell homing.whole) (rest_at homing.rest)
  pub countries : AreCountries tariff trip homing.countries
  pub lonely : AreLonely tariff homing.lonely
  pub onwards : AreOnwards tariff trip (begun_from homing) (jaw_from homing) homing.onwards
  pub ceiling : IsCeiling tariff trip homing.ceiling
  pub bar : IfSome homing.bar (IsBar tariff trip)
  pub unit_ceiling : IsUnitCeiling tariff trip homing.ceiling homing.unit_ceiling
  pub of_two : AreOfTwo tariff trip homing.of_two
