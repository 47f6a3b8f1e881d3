-- The references of a unit's parts, with the end of one part left out or of none.
use Rattle.std.specs.Prelude.{ℕ, Bool, false, List, Option, Some, None, ◌==◌, if◌then◌else◌}
use Rattle.fare_codes.specs.declared.nuc.Nuc.{Nuc}
use Rattle.fare_trip.specs.Itinerary.{Itinerary}
use Rattle.fare_tariff.specs.Tariff.{Tariff}
use Rattle.fare_rules.specs.declared.part.Part.{Part}
use Rattle.fare_rules.specs.Numbers.{greatest_of}
use Rattle.fare_rules.specs.Circle.{circle_reference, part_stopovers, part_points}

-- a part is the one whose end is left out, where there is one
abbrev pub is_left_out : Option ℕ → ℕ → Bool
is_left_out None k = false
is_left_out (Some one) k = k == one

-- the points of a part to which references are looked for: its interior stopovers, and its end but where that is left
-- out
abbrev pub points_without : Itinerary → List Part → Option ℕ → ℕ → List ℕ
points_without trip parts left_out k =
    if is_left_out left_out k then part_stopovers trip parts k else part_points trip parts k

-- the greatest reference to one of them
abbrev pub greatest_without : Tariff → Itinerary → List Part → List ℕ → Option ℕ → ℕ → Option Nuc
greatest_without tariff trip parts own left_out k =
    greatest_of (circle_reference tariff trip parts own k) (points_without trip parts left_out k)
