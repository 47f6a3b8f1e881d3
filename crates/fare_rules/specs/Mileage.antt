-- Mileage: what the miles of a span ask of its fare.
use Rattle.std.specs.Prelude.{ℕ, ◌+◌, ◌-◌, ◌*◌, Bool, List, [], ◌∷◌, Option, Some, None, zero, suc, find, unwrap_or}
use Rattle.std.specs.Prelude.{is_none, sum_by, nat_le, ◌==◌, if◌then◌else◌}
use Rattle.fare_codes.specs.declared.indicator.Indicator.{Indicator}
use Rattle.fare_trip.specs.Itinerary.{Itinerary, point}
use Rattle.fare_tariff.specs.Tariff.{Tariff}
use Rattle.fare_tariff.specs.Lookup.{tpm, mpm, allowance}
use Rattle.fare_rules.specs.declared.miles.Mileage.{Mileage}
use Rattle.fare_rules.specs.declared.miles.Mileage.TheVariants.{Direct, Within, Excess, NoTpm, NoMpm, Over}
use Rattle.fare_rules.specs.declared.miles.Miles.{Miles}
use Rattle.fare_rules.specs.Span.{sectors, interior_cities}

-- the steps of the mileage surcharge, in hundredths of the fare
abbrev pub surcharge_steps : List ℕ
surcharge_steps = 0 ∷ 5 ∷ 10 ∷ 15 ∷ 20 ∷ 25 ∷ []

-- a step covers some miles above the permitted ones
abbrev pub is_covered_by : ℕ → ℕ → ℕ → Bool
is_covered_by net mpm step = nat_le (100 * net) (mpm * (100 + step))

-- the surcharge for miles: the least step that covers them
unfoldable pub surcharge : ℕ → ℕ → Option ℕ
surcharge net mpm = find (is_covered_by net mpm) surcharge_steps

-- the ticketed point mileage of a sector
abbrev pub sector_miles : Tariff → Itinerary → ℕ → Option ℕ
sector_miles tariff trip number = tpm tariff (point trip (number - 1)) (point trip number)

-- a sector has no ticketed point mileage
abbrev pub has_no_tpm : Tariff → Itinerary → ℕ → Bool
has_no_tpm tariff trip number = is_none (sector_miles tariff trip number)

-- the ticketed point mileage of a sector, 0 where it has none
abbrev pub miles_of_sector : Tariff → Itinerary → ℕ → ℕ
miles_of_sector tariff trip number = unwrap_or (sector_miles tariff trip number) 0

-- the first sector of a span that has no ticketed point mileage
abbrev pub first_without_tpm : Tariff → Itinerary → ℕ → ℕ → Option ℕ
first_without_tpm tariff trip a b = find (has_no_tpm tariff trip) (sectors a b)

-- the sum of the ticketed point mileages of a span
unfoldable pub sum_of_miles : Tariff → Itinerary → ℕ → ℕ → ℕ
sum_of_miles tariff trip a b = sum_by (miles_of_sector tariff trip) (sectors a b)

-- the extra mileage allowance of a span
abbrev pub allowance_of : Tariff → Itinerary → ℕ → ℕ → Indicator → ℕ
allowance_of tariff trip a b ind = allowance tariff (point trip a) (point trip b) ind (interior_cities trip a b)

-- the miles of a sum and an allowance, compared with those permitted; the net is never below 0
abbrev pub miles_from : ℕ → ℕ → ℕ → Miles
miles_from sum allowance mpm = record { sum = sum; allowance = allowance; net = sum - allowance; mpm = mpm }

-- the mileage of miles whose surcharge was looked for: within, with a surcharge above 0, or over
abbrev pub mileage_with : Miles → Option ℕ → Mileage
mileage_with miles None = Over miles
mileage_with miles (Some zero) = Within miles
mileage_with miles (Some (suc less)) = Excess (suc less) miles

-- the mileage of miles
unfoldable pub compared_miles : Miles → Mileage
compared_miles miles = mileage_with miles (surcharge miles.net miles.mpm)

-- the mileage of a span by its first sector without miles and by the miles that are permitted
abbrev pub mileage_by : Option ℕ → Option ℕ → ℕ → ℕ → Mileage
mileage_by (Some number) permitted sum allowance = NoTpm number
mileage_by None None sum allowance = NoMpm
mileage_by None (Some mpm) sum allowance = compared_miles (miles_from sum allowance mpm)

-- a span of one sector is direct; a longer one is compared, for an indicator
unfoldable pub mileage : Tariff → Itinerary → ℕ → ℕ → Indicator → Mileage
mileage tariff trip a b ind =
    if b == a + 1 then Direct
    else mileage_by (first_without_tpm tariff trip a b) (mpm tariff (point trip a) (point trip b) ind)
    (sum_of_miles tariff trip a b) (allowance_of tariff trip a b ind)

-- the surcharge that a mileage asks for, where it lets a fare be used
abbrev pub surcharge_of : Mileage → Option ℕ
surcharge_of Direct = Some 0
surcharge_of (Within miles) = Some 0
surcharge_of (Excess step miles) = Some step
surcharge_of (NoTpm number) = None
surcharge_of NoMpm = None
surcharge_of (Over miles) = None
