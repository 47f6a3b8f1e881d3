-- The edition that a day selects.
use Rattle.std.specs.Prelude.{Bool, ◌==◌, ◌&&◌, ◌||◌, List, Option, Some, None, fold, filter, nat_le, nat_lt}
use Rattle.std.specs.Prelude.{if◌then◌else◌}
use Rattle.fare_codes.specs.declared.day.Day.{Day}
use Rattle.fare_codes.specs.Day.{day_number}
use Rattle.fare_tariff.specs.Tariff.{Tariff}

-- an edition is effective by a day
abbrev pub is_effective_by : Day → Tariff → Bool
is_effective_by day edition = nat_le (day_number edition.effective) (day_number day)

-- an edition is later than another where the pair of its effective day and its number is greater
abbrev pub is_later : Tariff → Tariff → Bool
is_later one other =
    nat_lt (day_number other.effective) (day_number one.effective)
    || ((day_number one.effective == day_number other.effective) && nat_lt other.number one.number)

-- the later of two editions, or the one where there is no other
abbrev pub later_of : Option Tariff → Tariff → Tariff
later_of None one = one
later_of (Some other) one = if is_later one other then one else other

-- the latest of some editions
abbrev pub latest : Option Tariff → List Tariff → Option Tariff
latest first editions = fold (λ best one. Some (later_of best one)) first editions

-- the edition with the greatest pair of effective day and number among those that are effective by a day
unfoldable pub selected : List Tariff → Day → Option Tariff
selected editions day = latest None (filter (is_effective_by day) editions)
