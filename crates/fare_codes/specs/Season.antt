-- Seasons: the parts of each year for which fares are filed.
use Rattle.std.specs.Prelude.{ℕ, Bool, List, ◌&&◌, ◌||◌, nat_le, codes, if◌then◌else◌}
use Rattle.fare_codes.specs.declared.season.Season.{Season}
use Rattle.fare_codes.specs.Day.{place_in_year}

-- where first isn't after last a season holds the days from first to last; else those from first on and those up to
-- last
unfoldable pub season_holds : Season → List ℕ → Bool
season_holds season on =
    if nat_le (place_in_year season.first) (place_in_year season.last)
    then (nat_le (place_in_year season.first) (place_in_year on)
    && nat_le (place_in_year on) (place_in_year season.last))
    else (nat_le (place_in_year season.first) (place_in_year on)
    || nat_le (place_in_year on) (place_in_year season.last))

-- the whole year is the season from `01-01` to `12-31`
abbrev pub whole_year : Season
whole_year = record { first = codes "01-01"; last = codes "12-31" }
