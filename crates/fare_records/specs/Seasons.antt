-- Seasons: when two share a day.
use Rattle.std.specs.Prelude.{◌≡◌, ℕ, Bool, true, ◌||◌, List}
use Rattle.fare_codes.specs.declared.season.Season.{Season}
use Rattle.fare_codes.specs.Day.{is_month_day}
use Rattle.fare_codes.specs.Season.{season_holds}

-- one of two seasons holds the other's first day: a test that is true exactly where some month-day lies in both
abbrev pub seasons_overlap : Season → Season → Bool
seasons_overlap a b = season_holds a b.first || season_holds b a.first

-- some month-day lies in both seasons
pub record ShareADay (a b : Season) : Type 0 where
  pub on : List ℕ
  pub is_a_day : is_month_day on ≡ true
  pub in_first : season_holds a on ≡ true
  pub in_second : season_holds b on ≡ true
