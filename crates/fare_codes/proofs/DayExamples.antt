-- Known days, amounts and conversions, computed on the definitions.
use Rattle.std.proofs.Common.{◌≡◌, [], ◌∷◌, map, true, false, refl, codes}
use Rattle.jiff_core.specs.Calendar.{days_of_months}
use Rattle.fare_codes.specs.Day.{is_day, is_month_day, has_day_shape, has_month_day_shape, is_civil, day_number, days_since_1970}

-- the epoch, a leap day, a century that is no leap year, and the last day
known_numbers : map day_number (codes "1970-01-01" ∷ codes "1972-03-01" ∷ codes "2000-02-29" ∷ codes "2024-02-29" ∷ codes "2100-03-01" ∷ codes "9999-12-31" ∷ [])
    ≡ 0 ∷ 790 ∷ 11016 ∷ 19782 ∷ 47541 ∷ 2932896 ∷ []
unfolding day_number days_since_1970 days_of_months
known_numbers = refl

-- days, and texts that are none
known_days : map is_day (codes "2000-02-29" ∷ codes "2100-02-29" ∷ codes "1969-12-31" ∷ codes "2025-00-10" ∷ codes "2024-8-30" ∷ codes "2024-08--30" ∷ [])
    ≡ true ∷ false ∷ false ∷ false ∷ false ∷ false ∷ []
unfolding has_day_shape is_civil
known_days = refl

-- days of the year, and texts that are none
known_month_days : map is_month_day (codes "02-29" ∷ codes "02-30" ∷ codes "04-31" ∷ codes "12-31" ∷ codes "0930" ∷ [])
    ≡ true ∷ false ∷ false ∷ true ∷ false ∷ []
unfolding has_month_day_shape
known_month_days = refl
