-- A number for each kind of key and indicator.
use Rattle.std.specs.Prelude.{ℕ, ◌+◌}
use Rattle.fare_codes.specs.declared.indicator.Indicator.{Indicator}
use Rattle.fare_codes.specs.declared.indicator.Indicator.TheVariants.{WH, EH, AT, PA, AP}
use Rattle.fare_index.specs.declared.key.Key.{Key}
use Rattle.fare_index.specs.declared.key.Key.TheVariants as kind

-- a number for each indicator
abbrev pub indicator_mark : Indicator → ℕ
indicator_mark WH = 0
indicator_mark EH = 1
indicator_mark AT = 2
indicator_mark PA = 3
indicator_mark AP = 4

-- a number for each kind of key and indicator
abbrev pub mark : Key → ℕ
mark (kind.Fares from to ind) = indicator_mark ind
mark (kind.City city) = 5
mark (kind.Currency country) = 6
mark (kind.Rule id) = 7
mark (kind.Permitted first second ind) = 8 + indicator_mark ind
mark (kind.Ticketed first second) = 16
mark (kind.Extra first second ind via) = 24 + indicator_mark ind
