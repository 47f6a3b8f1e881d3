-- When two of the small words, or two seasons, are the same: tests that compute.
use Rattle.std.specs.Prelude.{Bool, true, false, ◌&&◌, bytes_eq}
use Rattle.fare_codes.specs.declared.indicator.Indicator.{Indicator}
use Rattle.fare_codes.specs.declared.indicator.Indicator.TheVariants.{WH, EH, AT, PA, AP}
use Rattle.fare_codes.specs.declared.cabin.Cabin.{Cabin}
use Rattle.fare_codes.specs.declared.cabin.Cabin.TheVariants.{F, C, Y}
use Rattle.fare_codes.specs.declared.kind.Kind.{Kind}
use Rattle.fare_codes.specs.declared.kind.Kind.TheVariants.{OW, HR}
use Rattle.fare_codes.specs.declared.season.Season.{Season}

-- two indicators are the same
abbrev pub same_indicator : Indicator → Indicator → Bool
same_indicator WH WH = true
same_indicator EH EH = true
same_indicator AT AT = true
same_indicator PA PA = true
same_indicator AP AP = true
same_indicator _ _ = false

-- two cabins, or classes, are the same
abbrev pub same_cabin : Cabin → Cabin → Bool
same_cabin F F = true
same_cabin C C = true
same_cabin Y Y = true
same_cabin _ _ = false

-- two kinds of fare are the same
abbrev pub same_kind : Kind → Kind → Bool
same_kind OW OW = true
same_kind HR HR = true
same_kind _ _ = false

-- two seasons have the same first and the same last day
abbrev pub same_season : Season → Season → Bool
same_season a b = bytes_eq a.first b.first && bytes_eq a.last b.last
