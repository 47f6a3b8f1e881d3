-- The ocean between each two areas, marked or not.
use Rattle.std.specs.Prelude.{◌≡◌, refl, List, [], ◌∷◌, Option, Some, None}
use Rattle.fare_codes.specs.declared.area.Area.{Area}
use Rattle.fare_codes.specs.declared.area.Area.TheVariants.{One, Two, Three}
use Rattle.fare_codes.specs.declared.indicator.Indicator.{Indicator}
use Rattle.fare_codes.specs.declared.indicator.Indicator.TheVariants.{AT, PA}
use Rattle.fare_codes.specs.declared.over.Over.{Over}
use Rattle.fare_codes.specs.declared.over.Over.TheVariants as marked
use Rattle.fare_rules.specs.Indicator.{ocean}

-- the oceans from an area to areas 1, 2 and 3
abbrev oceans_from : Area → Over → List (Option Indicator)
oceans_from from over =
    ocean (Some from) (Some One) over ∷ ocean (Some from) (Some Two) over ∷ ocean (Some from) (Some Three) over ∷ []

-- without a mark, area 1 is divided from area 2 by the Atlantic and from area 3 by the Pacific
pub unmarked_oceans :
    (oceans_from One marked.Unmarked ∷ oceans_from Two marked.Unmarked ∷ oceans_from Three marked.Unmarked ∷ [])
    ≡ ((None ∷ Some AT ∷ Some PA ∷ []) ∷ (Some AT ∷ None ∷ None ∷ []) ∷ (Some PA ∷ None ∷ None ∷ []) ∷ [])
unmarked_oceans = refl

-- a mark of the Atlantic has an effect between areas 1 and 3 alone
pub oceans_marked_atlantic :
    (oceans_from One marked.AT ∷ oceans_from Two marked.AT ∷ oceans_from Three marked.AT ∷ [])
    ≡ ((None ∷ Some AT ∷ Some AT ∷ []) ∷ (Some AT ∷ None ∷ None ∷ []) ∷ (Some AT ∷ None ∷ None ∷ []) ∷ [])
oceans_marked_atlantic = refl

-- and one of the Pacific says what holds without it
pub oceans_marked_pacific :
    (oceans_from One marked.PA ∷ oceans_from Two marked.PA ∷ oceans_from Three marked.PA ∷ [])
    ≡ ((None ∷ Some AT ∷ Some PA ∷ []) ∷ (Some AT ∷ None ∷ None ∷ []) ∷ (Some PA ∷ None ∷ None ∷ []) ∷ [])
oceans_marked_pacific = refl
