-- The small words of fares: each value has one text, and a reader takes that text alone.
use Rattle.std.specs.Prelude.{ℕ, List, codes, Option, Some, None, if◌then◌else◌}
use Rattle.std.specs.Str.{bytes_eq}
use Rattle.fare_codes.specs.declared.area.Area.{Area}
use Rattle.fare_codes.specs.declared.area.Area.TheVariants.{One, Two, Three}
use Rattle.fare_codes.specs.declared.indicator.Indicator.{Indicator}
use Rattle.fare_codes.specs.declared.indicator.Indicator.TheVariants.{WH, EH, AT, PA, AP}
use Rattle.fare_codes.specs.declared.cabin.Cabin.{Cabin}
use Rattle.fare_codes.specs.declared.cabin.Cabin.TheVariants.{F, C, Y}
use Rattle.fare_codes.specs.declared.kind.Kind.{Kind}
use Rattle.fare_codes.specs.declared.kind.Kind.TheVariants.{OW, HR}
use Rattle.fare_codes.specs.declared.mode.Mode.{Mode}
use Rattle.fare_codes.specs.declared.mode.Mode.TheVariants.{Up, Nearest}

-- an area is written as its number
abbrev pub area_text : Area → List ℕ
area_text One = codes "1"
area_text Two = codes "2"
area_text Three = codes "3"

-- the area whose text the bytes are
unfoldable pub read_area : List ℕ → Option Area
read_area bytes =
    if bytes_eq bytes (codes "1") then Some One
    else (if bytes_eq bytes (codes "2") then Some Two
    else (if bytes_eq bytes (codes "3") then Some Three else None))

-- a global indicator is written as its two letters
abbrev pub indicator_text : Indicator → List ℕ
indicator_text WH = codes "WH"
indicator_text EH = codes "EH"
indicator_text AT = codes "AT"
indicator_text PA = codes "PA"
indicator_text AP = codes "AP"

-- the indicator whose text the bytes are
unfoldable pub read_indicator : List ℕ → Option Indicator
read_indicator bytes =
    if bytes_eq bytes (codes "WH") then Some WH
    else (if bytes_eq bytes (codes "EH") then Some EH
    else (if bytes_eq bytes (codes "AT") then Some AT
    else (if bytes_eq bytes (codes "PA") then Some PA
    else (if bytes_eq bytes (codes "AP") then Some AP else None))))

-- a cabin is written as its letter
abbrev pub cabin_text : Cabin → List ℕ
cabin_text F = codes "F"
cabin_text C = codes "C"
cabin_text Y = codes "Y"

-- the cabin whose text the bytes are
unfoldable pub read_cabin : List ℕ → Option Cabin
read_cabin bytes =
    if bytes_eq bytes (codes "F") then Some F
    else (if bytes_eq bytes (codes "C") then Some C
    else (if bytes_eq bytes (codes "Y") then Some Y else None))

-- a kind of fare is written as its two letters
abbrev pub kind_text : Kind → List ℕ
kind_text OW = codes "OW"
kind_text HR = codes "HR"

-- the kind whose text the bytes are
unfoldable pub read_kind : List ℕ → Option Kind
read_kind bytes =
    if bytes_eq bytes (codes "OW") then Some OW
    else (if bytes_eq bytes (codes "HR") then Some HR else None)

-- rounding up is written U, rounding to the nearest N
abbrev pub mode_text : Mode → List ℕ
mode_text Up = codes "U"
mode_text Nearest = codes "N"

-- the mode whose text the bytes are
unfoldable pub read_mode : List ℕ → Option Mode
read_mode bytes =
    if bytes_eq bytes (codes "U") then Some Up
    else (if bytes_eq bytes (codes "N") then Some Nearest else None)
