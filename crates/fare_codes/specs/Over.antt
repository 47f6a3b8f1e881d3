-- The mark of the ocean that a sector crosses.
use Rattle.std.specs.Prelude.{ℕ, List, [], codes, Option, Some, None, if◌then◌else◌}
use Rattle.std.specs.Str.{bytes_eq}
use Rattle.fare_codes.specs.declared.over.Over.{Over}
use Rattle.fare_codes.specs.declared.over.Over.TheVariants.{Unmarked, AT, PA}

-- no mark is the empty text; the others are their two letters
abbrev pub over_text : Over → List ℕ
over_text Unmarked = []
over_text AT = codes "AT"
over_text PA = codes "PA"

-- the mark whose text the bytes are
unfoldable pub read_over : List ℕ → Option Over
read_over bytes =
    if bytes_eq bytes [] then Some Unmarked
    else (if bytes_eq bytes (codes "AT") then Some AT
    else (if bytes_eq bytes (codes "PA") then Some PA else None))
