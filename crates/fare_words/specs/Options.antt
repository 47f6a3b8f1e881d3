-- The options and flags that a definition in `clap` finds in words, and the texts of their values.
use Rattle.std.specs.Prelude.{ℕ, Bool, false, List, Option, Some, None, if◌then◌else◌, nat_le, option_and_then}
use Rattle.std.specs.Prelude.{bytes_eq, codes}
use Rattle.std.specs.Option.{option_map_or}
use Rattle.clap.specs.Words.{App, Row, Text, fault_of, first_of, matches_of}
use Rattle.clap.specs.Walk.{is_empty}
use Rattle.fare_codes.specs.Numbers.{read_number}

-- the options that the definition finds in the words after the first, where it takes those words
unfoldable pub options_of : App → List Text → Option (List Row)
options_of app words = if is_empty (fault_of app words) then Some (matches_of app words) else None

-- a flag stands: its value, which words can't write, is then `true`, and else `false`
unfoldable pub has_flag : Text → List Row → Bool
has_flag name options = option_map_or (λ value. bytes_eq value (codes "true")) (first_of name options) false

-- the number, from the least to the most, that the text writes without a sign and with no zero in front
unfoldable pub number_between : ℕ → ℕ → Text → Option ℕ
number_between least most text =
    option_and_then (λ n. if nat_le least n then Some n else None) (read_number most text)

-- the number of an option that has to stand
unfoldable pub number_in : Text → ℕ → ℕ → List Row → Option ℕ
number_in name least most options = option_and_then (number_between least most) (first_of name options)

-- the number of an option, or another where it was left out
unfoldable pub number_or : Text → ℕ → ℕ → ℕ → List Row → Option ℕ
number_or name least most default options =
    option_map_or (number_between least most) (first_of name options) (Some default)
