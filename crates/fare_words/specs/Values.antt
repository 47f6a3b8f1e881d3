-- The value of each option.
use Rattle.std.specs.Prelude.{ℕ, Bool, true, false, List, Option, Some, None, codes, if◌then◌else◌, option_and_then}
use Rattle.std.specs.Prelude.{option_map}
use Rattle.std.specs.Option.{option_map_or}
use Rattle.clap.specs.Words.{Row, Text, first_of}
use Rattle.clap.specs.Walk.{is_empty}
use Rattle.fare_codes.specs.declared.limits.TheConstants.{LAST_EDITION, LAST_SEED, MOST_BEST, MOST_EXTRA, MOST_SECTORS}
use Rattle.fare_codes.specs.declared.limits.TheConstants.{MOST_WORKERS}
use Rattle.fare_ports.specs.declared.door.TheConstants.{MOST_HELD}
use Rattle.fare_words.specs.declared.limits.TheConstants.{DEFAULT_EXTRA, DEFAULT_ROUND, DEFAULT_WORKERS, MOST_COUNT}
use Rattle.fare_words.specs.declared.limits.TheConstants.{MOST_PORT}
use Rattle.fare_words.specs.Options.{has_flag, number_between, number_in, number_or}
use Rattle.fare_words.specs.declared.asked.Asked.{Asked}
use Rattle.fare_words.specs.declared.asked.Asked.TheVariants as ask

-- a store's name is any text that isn't empty
abbrev pub store_name_of : Text → Option Text
store_name_of text = if is_empty text then None else Some text

-- the store
unfoldable pub store_in : List Row → Option Text
store_in options = option_and_then store_name_of (first_of (codes "store") options)

-- how many workers share a search
unfoldable pub workers_in : List Row → Option ℕ
workers_in options = number_or (codes "workers") 1 MOST_WORKERS DEFAULT_WORKERS options

-- how many of the best quotations are asked for, where any number is
unfoldable pub best_in : List Row → Option (Option ℕ)
best_in options = option_map_or
    (λ text. option_map (λ n. Some n) (number_between 1 MOST_BEST text)) (first_of (codes "best") options) (Some None)

-- what `--why` and `--best` ask of a trip; they can't be asked for together
unfoldable pub asked_by : Bool → Option ℕ → Option Asked
asked_by true None = Some ask.Why
asked_by true (Some k) = None
asked_by false None = Some ask.Quotation
asked_by false (Some k) = Some (ask.Best k)

-- what is asked of a trip
unfoldable pub asked_in : List Row → Option Asked
asked_in options = option_and_then (asked_by (has_flag (codes "why") options)) (best_in options)

-- whether the answer is wanted in JSON
unfoldable pub json_in : List Row → Bool
json_in options = has_flag (codes "json") options

-- the number of an edition
unfoldable pub edition_in : List Row → Option ℕ
edition_in options = number_in (codes "edition") 1 LAST_EDITION options

-- the number of the edition from which two are compared
unfoldable pub from_in : List Row → Option ℕ
from_in options = number_in (codes "from") 1 LAST_EDITION options

-- the number of the edition with which it is compared
unfoldable pub to_in : List Row → Option ℕ
to_in options = number_in (codes "to") 1 LAST_EDITION options

-- the port on which connections come in
unfoldable pub port_in : List Row → Option ℕ
port_in options = number_in (codes "port") 1 MOST_PORT options

-- how many connections are served
unfoldable pub count_in : List Row → Option ℕ
count_in options = number_in (codes "count") 1 MOST_COUNT options

-- how many connections make a round
unfoldable pub round_in : List Row → Option ℕ
round_in options = number_or (codes "round") 1 MOST_HELD DEFAULT_ROUND options

-- the seed of a drill
unfoldable pub seed_in : List Row → Option ℕ
seed_in options = number_in (codes "seed") 0 LAST_SEED options

-- how many sectors a drill has
unfoldable pub sectors_in : List Row → Option ℕ
sectors_in options = number_in (codes "sectors") 1 MOST_SECTORS options

-- how many extra records a drill has
unfoldable pub extra_in : List Row → Option ℕ
extra_in options = number_or (codes "extra") 0 MOST_EXTRA DEFAULT_EXTRA options
