-- Keys of unordered pairs of cities, in which the lesser city stands first.
use Rattle.std.specs.Prelude.{Bool, Option, if◌then◌else◌}
use Rattle.std.specs.Ordering.{nat_cmp, is_lt}
use Rattle.std.specs.Cmp.Lexicographic.{slice_cmp}
use Rattle.fare_codes.specs.declared.city.City.{City}
use Rattle.fare_codes.specs.declared.indicator.Indicator.{Indicator}
use Rattle.fare_index.specs.declared.key.Key.{Key}
use Rattle.fare_index.specs.declared.key.Key.TheVariants.{Permitted, Ticketed, Extra}

-- a city stands before another in the order of their letters
abbrev pub is_less : City → City → Bool
is_less a b = is_lt (slice_cmp nat_cmp a b)

-- the lesser of two cities
abbrev pub lesser : City → City → City
lesser a b = if is_less a b then a else b

-- the other one
abbrev pub greater : City → City → City
greater a b = if is_less a b then b else a

-- the key of a maximum permitted mileage
abbrev pub permitted_key : City → City → Indicator → Key
permitted_key a b ind = Permitted (lesser a b) (greater a b) ind

-- the key of a ticketed point mileage
abbrev pub ticketed_key : City → City → Key
ticketed_key a b = Ticketed (lesser a b) (greater a b)

-- the key of an extra mileage allowance
abbrev pub extra_key : City → City → Indicator → Option City → Key
extra_key a b ind via = Extra (lesser a b) (greater a b) ind via
