-- When two keys are the same.
use Rattle.std.specs.Prelude.{Bool, true, false, ◌&&◌, bytes_eq, Option, Some, None}
use Rattle.fare_codes.specs.declared.city.City.{City}
use Rattle.fare_codes.specs.Same.{same_indicator}
use Rattle.fare_index.specs.declared.key.Key.{Key}
use Rattle.fare_index.specs.declared.key.Key.TheVariants as kind

-- two via fields are the same, of which nothing is every way
abbrev pub same_via : Option City → Option City → Bool
same_via None None = true
same_via (Some a) (Some b) = bytes_eq a b
same_via _ _ = false

-- two keys are of one kind and have the same parts
abbrev pub same_key : Key → Key → Bool
same_key (kind.City a) (kind.City b) = bytes_eq a b
same_key (kind.Currency a) (kind.Currency b) = bytes_eq a b
same_key (kind.Rule a) (kind.Rule b) = bytes_eq a b
same_key (kind.Fares a b i) (kind.Fares c d j) = bytes_eq a c && bytes_eq b d && same_indicator i j
same_key (kind.Permitted a b i) (kind.Permitted c d j) = bytes_eq a c && bytes_eq b d && same_indicator i j
same_key (kind.Ticketed a b) (kind.Ticketed c d) = bytes_eq a c && bytes_eq b d
same_key (kind.Extra a b i v) (kind.Extra c d j w) = bytes_eq a c && bytes_eq b d && same_indicator i j && same_via v w
same_key _ _ = false
