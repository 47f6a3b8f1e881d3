-- The cities of a range of points, one point on.
use Rattle.std.proofs.Common.{◌≡◌, ℕ, ◌+◌, ◌<◌, ◌≤◌, [], ◌∷◌, map, ap}
use Rattle.fare_codes.specs.declared.city.City.{City}
use Rattle.fare_rules.specs.Numbers.{numbers}
use Rattle.fare_rules.proofs.NumberLemmas.{numbers_next, numbers_none}

-- the cities of a range that isn't empty are that of its first point and those of the rest
pub cities_next : (city : ℕ → City) (first past : ℕ) → first < past
    → map city (numbers first past) ≡ city first ∷ map city (numbers (first + 1) past)
cities_next city first past h = ap (map city) (numbers_next first past h)

-- an empty range has none
pub cities_done : (city : ℕ → City) (first past : ℕ) → past ≤ first → map city (numbers first past) ≡ []
cities_done city first past h = ap (map city) (numbers_none first past h)
