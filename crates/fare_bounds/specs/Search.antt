-- How the rests are found: from the trip's end back, by the ends of the first leg.
use Rattle.std.specs.Prelude.{◌≡◌, ℕ, ◌+◌, ◌-◌, ◌*◌, ◌<◌, ◌≤◌, List, [], ◌∷◌, Option, Some, None, IfSome}
use Rattle.fare_trip.specs.Itinerary.{Itinerary}
use Rattle.fare_tariff.specs.Tariff.{Tariff}
use Rattle.fare_rules.specs.Construction.{begin_after}
use Rattle.fare_component.specs.declared.table.entry.Entry.{Entry}
use Rattle.fare_bounds.specs.declared.limits.TheConstants.{COST_LIMIT}
use Rattle.fare_codes.specs.declared.limits.TheConstants.{MOST_SECTORS}
use Rattle.fare_bounds.specs.Covers.{Leg, IsServed, IsCover, IsLeast, least_cost, lesser, rest_at}

-- the least cost of some entries
abbrev pub cheapest : List Entry → Option ℕ
cheapest [] = None
cheapest (entry ∷ entries) = lesser (least_cost entry) (cheapest entries)

-- the sum of two amounts, where there are both
abbrev pub sum_of : Option ℕ → Option ℕ → Option ℕ
sum_of None b = None
sum_of (Some a) None = None
sum_of (Some a) (Some b) = Some (a + b)

-- legs cover the air sectors behind a point, and the first one's end meets something
pub record GoesOn (tariff : Tariff) (trip : Itinerary) (i : ℕ) (Meets : ℕ → Type 0) (legs : List Leg) : Type 0 where
  pub first : Leg
  pub rest : List Leg
  pub whole : legs ≡ first ∷ rest
  pub served : IsServed tariff trip (begin_after trip i) first
  pub meets : Meets first.end
  pub covers : IsCover tariff trip first.end rest

-- the points before one
abbrev pub IsBefore : ℕ → ℕ → Type 0
IsBefore past end = end < past

-- the rests are known from a point on
abbrev pub AreRestsFrom : Tariff → Itinerary → ℕ → List (Option ℕ) → Type 0
AreRestsFrom tariff trip first rests = (i : ℕ) → first ≤ i → IsLeast (IsCover tariff trip i) (rest_at rests i)

-- a rest from a point on is at most as many of the greatest costs as there can be sectors behind the point
abbrev pub AreInBounds : List (Option ℕ) → Type 0
AreInBounds rests = (i : ℕ) → IfSome (rest_at rests i) (λ rest. rest ≤ (MOST_SECTORS - i) * COST_LIMIT)
