-- Homing: what the parts behind a point cost at least until a unit comes home there, since what begins must also end.
use Rattle.std.specs.Prelude.{ℕ, Bool, Option, if◌then◌else◌}
use Rattle.fare_trip.specs.Itinerary.{Itinerary, point}
use Rattle.fare_tariff.specs.Tariff.{Tariff}
use Rattle.fare_legs.specs.Costs.{are_near, is_same_city}

-- a unit that begins at a point may end at another: in the same city, or in its country as an open jaw
abbrev pub may_end_at : Tariff → Itinerary → ℕ → ℕ → Bool
may_end_at tariff trip start home = are_near tariff (point trip home) (point trip start)

-- the last part of a unit that stands in the city of a point may begin at another: in that city, or in its country
abbrev pub may_go_on : Tariff → Itinerary → ℕ → ℕ → Bool
may_go_on tariff trip stand a = are_near tariff (point trip stand) (point trip a)

-- what is behind a point until a unit closes, by whether it has more than one part so far
abbrev pub closing_by : Bool → (ℕ → ℕ → ℕ → Option ℕ) → (ℕ → ℕ → ℕ → Option ℕ) → ℕ → ℕ → ℕ → Option ℕ
closing_by more begun closing c i home = if more then closing c i home else begun c i home

-- what is behind a point until a unit comes home, by the city where it began: in that city it closes, after any parts;
-- elsewhere it is an open jaw, of which the next part is the last
abbrev pub homing_at : Itinerary → (ℕ → ℕ → Option ℕ) → (ℕ → ℕ → Option ℕ) → ℕ → ℕ → ℕ → Option ℕ
homing_at trip closing jaw start i home = if is_same_city trip start home then closing i home else jaw i home
