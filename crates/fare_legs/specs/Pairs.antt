-- Pairs: what the first and the last part of a unit of half round trips cost at least together.
use Rattle.std.specs.Prelude.{◌≡◌, ℕ, ◌+◌, ◌-◌, ◌≤◌, Bool, true, not, ◌&&◌, List, Option, Some, Contains}
use Rattle.fare_codes.specs.Day.{day_number}
use Rattle.fare_trip.specs.Itinerary.{Itinerary}
use Rattle.fare_tariff.specs.Tariff.{Tariff}
use Rattle.fare_tariff.specs.Lookup.{fare_at, unit_ok}
use Rattle.fare_rules.specs.Span.{first_day}
use Rattle.fare_rules.specs.UnitRules.{allows_stay_of, rules_pass}
use Rattle.fare_component.specs.declared.table.entry.Entry.{Entry}
use Rattle.fare_component.specs.Table.{Pricing, entries_of}
use Rattle.fare_legs.specs.Barred.{is_barred}
use Rattle.fare_legs.specs.Costs.{IsUpTo, back_cost, first_cost}

-- the days from the sector behind a point to that behind another
abbrev pub days_between : Itinerary → ℕ → ℕ → ℕ
days_between trip a b = day_number (first_day trip b) - day_number (first_day trip a)

-- two fares combine in a unit of so many days: the rule of each allows the other, and the stay
abbrev pub are_mates : Tariff → ℕ → ℕ → ℕ → Bool
are_mates tariff days one other =
    rules_pass (unit_ok tariff) (fare_at tariff one) (fare_at tariff other)
    && (allows_stay_of tariff days (fare_at tariff one) && allows_stay_of tariff days (fare_at tariff other))

-- two fares may be the first and the last of a unit of so many days: they combine in it, and none of them is barred
abbrev pub may_pair : Tariff → List ℕ → ℕ → ℕ → ℕ → Bool
may_pair tariff barred days one other =
    are_mates tariff days one other && (not (is_barred tariff barred one) && not (is_barred tariff barred other))

-- a unit that begins at a point and ends at another has a first and a last part that may pair, and costs no less than
-- both
pub record HasPair (tariff : Tariff) (trip : Itinerary) (barred : List ℕ) (start home cost : ℕ) : Type 0 where
  pub end : ℕ
  pub first : Entry
  pub first_there : Contains (entries_of tariff trip start end) first
  pub first_amount : ℕ
  pub first_costs : first_cost first ≡ Some first_amount
  pub begin : ℕ
  pub later : end ≤ begin
  pub last : Entry
  pub last_there : Contains (entries_of tariff trip begin home) last
  pub last_amount : ℕ
  pub last_costs : back_cost last ≡ Some last_amount
  pub may : may_pair tariff barred (days_between trip start begin) first.fare last.fare ≡ true
  pub sum : first_amount + last_amount ≤ cost

-- a number is under a cost that is no less than a floor, and than a first part with a last one that may pair with it
abbrev pub IsUnderPair : Pricing → List ℕ → ℕ → ℕ → ℕ → ℕ → ℕ → Entry → Option ℕ → Type 0
IsUnderPair table barred start floor fare amount begin last least =
    (last_amount cost : ℕ) → back_cost last ≡ Some last_amount
    → may_pair table.edition barred (days_between table.trip start begin) fare last.fare ≡ true
    → amount + last_amount ≤ cost → floor ≤ cost → IsUpTo cost least

-- the same for each last part that begins at a point
abbrev pub IsUnderPairsAt : Pricing → List ℕ → ℕ → ℕ → ℕ → ℕ → ℕ → ℕ → Option ℕ → Type 0
IsUnderPairsAt table barred start home floor fare amount begin least =
    (last : Entry) → Contains (entries_of table.edition table.trip begin home) last
    → IsUnderPair table barred start floor fare amount begin last least

-- the same for each last part that begins where the first part ends or behind it
abbrev pub IsUnderPairsFrom : Pricing → List ℕ → ℕ → ℕ → ℕ → ℕ → ℕ → ℕ → Option ℕ → Type 0
IsUnderPairsFrom table barred start home floor fare amount end least =
    (begin : ℕ) → end ≤ begin → IsUnderPairsAt table barred start home floor fare amount begin least

-- the same for a first part with an entry
abbrev pub IsUnderPairsOf : Pricing → List ℕ → ℕ → ℕ → ℕ → ℕ → Entry → Option ℕ → Type 0
IsUnderPairsOf table barred start home floor end first least =
    (amount : ℕ) → first_cost first ≡ Some amount
    → IsUnderPairsFrom table barred start home floor first.fare amount end least
