-- Threes: fares of which a unit of three parts or more may have one, since two others combine with it and with each other.
use Rattle.std.specs.Prelude.{◌≡◌, ℕ, ◌<◌, ◌≤◌, Bool, true, List, [], ◌∷◌, Contains, All, ◌&&◌}
use Rattle.std.specs.List.{list_any}
use Rattle.fare_trip.specs.Itinerary.{Itinerary, count}
use Rattle.fare_tariff.specs.Tariff.{Tariff}
use Rattle.fare_tariff.specs.Lookup.{fare_at, unit_ok}
use Rattle.fare_rules.specs.UnitRules.{rules_pass}
use Rattle.fare_component.specs.declared.table.entry.Entry.{Entry}
use Rattle.fare_component.specs.Table.{entries_of}
use Rattle.fare_legs.specs.Barred.{is_barred}

-- the fares of two record numbers are there, and combine in a unit
abbrev pub are_combined : Tariff → ℕ → ℕ → Bool
are_combined tariff one other = rules_pass (unit_ok tariff) (fare_at tariff one) (fare_at tariff other)

-- the fare of a record number has an amount on some span of a trip
pub record IsFlown (tariff : Tariff) (trip : Itinerary) (number : ℕ) : Type 0 where
  pub a : ℕ
  pub b : ℕ
  pub rises : a < b
  pub within : b ≤ count trip
  pub entry : Entry
  pub there : Contains (entries_of tariff trip a b) entry
  pub fare : entry.fare ≡ number

-- the fare of a record number may be one of three in a unit: a fare of the trip may come before it, and another behind,
-- and each two of them combine
pub record IsOneOfThree (tariff : Tariff) (trip : Itinerary) (number : ℕ) : Type 0 where
  pub before : ℕ
  pub behind : ℕ
  pub flown_before : IsFlown tariff trip before
  pub flown_behind : IsFlown tariff trip behind
  pub with_before : are_combined tariff before number ≡ true
  pub with_behind : are_combined tariff number behind ≡ true
  pub apart : are_combined tariff before behind ≡ true

-- no fare that has the rule of the fare of a record number may be one of three in a unit
abbrev pub IsOfTwo : Tariff → Itinerary → ℕ → Type 0
IsOfTwo tariff trip fare =
    (number : ℕ) → is_barred tariff (fare ∷ []) number ≡ true → IsOneOfThree tariff trip number → ⊥

-- of none of some fares may one that has its rule be one of three in a unit
abbrev pub AreOfTwo : Tariff → Itinerary → List ℕ → Type 0
AreOfTwo tariff trip fares = All (IsOfTwo tariff trip) fares

-- each fare of a trip has the rule of one of some fares
abbrev pub AreAllRules : Tariff → Itinerary → List ℕ → Type 0
AreAllRules tariff trip rules = (number : ℕ) → IsFlown tariff trip number → is_barred tariff rules number ≡ true

-- a fare may come behind two others that combine: it combines with both
abbrev pub may_follow : Tariff → ℕ → ℕ → ℕ → Bool
may_follow tariff before number behind = are_combined tariff number behind && are_combined tariff before behind

-- a fare may come before another: they combine, and some fare may come behind both
abbrev pub may_precede : Tariff → List ℕ → ℕ → ℕ → Bool
may_precede tariff rules number before =
    are_combined tariff before number && list_any (may_follow tariff before number) rules

-- a fare may be one of three in a unit with two of some fares
abbrev pub is_of_three : Tariff → List ℕ → ℕ → Bool
is_of_three tariff rules number = list_any (may_precede tariff rules number) rules
