-- Onward: what is behind each point of a trip at least where no unit is open, by the fares that are barred there.
use Rattle.std.specs.Prelude.{◌≡◌, ℕ, ◌<◌, [], Option, Some, None, position, slice_index_or, true}
use Rattle.fare_codes.specs.declared.rule_id.RuleId.{RuleId}
use Rattle.fare_trip.specs.Itinerary.{Itinerary}
use Rattle.fare_tariff.specs.Record.{FareRecord}
use Rattle.fare_tariff.specs.Tariff.{Tariff}
use Rattle.fare_tariff.specs.Lookup.{fare_at}
use Rattle.fare_bounds.specs.Covers.{rest_at}
use Rattle.fare_homing.specs.declared.onward.Onward.{Onward}
use Rattle.fare_homing.specs.declared.onward.Onwards.{Onwards}
use Rattle.fare_legs.specs.declared.limits.TheConstants.{MOST_SETS}
use Rattle.fare_legs.specs.Barred.{IsStep, is_among, is_of_rule}
use Rattle.fare_homing.specs.HomingRows.{AreRests}

-- no numbers
abbrev pub no_onward : Onward
no_onward = record { barred = []; rest = []; next = [] }

-- the numbers of a place
abbrev pub onward_at : Onwards → ℕ → Onward
onward_at onwards set = slice_index_or onwards.sets set no_onward

-- numbers are what is behind each point at least where no unit is open and their fares are barred
abbrev pub HasRests : Tariff → Itinerary → (ℕ → ℕ → ℕ → Option ℕ) → (ℕ → ℕ → ℕ → Option ℕ) → Onward → Type 0
HasRests tariff trip begun jaw onward =
    (whole : ℕ → ℕ → Option ℕ) × AreRests tariff trip onward.barred begun jaw whole (rest_at onward.rest)

-- the place to which the numbers of another lead by the place of a rule; the same where the rule has none
abbrev pub next_at : Onward → ℕ → Option ℕ → ℕ
next_at onward set None = set
next_at onward set (Some place) = slice_index_or onward.next place set

-- the place of the numbers behind a part of a rule, by that of the numbers before it
abbrev pub next_by : Tariff → Onwards → ℕ → Option RuleId → ℕ
next_by tariff onwards set rule = next_at (onward_at onwards set) set (position (is_of_rule tariff rule) onwards.rules)

-- the same behind a part of a fare, where that is there
abbrev pub next_with : Tariff → Onwards → ℕ → Option FareRecord → ℕ
next_with tariff onwards set None = set
next_with tariff onwards set (Some fare) = next_by tariff onwards set fare.rule

-- the same behind a part of the fare of a record number
abbrev pub next_set : Tariff → Onwards → ℕ → ℕ → ℕ
next_set tariff onwards set number = next_with tariff onwards set (fare_at tariff number)

-- numbers are what is behind each point by what is barred: nothing is barred in the first place, and behind a part no
-- more than before it but what doesn't combine with its rule
pub record AreOnwards (tariff : Tariff) (trip : Itinerary) (begun jaw : ℕ → ℕ → ℕ → Option ℕ) (onwards : Onwards) :
    Type 0 where
  pub rests : (set : ℕ) → set < MOST_SETS → HasRests tariff trip begun jaw (onward_at onwards set)
  pub first : (rule : Option RuleId) → is_among tariff (onward_at onwards 0).barred rule ≡ true → ⊥
  pub within : (set : ℕ) (rule : Option RuleId) → set < MOST_SETS → next_by tariff onwards set rule < MOST_SETS
  pub steps : (set : ℕ) (rule : Option RuleId) → set < MOST_SETS
      → IsStep tariff (onward_at onwards set).barred rule
      (onward_at onwards (next_by tariff onwards set rule)).barred
