-- Barring: which rules may be barred behind a part, and numbers by what is barred that do not lead on yet.
use Rattle.std.specs.Prelude.{◌≡◌, ℕ, Bool, true, not, ◌||◌, ◌<◌, List, Option, Some, None, replicate, slice_index_or}
use Rattle.fare_codes.specs.declared.rule_id.RuleId.{RuleId}
use Rattle.fare_trip.specs.Itinerary.{Itinerary}
use Rattle.fare_tariff.specs.Record.{FareRecord}
use Rattle.fare_tariff.specs.Tariff.{Tariff}
use Rattle.fare_tariff.specs.Lookup.{ends_ok}
use Rattle.fare_homing.specs.declared.onward.Onward.{Onward}
use Rattle.fare_legs.specs.declared.limits.TheConstants.{MOST_RULES, MOST_SETS}
use Rattle.fare_legs.specs.Barred.{is_among}
use Rattle.fare_homing.specs.Onward.{HasRests, no_onward}

-- the rule of a fare, where that is there, may be barred behind a part of a rule: it was barred before that, or does not
-- combine end on end with it
abbrev pub may_bar : Tariff → List ℕ → Option RuleId → Option FareRecord → Bool
may_bar tariff before rule None = true
may_bar tariff before rule (Some fare) = is_among tariff before fare.rule || not (ends_ok tariff rule fare.rule)

-- numbers are what is behind each point by what is barred, nothing in the first place, and lead to that place yet
pub record AreUnlinked (tariff : Tariff) (trip : Itinerary) (begun jaw : ℕ → ℕ → ℕ → Option ℕ)
    (onwards : List Onward) : Type 0 where
  pub rests : (set : ℕ) → set < MOST_SETS → HasRests tariff trip begun jaw (slice_index_or onwards set no_onward)
  pub first : (slice_index_or onwards 0 no_onward).barred ≡ replicate MOST_RULES 0
  pub next : (set : ℕ) → set < MOST_SETS → (slice_index_or onwards set no_onward).next ≡ replicate MOST_RULES 0
