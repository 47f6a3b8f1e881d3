-- Crowding: how many one way fares must still come behind some first parts of which no two may have one rule, and how
-- many such rules the first parts leave.
use Rattle.std.specs.Prelude.{◌≡◌, ℕ, ◌+◌, ◌<◌, ◌≤◌, Bool, true, false, not, ◌&&◌, ◌||◌, List, Option, Some, None}
use Rattle.std.specs.Prelude.{filter, length, Contains, is_some, is_none, slice_index, if◌then◌else◌}
use Rattle.std.specs.List.{list_any}
use Rattle.fare_codes.specs.declared.rule_id.RuleId.{RuleId}
use Rattle.fare_trip.specs.Itinerary.{Itinerary, count}
use Rattle.fare_tariff.specs.Record.{FareRecord}
use Rattle.fare_tariff.specs.Tariff.{Tariff}
use Rattle.fare_tariff.specs.Lookup.{ends_ok}
use Rattle.fare_rules.specs.declared.part.Part.{Part}
use Rattle.fare_rules.specs.Construction.{begin_after, fare_of, places}
use Rattle.fare_component.specs.declared.table.entry.Entry.{Entry}
use Rattle.fare_component.specs.Table.{entries_of}
use Rattle.fare_legs.specs.Lonely.{is_rule_of, rule_at}

-- a fare, where there is one, combines end on end with a rule
abbrev pub combines_with : Tariff → Option RuleId → Option FareRecord → Bool
combines_with tariff rule None = false
combines_with tariff rule (Some fare) = ends_ok tariff fare.rule rule

-- the fare of a part does not combine end on end with a rule
abbrev pub bars_rule : Tariff → List Part → Option RuleId → ℕ → Bool
bars_rule tariff parts rule k = not (combines_with tariff rule (fare_of tariff parts k))

-- the fares of all parts combine end on end with a rule
abbrev pub leaves_rule : Tariff → List Part → Option RuleId → Bool
leaves_rule tariff parts rule = not (list_any (bars_rule tariff parts rule) (places parts))

-- the fare of a record number has a rule, and the fares of all parts combine end on end with it
abbrev pub leaves_fare : Tariff → List Part → ℕ → Bool
leaves_fare tariff parts number = is_some (rule_at tariff number) && leaves_rule tariff parts (rule_at tariff number)

-- how many of some fares are left by some parts
abbrev pub left_count : Tariff → List Part → List ℕ → ℕ
left_count tariff parts fares = length (filter (leaves_fare tariff parts) fares)

-- a part with an entry may come behind some parts: its fare is no one way fare, or combines end on end with each of
-- theirs
abbrev pub may_come : Tariff → List Part → Entry → Bool
may_come tariff parts entry = is_none entry.single || leaves_rule tariff parts (rule_at tariff entry.fare)

-- a part with an entry takes the rule of one of some fares: its fare is one way, and has that rule
abbrev pub takes_rule : Tariff → List ℕ → Entry → Bool
takes_rule tariff fares entry = is_some entry.single && is_rule_of tariff fares (rule_at tariff entry.fare)

-- how many rules of some fares a part with an entry takes
abbrev pub taken : Tariff → List ℕ → Entry → ℕ
taken tariff fares entry = if takes_rule tariff fares entry then 1 else 0

-- a number is no more than how many rules of some fares a part takes with an entry that may come behind some parts, and
-- with what is behind it
abbrev pub IsNeedWith : Tariff → List ℕ → List Part → ℕ → Entry → ℕ → Type 0
IsNeedWith tariff fares parts behind entry need =
    may_come tariff parts entry ≡ true → need ≤ taken tariff fares entry + behind

-- the same for each part that begins at a point
abbrev pub IsNeed : Tariff → Itinerary → List ℕ → List Part → List ℕ → ℕ → ℕ → Type 0
IsNeed tariff trip fares parts needs a need =
    (b : ℕ) (entry : Entry) → Contains (entries_of tariff trip a b) entry
    → IsNeedWith tariff fares parts (slice_index needs b) entry need

-- numbers are no more than how many rules of some fares the parts take that come behind some parts, behind each point
-- from one on
pub record AreNeeds (tariff : Tariff) (trip : Itinerary) (fares : List ℕ) (parts : List Part) (from : ℕ)
    (needs : List ℕ) : Type 0 where
  pub at_end : slice_index needs (count trip) ≡ 0
  pub steps : (i : ℕ) → from ≤ i → i < count trip
      → IsNeed tariff trip fares parts needs (begin_after trip i) (slice_index needs i)
