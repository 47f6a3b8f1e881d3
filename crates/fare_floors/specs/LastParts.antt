-- LastParts: which part may be the last of a unit that goes on behind some first parts, and what it costs at least with
-- what is behind it.
use Rattle.std.specs.Prelude.{◌≡◌, ℕ, ◌+◌, ◌-◌, ◌<◌, ◌≤◌, Bool, true, false, not, ◌&&◌}
use Rattle.std.specs.Prelude.{List, [], ◌∷◌, ◌++◌, length, Option}
use Rattle.std.specs.Prelude.{Some, Contains}
use Rattle.fare_codes.specs.Day.{day_number}
use Rattle.fare_trip.specs.Itinerary.{Itinerary, count}
use Rattle.fare_tariff.specs.Tariff.{Tariff}
use Rattle.fare_rules.specs.declared.part.Part.{Part}
use Rattle.fare_rules.specs.Span.{first_day}
use Rattle.fare_rules.specs.Construction.{end_of, first_of, own, start_of}
use Rattle.fare_rules.specs.UnitRules.{part_day}
use Rattle.fare_component.specs.declared.table.entry.Entry.{Entry}
use Rattle.fare_component.specs.Table.{Pricing, entries_of}
use Rattle.fare_lawful.specs.Barred.{is_uncombined}
use Rattle.fare_lawful.specs.declared.limits.TheConstants.{MOST_PARTS}
use Rattle.fare_bounds.specs.Covers.{rest_at}
use Rattle.fare_legs.specs.Costs.{IsUpTo, back_cost}
use Rattle.fare_floors.specs.Stays.{forbids_any}

-- the stay of a unit of some parts whose last part begins at a point: the days from the first sector of its first part
abbrev pub stay_until : Itinerary → List Part → ℕ → ℕ → ℕ
stay_until trip parts unit s = day_number (first_day trip s) - part_day trip parts (first_of (own parts unit))

-- a part that begins at a point may be the last of its unit behind some parts: it combines with each of them, and the
-- rule of each part of the unit allows the stay
abbrev pub may_be_last : Tariff → Itinerary → List Part → ℕ → Part → Bool
may_be_last tariff trip parts s part =
    not (is_uncombined tariff (parts ++ part ∷ []))
    && not (forbids_any tariff (parts ++ part ∷ []) part.unit (stay_until trip parts part.unit s))

-- the part of a unit that has an entry's fare and ends at a point
abbrev pub part_with : ℕ → ℕ → Entry → Part
part_with unit end entry = record { end = end; unit = unit; fare = entry.fare }

-- a number is under what the last part of a unit costs with an entry of a span, and what is behind it
abbrev pub IsUnderLast : Pricing → List Part → ℕ → ℕ → ℕ → ℕ → Entry → Option ℕ → Type 0
IsUnderLast table front unit s home behind entry least =
    (cost : ℕ) → back_cost entry ≡ Some cost
    → may_be_last table.edition table.trip front s (part_with unit home entry) ≡ true → IsUpTo (cost + behind) least

-- a number is under what the last part of a unit costs that begins at a point, with what is behind its home
abbrev pub IsUnderLasts : Pricing → List Part → ℕ → List (Option ℕ) → ℕ → Option ℕ → Type 0
IsUnderLasts table front unit homes s least =
    (home behind : ℕ) (entry : Entry) → rest_at homes home ≡ Some behind
    → Contains (entries_of table.edition table.trip s home) entry
    → IsUnderLast table front unit s home behind entry least

-- numbers are under what the last part of a unit costs that begins at each point or behind it
abbrev pub AreLasts : Pricing → List Part → ℕ → ℕ → List (Option ℕ) → List (Option ℕ) → Type 0
AreLasts table front unit from homes lasts =
    (i s : ℕ) → from ≤ i → i ≤ s → IsUnderLasts table front unit homes s (rest_at lasts i)

-- numbers are over a unit that goes on by what its last part costs, or, where it need not go on, by what is behind each
-- point without it
pub record AreOverLasts (table : Pricing) (front : List Part) (unit : ℕ) (must : Bool)
    (homes behind row : List (Option ℕ)) :
    Type 0 where
  pub lasts : AreLasts table front unit (end_of front (length front)) homes row
  pub whole : must ≡ false → (i cost : ℕ) → IsUpTo cost (rest_at behind i) → IsUpTo cost (rest_at row i)

-- what is known of a unit of first parts that goes on: the point where it begins, that another part may follow, and
-- that its number is one of a part
pub record IsGoing (table : Pricing) (front : List Part) (unit start : ℕ) : Type 0 where
  pub begins : start ≡ start_of table.trip front (first_of (own front unit))
  pub within : start < count table.trip
  pub room : length front < MOST_PARTS
  pub few : unit ≤ MOST_PARTS
