-- Covers: ways to cover the air sectors of a trip behind a point by entries of its table, and the least that one costs.
use Rattle.std.specs.Prelude.{◌≡◌, ℕ, ◌≤◌, List, [], ◌∷◌, Option, Some, None, Contains, min, option_map, slice_index_or}
use Rattle.std.specs.Prelude.{sum_by}
use Rattle.std.specs.Option.{option_or}
use Rattle.fare_trip.specs.Itinerary.{Itinerary, count}
use Rattle.fare_tariff.specs.Tariff.{Tariff}
use Rattle.fare_rules.specs.declared.amount.Amount.{Amount}
use Rattle.fare_rules.specs.Construction.{begin_after}
use Rattle.fare_component.specs.declared.table.entry.Entry.{Entry}
use Rattle.fare_component.specs.Table.{entries_of}

-- the lesser of two amounts, of which either may be missing
abbrev pub lesser : Option ℕ → Option ℕ → Option ℕ
lesser None b = b
lesser (Some a) None = Some a
lesser (Some a) (Some b) = Some (min a b)

-- the hundredths of a component amount
abbrev pub hundredths_of : Amount → ℕ
hundredths_of found = found.amount

-- what an entry costs at least: a one way fare its price as a unit of its own, and a half round trip the lesser of its
-- amounts in the two directions
abbrev pub least_cost : Entry → Option ℕ
least_cost entry =
    option_or entry.single (lesser (option_map hundredths_of entry.out) (option_map hundredths_of entry.back))

-- a leg of a cover: the point where it ends, and what it costs
pub record Leg : Type 0 where
  pub end : ℕ
  pub cost : ℕ

-- an entry serves a leg that begins at a point: it is one of the span to the leg's end, and costs as much as the leg
pub record IsServed (tariff : Tariff) (trip : Itinerary) (a : ℕ) (leg : Leg) : Type 0 where
  pub entry : Entry
  pub there : Contains (entries_of tariff trip a leg.end) entry
  pub costs : least_cost entry ≡ Some leg.cost

-- legs cover the air sectors of a trip behind a point: none is needed at the trip's end, and else the first leg begins
-- at the point, or one point later where a surface sector stands there, and the others cover what is behind its end
abbrev pub IsCover : Tariff → Itinerary → ℕ → List Leg → Type 0
IsCover tariff trip i [] = i ≡ count trip
IsCover tariff trip i (leg ∷ rest) = IsServed tariff trip (begin_after trip i) leg × IsCover tariff trip leg.end rest

-- what a leg costs
abbrev pub cost_of : Leg → ℕ
cost_of leg = leg.cost

-- what legs cost together
abbrev pub total : List Leg → ℕ
total legs = sum_by cost_of legs

-- a sum is the least of the lists of legs that meet something: one of them costs as much, and none costs less
pub record IsLeastSum (Meets : List Leg → Type 0) (least : ℕ) : Type 0 where
  pub legs : List Leg
  pub meets : Meets legs
  pub reached : total legs ≡ least
  pub lowest : (others : List Leg) → Meets others → least ≤ total others

-- an answer is the least sum of such lists, or nothing where there is none
abbrev pub IsLeast : (List Leg → Type 0) → Option ℕ → Type 0
IsLeast Meets None = (legs : List Leg) → Meets legs → ⊥
IsLeast Meets (Some least) = IsLeastSum Meets least

-- the rest at a point
abbrev pub rest_at : List (Option ℕ) → ℕ → Option ℕ
rest_at rests i = slice_index_or rests i None

-- the rests of a trip: at each point the least sum of the covers behind it, and nothing where there is no cover
abbrev pub AreRests : Tariff → Itinerary → List (Option ℕ) → Type 0
AreRests tariff trip rests = (i : ℕ) → IsLeast (IsCover tariff trip i) (rest_at rests i)
