-- The table of a trip in an edition: for each span the fares that may be used there, with what they cost.
use Rattle.std.specs.Prelude.{◌≡◌, ℕ, ◌+◌, ◌*◌, ◌<◌, ◌≤◌, Bool, true, false, List, [], Option, Some, None, IfSome}
use Rattle.std.specs.Prelude.{is_some, map, option_and_then, filter_map, nat_lt, nat_le, ◌&&◌, ◌||◌, if◌then◌else◌}
use Rattle.fare_codes.specs.declared.nuc.Nuc.{Nuc}
use Rattle.fare_codes.specs.declared.nuc.TheConstants.{FARE_LIMIT}
use Rattle.fare_trip.specs.Itinerary.{Itinerary, count}
use Rattle.fare_records.specs.Record.{FareRecord}
use Rattle.fare_tariff.specs.Tariff.{Tariff}
use Rattle.fare_tariff.specs.Lookup.{fare_at}
use Rattle.fare_rules.specs.declared.amount.Amount.{Amount}
use Rattle.fare_rules.specs.ComponentAmount.{component_amount, is_half_round_trip}
use Rattle.fare_rules.specs.UnitPrice.{one_way_price}
use Rattle.fare_rules.specs.Numbers.{numbers}
use Rattle.fare_rules.specs.Completion.{record_numbers}
use Rattle.fare_component.specs.declared.table.entry.Entry.{Entry}
use Rattle.fare_conditions.specs.Usable.{IsAmount}

-- what a table is of: an edition, and a trip that is priced in it
pub record Pricing : Type 0 where
  pub edition : Tariff
  pub trip : Itinerary

-- the price of a one way fare over a span as a unit of its own; none for a half round trip
abbrev pub single_of : Tariff → Itinerary → ℕ → ℕ → ℕ → FareRecord → Option Nuc
single_of tariff trip a b number fare =
    if is_half_round_trip fare then None else one_way_price tariff trip a b number

-- the price over a span, as a unit of its own, of the fare of a record number
abbrev pub single_price : Tariff → Itinerary → ℕ → ℕ → ℕ → Option Nuc
single_price tariff trip a b number = option_and_then (single_of tariff trip a b number) (fare_at tariff number)

-- what the fare of a record number costs for a span: priced out, priced back, and as a one way unit
abbrev pub entry_of : Tariff → Itinerary → ℕ → ℕ → ℕ → Entry
entry_of tariff trip a b number = record {
  fare = number;
  out = component_amount tariff trip a b number false;
  back = component_amount tariff trip a b number true;
  single = single_price tariff trip a b number;
}

-- a fare has an amount in some direction
abbrev pub has_amount : Entry → Bool
has_amount entry = is_some entry.out || is_some entry.back

-- the amount of an entry, priced back or not
abbrev pub amount_of : Entry → Bool → Option Amount
amount_of entry back = if back then entry.back else entry.out

-- the entry of a record number, where its fare has an amount in some direction
unfoldable pub entry_at : Tariff → Itinerary → ℕ → ℕ → ℕ → Option Entry
entry_at tariff trip a b number =
    if has_amount (entry_of tariff trip a b number) then Some (entry_of tariff trip a b number) else None

-- two points of a trip make a span
abbrev pub is_span : Itinerary → ℕ → ℕ → Bool
is_span trip a b = nat_lt a b && nat_le b (count trip)

-- the entries of a span: in record order, each fare that has an amount there in some direction; none where two points
-- make no span
unfoldable pub entries_of : Tariff → Itinerary → ℕ → ℕ → List Entry
entries_of tariff trip a b =
    if is_span trip a b then filter_map (entry_at tariff trip a b) (record_numbers tariff) else []

-- the entries of all spans from a point, by the points where they end
abbrev pub row_of : Tariff → Itinerary → ℕ → List (List Entry)
row_of tariff trip a = map (entries_of tariff trip a) (numbers 0 (count trip + 1))

-- an entry is that of its fare for a span, with an amount in some direction
pub record IsEntry (tariff : Tariff) (trip : Itinerary) (a b : ℕ) (entry : Entry) : Type 0 where
  pub rises : a < b
  pub within : b ≤ count trip
  pub whole : entry ≡ entry_of tariff trip a b entry.fare
  pub amount : has_amount entry ≡ true

-- an entry has the lesser record number
abbrev pub ComesBefore : Entry → Entry → Type 0
ComesBefore first second = first.fare < second.fare

-- the amounts of an entry are in their bounds, and a one way unit costs less than twice the greatest fare
pub record IsInBounds (entry : Entry) : Type 0 where
  pub out : IfSome entry.out IsAmount
  pub back : IfSome entry.back IsAmount
  pub single : IfSome entry.single (λ price. price < 2 * FARE_LIMIT)
