-- The entries of a table whose fares may begin a construction.
use Rattle.std.specs.Prelude.{◌≡◌, ℕ, ◌≤◌, Bool, List, length, filter, is_some, slice_index}
use Rattle.fare_trip.specs.Itinerary.{Itinerary, count}
use Rattle.fare_tariff.specs.Tariff.{Tariff}
use Rattle.fare_component.specs.declared.table.entry.Entry.{Entry}
use Rattle.fare_component.specs.Table.{entries_of}

-- a fare may begin: it has an amount priced out
abbrev pub begins : Entry → Bool
begins entry = is_some entry.out

-- those of some entries whose fares may begin
abbrev pub outward : List Entry → List Entry
outward entries = filter begins entries

-- counts are of the entries that may begin, by the points where they end
abbrev pub AreCounts : Tariff → Itinerary → List ℕ → Type 0
AreCounts tariff trip counts =
    (end : ℕ) → 1 ≤ end → end ≤ count trip → slice_index counts end ≡ length (outward (entries_of tariff trip 0 end))
