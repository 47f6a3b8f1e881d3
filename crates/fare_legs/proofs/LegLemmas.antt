-- What the parts from a point cost at least, one point more.
use Rattle.std.proofs.Common.{ℕ, ◌+◌, ◌<◌, List, length, set, arith}
use Rattle.std.specs.Prelude.{Option}
use Rattle.fare_trip.specs.Itinerary.{Itinerary, count}
use Rattle.fare_tariff.specs.Tariff.{Tariff}
use Rattle.fare_component.specs.declared.table.entry.Entry.{Entry}
use Rattle.fare_component.specs.Table.{entries_of}
use Rattle.fare_component.proofs.LawLemmas.{entry_is_of_fare}
use Rattle.fare_bounds.specs.Covers.{rest_at}
use Rattle.fare_legs.specs.Least.{IsUnderEach}
use Rattle.fare_legs.specs.Legs.{AreLegs}
use Rattle.fare_legs.proofs.ReachLemmas.{row_more}

-- the numbers of a row are no more than what the parts cost that end before a point
abbrev pub AreLegsBefore : Tariff → Itinerary → (Entry → Option ℕ) → ℕ → ℕ → List (Option ℕ) → Type 0
AreLegsBefore tariff trip cost_of a past row = (b : ℕ) → b < past → IsUnderEach cost_of (entries_of tariff trip a b) (rest_at row b)

module _ (tariff : Tariff) (trip : Itinerary) (cost_of : Entry → Option ℕ) (a : ℕ) where
  pub legs_first : (row : List (Option ℕ)) → AreLegsBefore tariff trip cost_of a (a + 1) row
  legs_first row b less cost part = let is = entry_is_of_fare tariff trip a b part.entry part.there in absurd (omega (arith, is.rises))

  pub legs_more : (b : ℕ) (row : List (Option ℕ)) (least : Option ℕ) → b < length row → AreLegsBefore tariff trip cost_of a b row
      → IsUnderEach cost_of (entries_of tariff trip a b) least → AreLegsBefore tariff trip cost_of a (b + 1) (set row b least)
  legs_more b row least within known here = row_more (λ k found. IsUnderEach cost_of (entries_of tariff trip a k) found) row b least within known here

  pub legs_all : (past : ℕ) (row : List (Option ℕ)) → count trip < past → AreLegsBefore tariff trip cost_of a past row → AreLegs tariff trip cost_of a row
  legs_all past row within known b cost part =
      let is = entry_is_of_fare tariff trip a b part.entry part.there in
      known b (omega (arith, is.within)) cost part
