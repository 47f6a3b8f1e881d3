-- What the first parts of a lawful construction cost at least, with what covers the rest, is no more than its price.
use Rattle.std.proofs.Common.{◌≡◌, ℕ, ◌+◌, ◌-◌, ◌<◌, ◌≤◌, false, List, ◌++◌, length, refl, ap, subst, ◌∙◌, arith}
use Rattle.std.specs.Prelude.{Option, Some, None, option_map, sum_by, filter}
use Rattle.std.specs.List.{range_with_len}
use Rattle.std.proofs.Math.ListN.{length-append}
use Rattle.std.proofs.lemmas.List.Elements.{filter-append}
use Rattle.std.proofs.lemmas.List.Sums.{sum_by-append}
use Rattle.fare_trip.specs.Itinerary.{Itinerary, sector}
use Rattle.fare_tariff.specs.Tariff.{Tariff}
use Rattle.fare_rules.specs.declared.part.Part.{Part}
use Rattle.fare_rules.specs.Construction.{start_of, end_of, part_at, places, own, is_own, unit_of, units, greatest_unit}
use Rattle.fare_rules.specs.UnitPrice.{unit_price, price}
use Rattle.fare_rules.specs.Best.{IsLawful}
use Rattle.fare_rules.proofs.LawfulLemmas.{price_of_lawful}
use Rattle.fare_bounds.specs.Covers.{IsCover, IsLeast, total}
use Rattle.fare_units.proofs.NextLemmas.{front_part, front_start, front_unit, greatest_same}
use Rattle.fare_floors.specs.Costs.{or_nothing, fare_least, part_least, unit_least}
use Rattle.fare_floors.specs.Floors.{IsFloorAnswer}
use Rattle.fare_floors.proofs.CostLemmas.{unit_from_one}
use Rattle.fare_floors.proofs.LegLemmas.{legs_of, legs_cover}
use Rattle.fare_floors.proofs.SumLemmas.{sum_up, sum_plus, sum_fewer, sum_by_units, sum_same, range_in_two, greatest_fewer, unit_up_to, range_member}

module _ (tariff : Tariff) (trip : Itinerary) (front rest : List Part) where
  all_length : length (front ++ rest) ≡ length front + length rest
  all_length = length-append front rest

  -- a part that comes first costs at least what it did
  pub front_least : (k : ℕ) → 1 ≤ k → k ≤ length front → part_least tariff trip (front ++ rest) k ≡ part_least tariff trip front k
  front_least k low high =
      ap (λ (p : Part). or_nothing (fare_least tariff trip (start_of trip (front ++ rest) k) p.end p.fare)) (front_part front rest k low high)
      ∙ ap (λ a. or_nothing (fare_least tariff trip a (end_of front k) (part_at front k).fare)) (front_start trip front rest k low high)

  -- costs of parts that are for the first ones what these cost at least
  abbrev pub AreLeastInFront : (ℕ → ℕ) → Type 0
  AreLeastInFront cost = (k : ℕ) → 1 ≤ k → k ≤ length front → cost k ≡ part_least tariff trip front k

  -- what the parts of a unit that come behind cost
  abbrev pub behind_cost : (ℕ → ℕ) → ℕ → ℕ
  behind_cost cost unit = sum_by cost (filter (is_own (front ++ rest) unit) (range_with_len (length front + 1) (length rest)))

  -- what a unit's parts cost is the least of those among the first ones, and what those behind cost
  pub unit_in_two : (cost : ℕ → ℕ) → AreLeastInFront cost → (unit : ℕ) → sum_by cost (own (front ++ rest) unit) ≡ unit_least tariff trip front unit + behind_cost cost unit
  unfolding own
  unit_in_two cost like unit =
      let n : length (front ++ rest) ≡ length front + length rest = all_length in
      let m : length (front ++ rest) + 1 - 1 ≡ length front + length rest = omega arith in
      let f : length front + 1 - 1 ≡ length front = omega arith in
      let j : 1 + length front ≡ length front + 1 = omega arith in
      let split : range_with_len 1 (length front + length rest) ≡ range_with_len 1 (length front) ++ range_with_len (length front + 1) (length rest) = range_in_two 1 (length front) (length rest) ∙ ap (λ a. range_with_len 1 (length front) ++ range_with_len a (length rest)) j in
      let own_split : filter (is_own (front ++ rest) unit) (range_with_len 1 (length front + length rest)) ≡ filter (is_own (front ++ rest) unit) (range_with_len 1 (length front)) ++ filter (is_own (front ++ rest) unit) (range_with_len (length front + 1) (length rest)) =
      ap (filter (is_own (front ++ rest) unit)) split ∙ filter-append (is_own (front ++ rest) unit) (range_with_len 1 (length front)) (range_with_len (length front + 1) (length rest)) in
      let sums : sum_by cost (filter (is_own (front ++ rest) unit) (range_with_len 1 (length front + length rest))) ≡ sum_by cost (filter (is_own (front ++ rest) unit) (range_with_len 1 (length front))) + behind_cost cost unit =
      ap (sum_by cost) own_split ∙ sum_by-append cost (filter (is_own (front ++ rest) unit) (range_with_len 1 (length front))) (filter (is_own (front ++ rest) unit) (range_with_len (length front + 1) (length rest))) in
      let first : sum_by cost (filter (is_own (front ++ rest) unit) (range_with_len 1 (length front))) ≡ sum_by (part_least tariff trip front) (filter (is_own front unit) (range_with_len 1 (length front))) =
      sum_same (is_own (front ++ rest) unit) (is_own front unit) cost (part_least tariff trip front) 1 (length front)
      (λ k low high. (same_own unit k low (omega arith), like k low (omega arith))) in
      rw (m, f) (omega arith)
    where
      same_own : (unit k : ℕ) → 1 ≤ k → k ≤ length front → is_own (front ++ rest) unit k ≡ is_own front unit k
      same_own unit k low high = rw (front_unit front rest k low high) refl

  -- the greatest unit of the first parts is no greater than that of all
  greatest_in_front : greatest_unit front (places front) ≤ greatest_unit (front ++ rest) (places (front ++ rest))
  greatest_in_front =
      let n : length (front ++ rest) ≡ length front + length rest = all_length in
      let same : greatest_unit (front ++ rest) (range_with_len 1 (length front + 1 - 1)) ≡ greatest_unit front (range_with_len 1 (length front + 1 - 1)) = greatest_same (front ++ rest) front 1 (length front + 1 - 1) (λ k low high. front_unit front rest k low (omega arith)) in
      let more : greatest_unit (front ++ rest) (range_with_len 1 (length front + 1 - 1)) ≤ greatest_unit (front ++ rest) (range_with_len 1 (length (front ++ rest) + 1 - 1)) = greatest_fewer (front ++ rest) 1 (length front + 1 - 1) (length (front ++ rest) + 1 - 1) (omega arith) in
      omega arith

  module _ (cost : ℕ) (lawful : IsLawful tariff trip (front ++ rest) cost) where
    behind_in_units : (k : ℕ) → length front + 1 ≤ k → k < length front + 1 + length rest → (1 ≤ unit_of (front ++ rest) k) × (unit_of (front ++ rest) k ≤ greatest_unit (front ++ rest) (places (front ++ rest)))
    behind_in_units k low high =
        let n : length (front ++ rest) ≡ length front + length rest = all_length in
        (unit_from_one tariff trip (front ++ rest) cost lawful k (omega arith) (omega arith), unit_up_to (front ++ rest) 1 (length (front ++ rest) + 1 - 1) k (omega arith) (omega arith))

    -- where weights of units, with what their parts behind cost, are no more than the prices of the units, those of the
    -- first parts with what the parts behind cost are no more than the price
    pub weights_are_below : (costs weight : ℕ → ℕ) → ((unit : ℕ) → 1 ≤ unit → unit ≤ greatest_unit (front ++ rest) (places (front ++ rest)) → weight unit + behind_cost costs unit ≤ unit_price tariff trip (front ++ rest) unit)
        → sum_by weight (units front) + sum_by costs (range_with_len (length front + 1) (length rest)) ≤ cost
    unfolding price
    weights_are_below costs weight each =
        let most : ℕ = greatest_unit (front ++ rest) (places (front ++ rest)) in
        let g : greatest_unit (front ++ rest) (places (front ++ rest)) + 1 - 1 ≡ greatest_unit (front ++ rest) (places (front ++ rest)) = omega arith in
        let P : ℕ → Type 0 = λ n. sum_by (unit_price tariff trip (front ++ rest)) (range_with_len 1 n) ≡ cost in
        let whole : sum_by (unit_price tariff trip (front ++ rest)) (range_with_len 1 (greatest_unit (front ++ rest) (places (front ++ rest)))) ≡ cost = subst P g (price_of_lawful tariff trip (front ++ rest) cost lawful) in
        let up : sum_by (λ u. weight u + behind_cost costs u) (range_with_len 1 (greatest_unit (front ++ rest) (places (front ++ rest)))) ≤ sum_by (unit_price tariff trip (front ++ rest)) (range_with_len 1 (greatest_unit (front ++ rest) (places (front ++ rest)))) =
        sum_up (λ u. weight u + behind_cost costs u) (unit_price tariff trip (front ++ rest)) 1 (greatest_unit (front ++ rest) (places (front ++ rest))) (λ u low high. each u low (omega arith)) in
        let both : sum_by (λ u. weight u + behind_cost costs u) (range_with_len 1 (greatest_unit (front ++ rest) (places (front ++ rest)))) ≡ sum_by weight (range_with_len 1 (greatest_unit (front ++ rest) (places (front ++ rest)))) + sum_by (behind_cost costs) (range_with_len 1 (greatest_unit (front ++ rest) (places (front ++ rest)))) = sum_plus weight (behind_cost costs) (range_with_len 1 (greatest_unit (front ++ rest) (places (front ++ rest)))) in
        let in_front : greatest_unit front (places front) ≤ greatest_unit (front ++ rest) (places (front ++ rest)) = greatest_in_front in
        let first : sum_by weight (units front) ≤ sum_by weight (range_with_len 1 (greatest_unit (front ++ rest) (places (front ++ rest)))) = sum_fewer weight 1 (greatest_unit front (places front) + 1 - 1) (greatest_unit (front ++ rest) (places (front ++ rest))) (omega arith) in
        let behind : sum_by costs (range_with_len (length front + 1) (length rest)) ≤ sum_by (behind_cost costs) (range_with_len 1 (greatest_unit (front ++ rest) (places (front ++ rest)))) =
        sum_by_units (front ++ rest) costs (greatest_unit (front ++ rest) (places (front ++ rest))) (range_with_len (length front + 1) (length rest))
        (λ k m. let in_range = range_member (length front + 1) (length rest) k m in behind_in_units k in_range.0 in_range.1) in
        omega arith

-- the sum of what units cost at least and of the rest behind them is a floor
pub sum_is_floor : (tariff : Tariff) (trip : Itinerary) (front : List Part) (spent : ℕ) (behind : Option ℕ) → (sector trip 1).surface ≡ false
    → ((rest : List Part) (cost : ℕ) → IsLawful tariff trip (front ++ rest) cost → spent + total (legs_of tariff trip front rest) ≤ cost)
    → IsLeast (IsCover tariff trip (end_of front (length front))) behind → IsFloorAnswer tariff trip front (option_map (λ n. spent + n) behind)
sum_is_floor tariff trip front spent None flown up least = λ parts cost c.
    let P : List Part → Type 0 = λ xs. IsLawful tariff trip xs cost in
    let l : IsLawful tariff trip (front ++ c.begins.0) cost = subst P c.begins.1 c.lawful in
    least (legs_of tariff trip front c.begins.0) (legs_cover tariff trip flown front c.begins.0 cost l)
sum_is_floor tariff trip front spent (Some behind) flown up least = λ parts cost c.
    let P : List Part → Type 0 = λ xs. IsLawful tariff trip xs cost in
    let l : IsLawful tariff trip (front ++ c.begins.0) cost = subst P c.begins.1 c.lawful in
    let low : behind ≤ total (legs_of tariff trip front c.begins.0) = least.lowest (legs_of tariff trip front c.begins.0) (legs_cover tariff trip flown front c.begins.0 cost l) in
    let most : spent + total (legs_of tariff trip front c.begins.0) ≤ cost = up c.begins.0 cost l in
    omega arith
