-- The greatest of what a form has between stopovers and a later point, which is kept for earlier points.
use Rattle.std.proofs.Common.{◌≡◌, ℕ, zero, suc, ◌+◌, ◌-◌, ◌<◌, ◌≤◌, cond, max, ap, sym, ◌∙◌, arith}
use Rattle.std.specs.Prelude.{Option, None, filter_map}
use Rattle.std.specs.List.{range_with_len}
use Rattle.fare_codes.specs.declared.nuc.TheConstants.{FARE_LIMIT}
use Rattle.fare_trip.specs.Itinerary.{Itinerary}
use Rattle.fare_tariff.specs.Tariff.{Tariff}
use Rattle.fare_rules.specs.Numbers.{numbers}
use Rattle.fare_rules.specs.Span.{is_stopover}
use Rattle.fare_rules.specs.Base.{Compared, greatest_amount}
use Rattle.fare_rules.specs.UnitPrice.{at_least}
use Rattle.fare_rules.proofs.NumberLemmas.{numbers_next, numbers_none}
use Rattle.fare_component.specs.declared.table.references.Column.{Column}
use Rattle.fare_component.specs.declared.table.references.Form.{Form}
use Rattle.fare_component.specs.References.{IsColumn, greatest_to, reference_of, stop_to}
use Rattle.fare_component.proofs.GreatestLemmas.{one_taken, put_first}

-- what is found over a range is what is found over its front and over its rest
in_parts : (f : ℕ → Option Compared) (first n m all : ℕ) → all ≡ n + m
    → greatest_amount 0 (filter_map f (range_with_len first all))
    ≡ max (greatest_amount 0 (filter_map f (range_with_len first n)))
    (greatest_amount 0 (filter_map f (range_with_len (first + n) m)))
in_parts f first zero m all e =
    let same : all ≡ m = omega arith in
    let start : first ≡ first + zero = omega arith in
    let rest = ap (λ k. greatest_amount 0 (filter_map f (range_with_len first k))) same
    ∙ ap (λ k. greatest_amount 0 (filter_map f (range_with_len k m))) start in
    omega (arith, rest)
in_parts f first (suc n) m zero e = absurd (omega arith)
in_parts f first (suc n) m (suc all) e =
    let rest = in_parts f (first + 1) n m all (omega arith) in
    let start : first + 1 + n ≡ first + suc n = omega arith in
    let there = ap (λ k. greatest_amount 0 (filter_map f (range_with_len k m))) start in
    let whole = put_first (f first) (filter_map f (range_with_len (first + 1) all)) in
    let front = put_first (f first) (filter_map f (range_with_len (first + 1) n)) in
    omega (arith, rest, there, whole, front)

module _ (tariff : Tariff) (trip : Itinerary) (form : Form) where
  -- the pair of a stopover is taken, and then those of the later ones
  pub stop_taken : (amount i past j : ℕ) → i < past
      → greatest_amount amount (filter_map (stop_to tariff trip form j) (numbers i past))
      ≡ greatest_amount (at_least amount (cond (is_stopover trip i) (reference_of tariff trip form i j) None))
      (filter_map (stop_to tariff trip form j) (numbers (i + 1) past))
  stop_taken amount i past j h =
      ap (λ l. greatest_amount amount (filter_map (stop_to tariff trip form j) l)) (numbers_next i past h)
      ∙ one_taken amount i j (cond (is_stopover trip i) (reference_of tariff trip form i j) None)
      (filter_map (stop_to tariff trip form j) (numbers (i + 1) past))

  -- behind the last point none is left
  pub stops_taken : (amount i past j : ℕ) → past ≤ i
      → greatest_amount amount (filter_map (stop_to tariff trip form j) (numbers i past)) ≡ amount
  stops_taken amount i past j h =
      ap (λ l. greatest_amount amount (filter_map (stop_to tariff trip form j) l)) (numbers_none i past h)

  -- a column that begins at or behind its end has nothing
  pub empty_column : (j : ℕ) (column : Column) → j ≤ column.first → column.high ≡ 0
      → IsColumn tariff trip form j column
  unfolding greatest_to
  empty_column j column past none = record {
    value = none ∙ sym (stops_taken 0 column.first j j past);
    bound = omega arith;
  }

  -- a column that begins earlier has what is found there too
  pub longer_column : (first j more high : ℕ) (column : Column) → IsColumn tariff trip form j column
      → first ≤ column.first → column.first ≤ j → more ≡ greatest_to tariff trip form first column.first j
      → more < FARE_LIMIT → high ≡ max more column.high
      → IsColumn tariff trip form j (record { first = first; high = high })
  unfolding greatest_to
  longer_column first j more high column right before within found low greater =
      let parts = in_parts (stop_to tariff trip form j) first (column.first - first) (j - column.first) (j - first) (omega arith) in
      let start : first + (column.first - first) ≡ column.first = omega arith in
      let there = ap (λ k. greatest_amount 0 (filter_map (stop_to tariff trip form j) (range_with_len k (j - column.first)))) start in
      record {
        value = omega (arith, parts, there, right.value, found, greater);
        bound = omega (arith, right.bound, low, greater);
      }
