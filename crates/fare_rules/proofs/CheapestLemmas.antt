-- Best of a trip of one sector is the single part of the cheapest fare.
use Rattle.std.proofs.Common.{◌≡◌, ℕ, ◌<◌, ◌≤◌, ◌⊎◌, Bool, true, false, List, refl, sym, subst, inl, inr, arith}
use Rattle.std.specs.Prelude.{Some}
use Rattle.std.proofs.lemmas.Bool.{cases_lt, cases_order, both_ways}
use Rattle.fare_trip.specs.Itinerary.{Itinerary, count}
use Rattle.fare_tariff.specs.Tariff.{Tariff}
use Rattle.fare_rules.specs.declared.part.Part.{Part}
use Rattle.fare_rules.specs.Order.{is_before}
use Rattle.fare_rules.specs.Best.{IsBest, NoneIsLawful}
use Rattle.fare_rules.specs.OneSector.{single_fare, single_part, IsCheapest}
use Rattle.fare_rules.proofs.OrderLemmas.{Before, before_says, before_tells}
use Rattle.fare_rules.proofs.OneSectorLemmas.{lawful_single, single_lawful}

-- a single part is before another where it costs less, or the same with a lesser record number
less_before : (m n q p : ℕ) → (q < p) ⊎ ((q ≡ p) × (m < n)) → Before (single_part m) q (single_part n) p
less_before m n q p (inl l) = inl l
less_before m n q p (inr (e, l)) = inr (e, inl (inr (refl, inl l)))

not_before : (m n q p : ℕ) → (p < q) ⊎ ((p ≡ q) × (n ≤ m)) → Before (single_part m) q (single_part n) p → ⊥
not_before m n q p (inl l) (inl h) = omega arith
not_before m n q p (inl l) (inr (e, h)) = omega arith
not_before m n q p (inr (e, l)) (inl h) = omega arith
not_before m n q p (inr (e, l)) (inr (f, inl (inl h))) = omega arith
not_before m n q p (inr (e, l)) (inr (f, inl (inr (g, inl h)))) = omega arith
not_before m n q p (inr (e, l)) (inr (f, inl (inr (g, inr h)))) = omega arith
not_before m n q p (inr (e, l)) (inr (f, inr h)) = h.1

false_of : (b : Bool) → (b ≡ true → ⊥) → b ≡ false
false_of true h = absurd (h refl)
false_of false h = refl

module _ (tariff : Tariff) (trip : Itinerary) (one : count trip ≡ 1) where
  pub best_of_cheapest : (number price : ℕ) → IsCheapest tariff trip number price
      → IsBest tariff trip (single_part number) price
  best_of_cheapest number price cheapest = record {
    lawful = lawful_single tariff trip one number price cheapest.usable;
    first = λ other cost lawful. let single = single_lawful tariff trip one other cost lawful in
        subst (λ parts. is_before parts cost (single_part number) price ≡ false) (sym single.1)
        (false_of (is_before (single_part single.0) cost (single_part number) price) (λ t. not_before single.0 number cost price (cheapest.least single.0 cost single.2) (before_tells (single_part single.0) (single_part number) cost price t)));
  }

  cheaper : (number price other cost : ℕ) → is_before (single_part other) cost (single_part number) price ≡ false
      → (price < cost) ⊎ ((price ≡ cost) × (number ≤ other))
  cheaper number price other cost e =
      elim (cases_order price cost) [
        | inr order ↦ elim order [
          | inl l ↦ inl l
          | inr g ↦ absurd (both_ways (is_before (single_part other) cost (single_part number) price) e (before_says (single_part other) (single_part number) cost price (less_before other number cost price (inl g))))
        ]
        | inl same ↦ elim (cases_lt other number) [
          | inr high ↦ inr (same, high)
          | inl low ↦ absurd (both_ways (is_before (single_part other) cost (single_part number) price) e (before_says (single_part other) (single_part number) cost price (less_before other number cost price (inr (sym same, low)))))
        ]
      ]

  pub cheapest_of_best : (parts : List Part) (price : ℕ) → IsBest tariff trip parts price
      → (number : ℕ) × (parts ≡ single_part number) × IsCheapest tariff trip number price
  cheapest_of_best parts price best =
      let single = single_lawful tariff trip one parts price best.lawful in
      let first = λ (other cost : ℕ) (usable : single_fare tariff trip other ≡ Some cost). subst (λ ps. is_before (single_part other) cost ps price ≡ false) single.1 (best.first (single_part other) cost (lawful_single tariff trip one other cost usable)) in (
        single.0,
        single.1,
        record {
          usable = single.2;
          least = λ other cost usable. cheaper single.0 price other cost (first other cost usable);
        },
      )

  pub none_without_fare : ((number price : ℕ) → single_fare tariff trip number ≡ Some price → ⊥)
      → NoneIsLawful tariff trip
  none_without_fare none parts price lawful =
      let single = single_lawful tariff trip one parts price lawful in
      none single.0 price single.2

  pub no_fare_without_lawful : NoneIsLawful tariff trip → (number price : ℕ)
      → single_fare tariff trip number ≡ Some price → ⊥
  no_fare_without_lawful none number price usable = none (single_part number) price (lawful_single tariff trip one number price usable)
