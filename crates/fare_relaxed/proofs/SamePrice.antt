-- Same price: what is lawful in an edition and in the relaxed one costs the same in both.
use Rattle.std.proofs.Common.{◌≡◌, ℕ, zero, suc, ◌+◌, ◌-◌, ◌<◌, ◌≤◌, Bool, true, false, cond, List, [], ◌∷◌, length, refl, ap, sym, ◌∙◌, subst, arith, inl, inr}
use Rattle.std.proofs.Math.Path.{fun_ext}
use Rattle.std.proofs.lemmas.Bool.{cases_Bool, eqb-true}
use Rattle.std.specs.Prelude.{Option, Some, None, Ok, option_map, option_and_then, filter, fold, sum_by}
use Rattle.std.specs.List.{range_with_len}
use Rattle.fare_trip.specs.Itinerary.{Itinerary}
use Rattle.fare_records.specs.Record.{FareRecord}
use Rattle.fare_tariff.specs.Tariff.{Tariff}
use Rattle.fare_tariff.specs.Lookup.{fare_at}
use Rattle.fare_rules.specs.declared.amount.Amount.{Amount}
use Rattle.fare_rules.specs.declared.part.Part.{Part}
use Rattle.fare_rules.specs.declared.unit_sheet.UnitKind.{UnitKind}
use Rattle.fare_rules.specs.declared.unit_sheet.UnitKind.TheVariants.{OW, RT, CT, OJ}
use Rattle.fare_rules.specs.Numbers.{numbers}
use Rattle.fare_rules.specs.Best.{IsLawful}
use Rattle.fare_rules.specs.ComponentAmount.{span_surcharge, is_applicable, amount_from, fare_amount, component_amount}
use Rattle.fare_rules.specs.Base.{base}
use Rattle.fare_rules.specs.Backhaul.{backhaul}
use Rattle.fare_rules.specs.Construction.{places, units, own, is_own, start_of, end_of, part_at, fare_of, unit_of, first_of}
use Rattle.fare_rules.specs.Shape.{holds_ow, is_open_jaw, closes}
use Rattle.fare_rules.specs.Direction.{is_back_in, is_back}
use Rattle.fare_rules.specs.UnitPrice.{part_amount, part_cost, hundredths_of, unit_sum, are_two_equal, is_round_trip, unit_kind, unit_minimum, unit_sheet, unit_price, price, at_least}
use Rattle.fare_rules.proofs.AmountLemmas.{applicable, part_may_be_used, fare_is_filed}
use Rattle.fare_rules.proofs.LawfulLemmas.{IsKept, kept, unbroken, price_of_lawful}
use Rattle.fare_relaxed.specs.declared.term.Term.{Term}
use Rattle.fare_relaxed.specs.Relax.{relax}
use Rattle.fare_relaxed.specs.Ranges.{HasRulesInRange}
use Rattle.fare_relaxed.proofs.Breaks.{priced, unbroken_stays}
use Rattle.fare_relaxed.proofs.LookUps.{fare_at_same}
use Rattle.fare_relaxed.proofs.Untouched.{holds_ow_same, is_open_jaw_same, is_back_in_same, span_surcharge_same, base_same, backhaul_same, unit_circle_minimum_same}

-- two costs are the same at each of some places
abbrev Alike : (ℕ → ℕ) → (ℕ → ℕ) → List ℕ → Type 0
Alike f g [] = Unit
Alike f g (k ∷ rest) = (f k ≡ g k) × Alike f g rest

-- costs that are the same at each member of a range that passes a test are the same at all that are kept by it
all_kept : (p : ℕ → Bool) (f g : ℕ → ℕ) (first n : ℕ)
    → ((k : ℕ) → first ≤ k → k < first + n → p k ≡ true → f k ≡ g k) → Alike f g (filter p (range_with_len first n))
all_kept p f g first zero h = tt
all_kept p f g first (suc n) h =
    elim (cases_Bool (p first)) [
      | inl t ↦ rw t (h first (omega arith) (omega arith) t, all_kept p f g (first + 1) n (λ k low high. h k (omega arith) (omega arith)))
      | inr f' ↦ rw f' (all_kept p f g (first + 1) n (λ k low high. h k (omega arith) (omega arith)))
    ]

fold_same : (f g : ℕ → ℕ) (xs : List ℕ) (a : ℕ) → Alike f g xs
    → fold (λ a x. a + f x) a xs ≡ fold (λ a x. a + g x) a xs
fold_same f g [] a h = refl
fold_same f g (x ∷ xs) a h = rw h.0 (fold_same f g xs (a + g x) h.1)

two_same : (f g : ℕ → ℕ) (xs : List ℕ) → Alike f g xs → are_two_equal f xs ≡ are_two_equal g xs
two_same f g [] h = refl
two_same f g (k ∷ []) h = refl
two_same f g (k ∷ next ∷ []) h = rw (h.0, h.1.0)
two_same f g (k ∷ next ∷ third ∷ rest) h = refl

module _ (term : Term) (tariff : Tariff) (trip : Itinerary) where
  -- the amount of a fare that may be used in both
  amount_same : (a b : ℕ) (back : Bool) (fare : FareRecord)
      → is_applicable (relax term tariff) trip a b back fare ≡ true → is_applicable tariff trip a b back fare ≡ true
      → fare_amount (relax term tariff) trip a b back fare ≡ fare_amount tariff trip a b back fare
  unfolding fare_amount
  amount_same a b back fare after before =
      rw (after, before, base_same term tariff trip a b fare back, span_surcharge_same term tariff trip a b)

  number_same : (a b number : ℕ) (back : Bool) (fare : FareRecord) → fare_at tariff number ≡ Some fare
      → is_applicable (relax term tariff) trip a b back fare ≡ true → is_applicable tariff trip a b back fare ≡ true
      → component_amount (relax term tariff) trip a b number back ≡ component_amount tariff trip a b number back
  unfolding component_amount
  number_same a b number back fare found after before =
      rw (fare_at_same term tariff number, found) (amount_same a b back fare after before)

  module _ (parts : List Part) (after : IsKept (relax term tariff) trip parts) (before : IsKept tariff trip parts) where
    part_same : (k : ℕ) → 1 ≤ k → k ≤ length parts
        → part_amount (relax term tariff) trip parts (own parts (unit_of parts k)) k
        ≡ part_amount tariff trip parts (own parts (unit_of parts k)) k
    unfolding part_amount
    part_same k low high =
        let filed = fare_is_filed tariff trip parts before k low high in
        let there : fare_of (relax term tariff) parts k ≡ Some filed.0 = fare_at_same term tariff (part_at parts k).fare ∙ filed.1 in
        let back = is_back_in_same term tariff trip parts (own parts (unit_of parts k)) k in
        let used = applicable (relax term tariff) trip (start_of trip parts k) (end_of parts k) (is_back (relax term tariff) trip parts k) filed.0 (part_may_be_used (relax term tariff) trip parts after k low high filed.0 there) in
        let used_before = applicable tariff trip (start_of trip parts k) (end_of parts k) (is_back tariff trip parts k) filed.0 (part_may_be_used tariff trip parts before k low high filed.0 filed.1) in
        rw back (number_same (start_of trip parts k) (end_of parts k) (part_at parts k).fare (is_back tariff trip parts k) filed.0 filed.1 (rw back at used) used_before)

    costs_same : (unit : ℕ)
        → Alike (part_cost (relax term tariff) trip parts (own parts unit)) (part_cost tariff trip parts (own parts unit)) (own parts unit)
    unfolding own
    costs_same unit =
        all_kept (is_own parts unit) (part_cost (relax term tariff) trip parts (own parts unit)) (part_cost tariff trip parts (own parts unit)) 1 (length parts + 1 - 1)
        (λ k low high mine. ap hundredths_of (subst (λ u. part_amount (relax term tariff) trip parts (own parts u) k ≡ part_amount tariff trip parts (own parts u) k) (eqb-true (unit_of parts k) unit mine) (part_same k low (omega arith))))

    sum_same : (unit : ℕ) → unit_sum (relax term tariff) trip parts (own parts unit) ≡ unit_sum tariff trip parts (own parts unit)
    unfolding unit_sum
    sum_same unit =
        fold_same (part_cost (relax term tariff) trip parts (own parts unit)) (part_cost tariff trip parts (own parts unit)) (own parts unit) 0 (costs_same unit)

    round_trip_same : (unit : ℕ)
        → is_round_trip (relax term tariff) trip parts (own parts unit) ≡ is_round_trip tariff trip parts (own parts unit)
    unfolding is_round_trip
    round_trip_same unit =
        rw (two_same (part_cost (relax term tariff) trip parts (own parts unit)) (part_cost tariff trip parts (own parts unit)) (own parts unit) (costs_same unit))

    kind_same : (unit : ℕ) → unit_kind (relax term tariff) trip parts (own parts unit) ≡ unit_kind tariff trip parts (own parts unit)
    unfolding unit_kind
    kind_same unit =
        rw (holds_ow_same term tariff parts (own parts unit), is_open_jaw_same term tariff trip parts (own parts unit), round_trip_same unit)

    backhaul_function : (a b : ℕ) → backhaul (relax term tariff) trip a b ≡ backhaul tariff trip a b
    backhaul_function a b = fun_ext (backhaul_same term tariff trip a b)

    minimum_same : (mine : List ℕ) (kind : UnitKind)
        → unit_minimum (relax term tariff) trip parts mine kind ≡ unit_minimum tariff trip parts mine kind
    unfolding unit_minimum
    minimum_same mine OW =
        rw (backhaul_function (start_of trip parts (first_of mine)) (end_of parts (first_of mine)), fare_at_same term tariff (part_at parts (first_of mine)).fare)
    minimum_same mine RT = refl
    minimum_same mine CT = unit_circle_minimum_same term tariff trip parts mine
    minimum_same mine OJ = refl

    unit_price_same : (unit : ℕ) → unit_price (relax term tariff) trip parts unit ≡ unit_price tariff trip parts unit
    unfolding unit_sheet
    unit_price_same unit =
        rw (kind_same unit, sum_same unit, minimum_same (own parts unit) (unit_kind tariff trip parts (own parts unit)))

    price_same : price (relax term tariff) trip parts ≡ price tariff trip parts
    unfolding price
    price_same = ap (λ f. sum_by f (units parts)) (fun_ext unit_price_same)

  pub lawful_same : (parts : List Part) (before after : ℕ) → IsLawful tariff trip parts before
      → IsLawful (relax term tariff) trip parts after → before ≡ after
  lawful_same parts before after h k =
      sym (price_of_lawful tariff trip parts before h)
      ∙ sym (price_same parts (kept (relax term tariff) trip parts after k) (kept tariff trip parts before h))
      ∙ price_of_lawful (relax term tariff) trip parts after k

  -- Keeps: what is lawful in the edition is lawful in the relaxed one, and by that costs the same
  pub lawful_stays : (parts : List Part) (cost : ℕ) → HasRulesInRange tariff → IsLawful tariff trip parts cost
      → IsLawful (relax term tariff) trip parts cost
  lawful_stays parts cost range h =
      let after = unbroken_stays term tariff trip parts range (unbroken tariff trip parts cost h) in
      let lawful : IsLawful (relax term tariff) trip parts (price (relax term tariff) trip parts) = priced (relax term tariff) trip parts after in
      subst (λ p. IsLawful (relax term tariff) trip parts p) (sym (lawful_same parts cost (price (relax term tariff) trip parts) h lawful)) lawful
