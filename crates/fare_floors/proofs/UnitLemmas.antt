-- The units of a lawful construction: where they end, and which of them have a one way fare.
use Rattle.std.proofs.Common.{◌≡◌, ℕ, zero, suc, ◌+◌, ◌-◌, ◌<◌, ◌≤◌, Bool, true, false, List, [], ◌∷◌, length, refl, sym, subst, ◌∙◌, inl, inr, arith}
use Rattle.std.specs.Prelude.{Some, None, filter}
use Rattle.std.specs.List.{range_with_len}
use Rattle.std.proofs.lemmas.Bool.{cases_Bool, cases_lt, eq-eqb, ltb-false}
use Rattle.fare_trip.specs.Itinerary.{Itinerary}
use Rattle.fare_tariff.specs.Record.{FareRecord}
use Rattle.fare_tariff.specs.Tariff.{Tariff}
use Rattle.fare_tariff.specs.Lookup.{fare_at}
use Rattle.fare_rules.specs.declared.part.Part.{Part}
use Rattle.fare_rules.specs.Construction.{places, own, is_own, unit_of, greatest_unit}
use Rattle.fare_rules.specs.ComponentAmount.{is_half_round_trip}
use Rattle.fare_rules.specs.Shape.{is_ow, holds_ow, is_mixed, mixed}
use Rattle.fare_rules.specs.UnitPrice.{one_way_price}
use Rattle.fare_rules.specs.Best.{IsLawful}
use Rattle.fare_rules.proofs.NumberLemmas.{find_none}
use Rattle.fare_rules.proofs.CoverLemmas.{IsCover, cover}
use Rattle.fare_rules.proofs.LawfulLemmas.{kept}
use Rattle.fare_rules.proofs.MemberLemmas.{Member}
use Rattle.fare_component.specs.Table.{single_price}
use Rattle.fare_floors.proofs.CostLemmas.{lone, unit_from_one}
use Rattle.fare_floors.proofs.SumLemmas.{unit_up_to}

true_false : true ≡ false → ⊥
true_false e = cc

pub member_kept : (p : ℕ → Bool) (xs : List ℕ) (k : ℕ) → Member k xs → p k ≡ true → Member k (filter p xs)
member_kept p [] k m e = absurd m
member_kept p (x ∷ xs) k (inl same) e =
    let P : ℕ → Type 0 = λ j. p j ≡ true in
    let here : p x ≡ true = subst P same e in
    rw here (inl same)
member_kept p (x ∷ xs) k (inr m) e =
    elim (cases_Bool (p x)) [
      | inl t ↦ rw t (inr (member_kept p xs k m e))
      | inr f ↦ rw f (member_kept p xs k m e)
    ]

pub range_has : (first n k : ℕ) → first ≤ k → k < first + n → Member k (range_with_len first n)
range_has first zero k low high = absurd (omega arith)
range_has first (suc n) k low high =
    elim (cases_lt first k) [
      | inl less ↦ inr (range_has (first + 1) n k (omega arith) (omega arith))
      | inr same ↦ inl (omega arith)
    ]

module _ (tariff : Tariff) (trip : Itinerary) (a b number : ℕ) (fare : FareRecord) (filed : fare_at tariff number ≡ Some fare) where
  -- a one way fare has a price as a unit
  pub single_there : (price : ℕ) → is_half_round_trip fare ≡ false → one_way_price tariff trip a b number ≡ Some price → single_price tariff trip a b number ≡ Some price
  single_there price h e = rw (filed, h, e) refl

  -- and a half round trip has none
  pub single_not : is_half_round_trip fare ≡ true → single_price tariff trip a b number ≡ None
  single_not h = rw (filed, h) refl

module _ (tariff : Tariff) (trip : Itinerary) (parts : List Part) (price : ℕ) (lawful : IsLawful tariff trip parts price) where
  pub all : IsCover trip parts
  all = cover trip parts (kept tariff trip parts price lawful).cover

  pub own_has : (k : ℕ) → 1 ≤ k → k ≤ length parts → Member k (own parts (unit_of parts k))
  unfolding own
  own_has k low high =
      member_kept (is_own parts (unit_of parts k)) (range_with_len 1 (length parts + 1 - 1)) k (range_has 1 (length parts + 1 - 1) k low (omega arith)) (eq-eqb (unit_of parts k) (unit_of parts k) refl)

  pub unit_in : (k : ℕ) → 1 ≤ k → k ≤ length parts → unit_of parts k ≤ greatest_unit parts (places parts)
  unit_in k low high = unit_up_to parts 1 (length parts + 1 - 1) k low (omega arith)

  -- a unit with a one way fare has just that part
  pub alone_in : (unit : ℕ) → 1 ≤ unit → unit ≤ greatest_unit parts (places parts) → holds_ow tariff parts (own parts unit) ≡ true → (k : ℕ) × (own parts unit ≡ k ∷ []) × (is_ow tariff parts k ≡ true)
  unfolding mixed
  alone_in unit low high way =
      let fails = find_none (is_mixed tariff parts) 1 (greatest_unit parts (places parts) + 1) (kept tariff trip parts price lawful).alone unit low (omega arith) in
      let few : length (own parts unit) ≤ 1 = ltb-false 1 (length (own parts unit)) (rw way at fails) in
      lone (is_ow tariff parts) (own parts unit) way few

  -- the unit of a half round trip holds no one way fare
  pub holds_none : (k : ℕ) → 1 ≤ k → k ≤ length parts → is_ow tariff parts k ≡ false → holds_ow tariff parts (own parts (unit_of parts k)) ≡ false
  holds_none k low high way =
      elim (cases_Bool (holds_ow tariff parts (own parts (unit_of parts k)))) [
        | inl t ↦
            let one = alone_in (unit_of parts k) (unit_from_one tariff trip parts price lawful k low high) (unit_in k low high) t in
            let P : List ℕ → Type 0 = λ ys. Member k ys in
            let m : Member k (one.0 ∷ []) = subst P one.1 (own_has k low high) in
            absurd (other one.0 one.2 m)
        | inr f ↦ f
      ]
    where
      other : (j : ℕ) → is_ow tariff parts j ≡ true → Member k (j ∷ []) → ⊥
      other j t (inl same) = let P : ℕ → Type 0 = λ i. is_ow tariff parts i ≡ true in true_false (sym (subst P (sym same) t) ∙ way)
      other j t (inr m) = absurd m
