-- Where a unit of half round trips ends in a lawful construction.
use Rattle.std.proofs.Common.{◌≡◌, ℕ, ◌≤◌, ◌⊎◌, true, false, not, List, [], ◌∷◌, ◌++◌, sym, inl, inr}
use Rattle.std.specs.Prelude.{bytes_eq}
use Rattle.std.proofs.lemmas.Bool.{cases_Bool}
use Rattle.fare_trip.specs.Itinerary.{Itinerary}
use Rattle.fare_tariff.specs.Tariff.{Tariff}
use Rattle.fare_rules.specs.declared.part.Part.{Part}
use Rattle.fare_rules.specs.Construction.{places, own, last_of, greatest_unit, start_city, end_city}
use Rattle.fare_rules.specs.Shape.{holds_ow, is_jaw, comes_home, lie_together}
use Rattle.fare_rules.specs.Best.{IsLawful}
use Rattle.fare_floors.proofs.OnwardLemmas.{jaw_either, must_close_from, closed_whole, ends_home}

true_false : true ≡ false → ⊥
true_false e = cc

module _ (tariff : Tariff) (trip : Itinerary) (front rest : List Part) (price : ℕ) (lawful : IsLawful tariff trip (front ++ rest) price) where
  -- a unit of half round trips ends in the city where it begins, or in its country
  abbrev pub EndsBy : ℕ → ℕ → Type 0
  EndsBy x last =
      (bytes_eq (end_city trip (front ++ rest) last) (start_city trip (front ++ rest) x) ≡ true)
      ⊎ (lie_together tariff (end_city trip (front ++ rest) last) (start_city trip (front ++ rest) x) ≡ true)

  jaw_ends : (x : ℕ) (xs : List ℕ) → is_jaw tariff trip (front ++ rest) (x ∷ xs) ≡ true → EndsBy x (last_of (x ∷ xs))
  jaw_ends x [] h = absurd (true_false (sym h))
  jaw_ends x (k ∷ []) h =
      jaw_either (not (bytes_eq (end_city trip (front ++ rest) x) (start_city trip (front ++ rest) k))) (lie_together tariff (end_city trip (front ++ rest) x) (start_city trip (front ++ rest) k)) (bytes_eq (end_city trip (front ++ rest) k) (start_city trip (front ++ rest) x))
      (not (bytes_eq (end_city trip (front ++ rest) k) (start_city trip (front ++ rest) x))) (lie_together tariff (end_city trip (front ++ rest) k) (start_city trip (front ++ rest) x)) (bytes_eq (end_city trip (front ++ rest) x) (start_city trip (front ++ rest) k)) h
  jaw_ends x (y ∷ z ∷ zs) h = absurd (true_false (sym h))

  pub unit_ends_by : (unit : ℕ) → 1 ≤ unit → unit ≤ greatest_unit (front ++ rest) (places (front ++ rest)) → (x : ℕ) (xs : List ℕ) → own (front ++ rest) unit ≡ x ∷ xs → holds_ow tariff (front ++ rest) (x ∷ xs) ≡ false → EndsBy x (last_of (x ∷ xs))
  unit_ends_by unit low high x xs e none =
      elim (cases_Bool (is_jaw tariff trip (front ++ rest) (x ∷ xs))) [
        | inl t ↦ jaw_ends x xs t
        | inr f ↦
            let close = closed_whole tariff trip front rest price lawful unit low high (x ∷ xs) e (must_close_from tariff trip (front ++ rest) (x ∷ xs) none f) in
            let home : comes_home trip (front ++ rest) (x ∷ xs) ≡ true = ends_home trip (front ++ rest) (x ∷ xs) close.1 in
            inl home
      ]
