-- Whether the rules of a unit's parts allow a stay, part by part; and that the stay of a unit of first parts is in a
-- whole construction what it is among them.
use Rattle.std.proofs.Common.{◌≡◌, ℕ, zero, suc, ◌+◌, ◌<◌, ◌≤◌, Bool, true, false, not, List, [], ◌∷◌, ◌++◌, length, refl, ap, ◌∙◌, inl, arith}
use Rattle.std.specs.Prelude.{filter}
use Rattle.std.specs.List.{list_any}
use Rattle.fare_trip.specs.Itinerary.{Itinerary, count}
use Rattle.fare_tariff.specs.Tariff.{Tariff}
use Rattle.fare_rules.specs.declared.part.Part.{Part}
use Rattle.fare_rules.specs.Construction.{end_of, is_own, last_of, start_of, unit_of}
use Rattle.fare_rules.specs.Numbers.{numbers}
use Rattle.fare_rules.specs.UnitRules.{stay, allows_stay_of, forbids_stay}
use Rattle.fare_lawful.specs.Advance.{Advances}
use Rattle.fare_units.proofs.NextLemmas.{front_start}
use Rattle.fare_floors.specs.Stays.{is_outside}
use Rattle.fare_floors.proofs.SameLemmas.{AreFirst, any_eq, fare_same, last_member}
use Rattle.fare_floors.proofs.StackRowLemmas.{own_here, own_over, own_done}

-- a part begins within the trip
pub begins_inside : (trip : Itinerary) (parts : List Part) (k : ℕ) → Advances trip parts → 1 ≤ count trip → k ≤ length parts → start_of trip parts k < count trip
begins_inside trip parts zero advances some within = omega arith
begins_inside trip parts (suc k) advances some within =
    let rises : start_of trip parts (suc k) < end_of parts (suc k) = advances.rises (suc k) (omega arith) within in
    let ends : end_of parts (suc k) ≤ count trip = advances.ends (suc k) in
    omega arith

-- whether the rule of some part of a unit, of those from a place on, does not allow a stay
abbrev pub forbids_from : Tariff → List Part → ℕ → ℕ → ℕ → ℕ → Bool
forbids_from tariff parts unit days k past = list_any (forbids_stay tariff parts days) (filter (is_own parts unit) (numbers k past))

module _ (tariff : Tariff) (parts : List Part) (unit days k past : ℕ) where
  pub forbids_over : k < past → (unit_of parts k ≡ unit → ⊥) → forbids_from tariff parts unit days k past ≡ forbids_from tariff parts unit days (k + 1) past
  forbids_over h other = ap (list_any (forbids_stay tariff parts days)) (own_over parts unit k past h other)

  pub forbids_here : k < past → unit_of parts k ≡ unit → forbids_stay tariff parts days k ≡ true → forbids_from tariff parts unit days k past ≡ true
  forbids_here h mine t = ap (list_any (forbids_stay tariff parts days)) (own_here parts unit k past h mine) ∙ (rw t refl)

  pub forbids_next : k < past → unit_of parts k ≡ unit → forbids_stay tariff parts days k ≡ false → forbids_from tariff parts unit days k past ≡ forbids_from tariff parts unit days (k + 1) past
  forbids_next h mine f = ap (list_any (forbids_stay tariff parts days)) (own_here parts unit k past h mine) ∙ (rw f refl)

  pub forbids_done : past ≤ k → forbids_from tariff parts unit days k past ≡ false
  forbids_done h = ap (list_any (forbids_stay tariff parts days)) (own_done parts unit k past h)

module _ (tariff : Tariff) (trip : Itinerary) (front rest : List Part) where
  -- a unit of the front stays as long in the whole
  stay_same : (x : ℕ) (xs : List ℕ) → AreFirst tariff trip front rest (x ∷ xs) → stay trip (front ++ rest) (x ∷ xs) ≡ stay trip front (x ∷ xs)
  unfolding stay
  stay_same x xs first =
      let a = first x (inl refl) in
      let z = first (last_of (x ∷ xs)) (last_member x xs) in
      rw (front_start trip front rest (last_of (x ∷ xs)) z.0 z.1, front_start trip front rest x a.0 a.1) refl

  -- so it is outside a rule in the whole exactly where it is in the front
  pub outside_same : (xs : List ℕ) → AreFirst tariff trip front rest xs → is_outside tariff trip (front ++ rest) xs ≡ is_outside tariff trip front xs
  outside_same [] first = refl
  outside_same (x ∷ xs) first =
      let days : ℕ = stay trip front (x ∷ xs) in
      let stays : list_any (forbids_stay tariff (front ++ rest) (stay trip (front ++ rest) (x ∷ xs))) (x ∷ xs) ≡ list_any (forbids_stay tariff (front ++ rest) days) (x ∷ xs) =
      ap (λ (d : ℕ). list_any (forbids_stay tariff (front ++ rest) d) (x ∷ xs)) (stay_same x xs first) in
      let forbids : list_any (forbids_stay tariff (front ++ rest) days) (x ∷ xs) ≡ list_any (forbids_stay tariff front days) (x ∷ xs) =
      any_eq (forbids_stay tariff (front ++ rest) days) (forbids_stay tariff front days) (x ∷ xs)
      (λ k m. ap (λ fare. not (allows_stay_of tariff days fare)) (fare_same tariff trip front rest k (first k m).0 (first k m).1)) in
      stays ∙ forbids
