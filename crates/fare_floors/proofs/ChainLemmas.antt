-- Whether the parts of a unit are chained, place by place.
use Rattle.std.proofs.Common.{◌≡◌, ℕ, zero, suc, ◌+◌, ◌<◌, ◌≤◌, Bool, true, false, List, [], ◌∷◌, ◌++◌, refl, ap, ◌∙◌, arith}
use Rattle.std.specs.Prelude.{filter}
use Rattle.std.proofs.lemmas.Bool.{and_parts}
use Rattle.fare_trip.specs.Itinerary.{Itinerary}
use Rattle.fare_rules.specs.declared.part.Part.{Part}
use Rattle.fare_rules.specs.Construction.{is_own, unit_of}
use Rattle.fare_rules.specs.Numbers.{numbers}
use Rattle.fare_rules.specs.Shape.{follows, is_chained}
use Rattle.fare_floors.proofs.ShutLemmas.{both_true}
use Rattle.fare_floors.proofs.StackRowLemmas.{own_here, own_over, own_done}

-- some places behind another one, where there is such a one
abbrev pub behind_one : ℕ → List ℕ → List ℕ
behind_one zero xs = xs
behind_one (suc k) xs = suc k ∷ xs

-- the places of a unit from one on are chained, behind an earlier one
abbrev pub chain_from : Itinerary → List Part → ℕ → ℕ → ℕ → ℕ → Bool
chain_from trip parts unit before k past =
    is_chained trip parts (behind_one before (filter (is_own parts unit) (numbers k past)))

behind_place : (k : ℕ) (xs : List ℕ) → 1 ≤ k → k ∷ xs ≡ behind_one k xs
behind_place zero xs low = absurd (omega arith)
behind_place (suc k) xs low = refl

module _ (trip : Itinerary) (parts : List Part) where
  joins : (before k : ℕ) (xs : List ℕ) → 1 ≤ before → 1 ≤ k → follows trip parts before k ≡ true → is_chained trip parts (behind_one before (k ∷ xs)) ≡ is_chained trip parts (behind_one k xs)
  joins zero k xs some low joined = absurd (omega arith)
  joins (suc before) k xs some low joined = (rw joined refl) ∙ ap (is_chained trip parts) (behind_place k xs low)

  breaks : (before k : ℕ) (xs : List ℕ) → 1 ≤ before → follows trip parts before k ≡ false → is_chained trip parts (behind_one before (k ∷ xs)) ≡ false
  breaks zero k xs some apart = absurd (omega arith)
  breaks (suc before) k xs some apart = rw apart refl

  alone : (before : ℕ) → is_chained trip parts (behind_one before []) ≡ true
  alone zero = refl
  alone (suc before) = refl

  module _ (unit before k past : ℕ) where
    pub chain_over : k < past → (unit_of parts k ≡ unit → ⊥) → chain_from trip parts unit before k past ≡ chain_from trip parts unit before (k + 1) past
    chain_over h other = ap (λ xs. is_chained trip parts (behind_one before xs)) (own_over parts unit k past h other)

    pub chain_begins : k < past → unit_of parts k ≡ unit → 1 ≤ k → before ≡ 0 → chain_from trip parts unit before k past ≡ chain_from trip parts unit k (k + 1) past
    chain_begins h mine low none =
        ap (λ b. chain_from trip parts unit b k past) none ∙ ap (is_chained trip parts) (own_here parts unit k past h mine ∙ behind_place k (filter (is_own parts unit) (numbers (k + 1) past)) low)

    pub chain_joins : k < past → unit_of parts k ≡ unit → 1 ≤ k → 1 ≤ before → follows trip parts before k ≡ true → chain_from trip parts unit before k past ≡ chain_from trip parts unit k (k + 1) past
    chain_joins h mine low some joined =
        ap (λ xs. is_chained trip parts (behind_one before xs)) (own_here parts unit k past h mine) ∙ joins before k (filter (is_own parts unit) (numbers (k + 1) past)) some low joined

    pub chain_breaks : k < past → unit_of parts k ≡ unit → 1 ≤ before → follows trip parts before k ≡ false → chain_from trip parts unit before k past ≡ false
    chain_breaks h mine some apart =
        ap (λ xs. is_chained trip parts (behind_one before xs)) (own_here parts unit k past h mine) ∙ breaks before k (filter (is_own parts unit) (numbers (k + 1) past)) some apart

    pub chain_done : past ≤ k → chain_from trip parts unit before k past ≡ true
    chain_done h = ap (λ xs. is_chained trip parts (behind_one before xs)) (own_done parts unit k past h) ∙ alone before

  -- the first of what is chained are chained
  pub chained_front : (xs ys : List ℕ) → is_chained trip parts (xs ++ ys) ≡ true → is_chained trip parts xs ≡ true
  chained_front [] ys h = refl
  chained_front (k ∷ []) ys h = refl
  chained_front (k ∷ next ∷ rest) ys h =
      let both = and_parts (follows trip parts k next) (is_chained trip parts ((next ∷ rest) ++ ys)) h in
      both_true (follows trip parts k next) (is_chained trip parts (next ∷ rest)) both.0 (chained_front (next ∷ rest) ys both.1)
