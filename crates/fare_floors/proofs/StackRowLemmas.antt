-- The rows of numbers behind the points, over one open unit, from point to point.
use Rattle.std.proofs.Common.{◌≡◌, ℕ, ◌+◌, ◌-◌, ◌<◌, ◌≤◌, Bool, true, false, List, [], ◌∷◌, length, set, refl, ap, sym, subst, ◌∙◌, inl, inr, arith}
use Rattle.std.specs.Prelude.{Option, filter}
use Rattle.std.proofs.lemmas.Bool.{cases_eq, eq-eqb, ne_eqb}
use Rattle.fare_trip.specs.Itinerary.{Itinerary, count}
use Rattle.fare_rules.specs.declared.part.Part.{Part}
use Rattle.fare_rules.specs.Construction.{own, is_own, first_of, start_of, end_of, unit_of}
use Rattle.fare_rules.specs.Numbers.{numbers}
use Rattle.fare_rules.proofs.MemberLemmas.{Member}
use Rattle.fare_rules.proofs.NumberLemmas.{numbers_next, numbers_none}
use Rattle.fare_lawful.specs.Advance.{Advances}
use Rattle.fare_bounds.specs.Covers.{lesser, rest_at}
use Rattle.fare_homing.specs.declared.homing.Homing.{Homing}
use Rattle.fare_homing.specs.Homing.{closing_by, homing_at}
use Rattle.fare_homing.specs.Rows.{begun_from, closing_from, jaw_from}
use Rattle.fare_floors.specs.Stack.{IsUnderSum, IsUntilHome, IsOverOpen}
use Rattle.fare_legs.proofs.ReachLemmas.{up_first, up_second, row_more}
use Rattle.fare_floors.proofs.SumLemmas.{kept_member}

true_false : true ≡ false → ⊥
true_false e = cc

-- the places of a unit, one place after the other
pub own_here : (parts : List Part) (unit k past : ℕ) → k < past → unit_of parts k ≡ unit → filter (is_own parts unit) (numbers k past) ≡ k ∷ filter (is_own parts unit) (numbers (k + 1) past)
own_here parts unit k past h mine =
    let here : is_own parts unit k ≡ true = eq-eqb (unit_of parts k) unit mine in
    ap (filter (is_own parts unit)) (numbers_next k past h) ∙ (rw here refl)

pub own_over : (parts : List Part) (unit k past : ℕ) → k < past → (unit_of parts k ≡ unit → ⊥) → filter (is_own parts unit) (numbers k past) ≡ filter (is_own parts unit) (numbers (k + 1) past)
own_over parts unit k past h other =
    let here : is_own parts unit k ≡ false = ne_eqb (unit_of parts k) unit other in
    ap (filter (is_own parts unit)) (numbers_next k past h) ∙ (rw here refl)

pub own_done : (parts : List Part) (unit k past : ℕ) → past ≤ k → filter (is_own parts unit) (numbers k past) ≡ []
own_done parts unit k past h = ap (filter (is_own parts unit)) (numbers_none k past h)

-- a unit begins within the trip
first_within : (trip : Itinerary) (parts : List Part) → Advances trip parts → (xs : List ℕ) → ((k : ℕ) → Member k xs → (1 ≤ k) × (k ≤ length parts)) → start_of trip parts (first_of xs) ≤ count trip
first_within trip parts advances [] places = omega arith
first_within trip parts advances (x ∷ xs) places =
    let place = places x (inl refl) in
    let rises : start_of trip parts x < end_of parts x = advances.rises x place.0 place.1 in
    let within : end_of parts x ≤ count trip = advances.ends x in
    omega arith

pub begins_within : (trip : Itinerary) (parts : List Part) (unit : ℕ) → Advances trip parts → start_of trip parts (first_of (own parts unit)) ≤ count trip
unfolding own
begins_within trip parts unit advances =
    first_within trip parts advances (filter (is_own parts unit) (numbers 1 (length parts + 1)))
    (λ k m.
    let h = kept_member (is_own parts unit) 1 (length parts + 1 - 1) k m in
    let past : k < 1 + (length parts + 1 - 1) = h.1 in
    (h.0, omega arith))

-- a number is put into a row whose numbers before it are as they should be
pub row_put : (P : ℕ → Option ℕ → Type 0) (row : List (Option ℕ)) (from past : ℕ) (least : Option ℕ) → past < length row → ((i : ℕ) → from ≤ i → i < past → P i (rest_at row i)) → P past least
    → (i : ℕ) → from ≤ i → i < past + 1 → P i (rest_at (set row past least) i)
row_put P row from past least within known here i low high =
    let Q : ℕ → Option ℕ → Type 0 = λ j number. from ≤ j → P j number in
    row_more Q row past least within (λ j below first. known j first below) (λ first. here) i high low

-- and one that need not be put there is left out
pub row_over : (P : ℕ → Option ℕ → Type 0) (row : List (Option ℕ)) (from past : ℕ) → ((i : ℕ) → from ≤ i → i < past → P i (rest_at row i)) → P past (rest_at row past)
    → (i : ℕ) → from ≤ i → i < past + 1 → P i (rest_at row i)
row_over P row from past known here i low high =
    elim (cases_eq i past) [
      | inl same ↦ let Q : ℕ → Type 0 = λ j. P j (rest_at row j) in subst Q (sym same) here
      | inr other ↦ known i low (omega arith)
    ]

module _ (trip : Itinerary) (homing : Homing) (from : ℕ) (closes : Bool) (stand start i : ℕ) (homes : List (Option ℕ)) where
  -- what is behind the point until the unit comes home
  abbrev Until : ℕ → Option ℕ
  Until home = homing_at trip (closing_by closes (begun_from homing) (closing_from homing) stand) (jaw_from homing stand) start i home

  -- a number is under what is behind the point until a unit comes home before another
  abbrev pub IsUntilBefore : ℕ → Option ℕ → Type 0
  IsUntilBefore past least = (home : ℕ) → from ≤ home → home < past → IsUnderSum (Until home) (rest_at homes home) least

  pub until_next : (past : ℕ) (least here : Option ℕ) → IsUntilBefore past least → IsUnderSum (Until past) (rest_at homes past) here → IsUntilBefore (past + 1) (lesser least here)
  until_next past least here known under home low high =
      elim (cases_eq home past) [
        | inl same ↦
            let P : ℕ → Type 0 = λ j. IsUnderSum (Until j) (rest_at homes j) (lesser least here) in
            subst P (sym same) (λ x y a b. up_second least here (x + y) (under x y a b))
        | inr other ↦ λ x y a b. up_first least here (x + y) (known home low (omega arith) x y a b)
      ]

  pub over_must : (must : Bool) (behind least : Option ℕ) → must ≡ true → IsUntilHome trip homing from closes stand start i homes least → IsOverOpen trip homing from closes stand start must i homes behind least
  over_must must behind least t until = record { home = until; whole = λ f cost up. absurd (true_false (sym t ∙ f)) }

  pub over_free : (must : Bool) (behind least : Option ℕ) → IsUntilHome trip homing from closes stand start i homes least → IsOverOpen trip homing from closes stand start must i homes behind (lesser least behind)
  over_free must behind least until = record {
    home = λ home low high x y a b. up_first least behind (x + y) (until home low high x y a b);
    whole = λ f cost up. up_second least behind cost up;
  }
