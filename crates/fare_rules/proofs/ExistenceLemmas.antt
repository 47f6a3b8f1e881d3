-- The constructions that can be lawful for a trip are finitely many, so one of them is best or none is lawful.
use Rattle.std.proofs.Common.{◌≡◌, ℕ, zero, suc, ◌+◌, ◌-◌, ◌<◌, ◌≤◌, ◌⊎◌, true, false, eqb, ltb, List, [], ◌∷◌, ◌++◌, map, length, refl, ap, sym, subst, ◌∙◌, inl, inr, arith}
use Rattle.std.specs.Prelude.{Option, Some, None, Result, Ok, Err, flat_map, max, slice_index_or}
use Rattle.std.specs.List.{range_with_len}
use Rattle.std.proofs.lemmas.Bool.{cases_Bool, both_ways, ltb-false, eqb-false}
use Rattle.fare_trip.specs.Itinerary.{Itinerary, count}
use Rattle.fare_tariff.specs.Tariff.{Tariff}
use Rattle.fare_rules.specs.declared.broken.Broken.{Broken}
use Rattle.fare_rules.specs.declared.part.Part.{Part}
use Rattle.fare_rules.specs.Numbers.{numbers}
use Rattle.fare_rules.specs.Construction.{part_at, no_part, unit_of, end_of, start_of, greatest_unit, misnumbered, is_misnumbered}
use Rattle.fare_rules.specs.Completion.{record_numbers}
use Rattle.fare_rules.specs.Lawful.{lawful_price}
use Rattle.fare_rules.specs.Order.{is_before}
use Rattle.fare_rules.specs.Best.{IsLawful, IsBestAnswer}
use Rattle.fare_rules.proofs.NumberLemmas.{find_none, range_more}
use Rattle.fare_rules.proofs.MemberLemmas.{Member, member_map, member_flat_map, member_numbers}
use Rattle.fare_rules.proofs.CoverLemmas.{cover, both_false}
use Rattle.fare_rules.proofs.LawfulLemmas.{kept}
use Rattle.fare_rules.proofs.AmountLemmas.{fare_is_filed}
use Rattle.fare_rules.proofs.ReferenceLemmas.{number_of_record}
use Rattle.fare_rules.proofs.TotalLemmas.{parts_up_to}
use Rattle.fare_rules.proofs.BestLemmas.{irreflexive, transitive}

-- a part by its end, its unit and its fare
abbrev part_of : ℕ → ℕ → ℕ → Part
part_of end unit fare = record { end = end; unit = unit; fare = fare }

-- the parts with an end and a unit, with each record of an edition
abbrev parts_with : Tariff → ℕ → ℕ → List Part
parts_with tariff end unit = map (part_of end unit) (record_numbers tariff)

-- the parts with an end
abbrev parts_to : Tariff → Itinerary → ℕ → List Part
parts_to tariff trip end = flat_map (parts_with tariff end) (numbers 1 (count trip + 1))

-- the parts that a lawful construction can have
abbrev possible_parts : Tariff → Itinerary → List Part
possible_parts tariff trip = flat_map (parts_to tariff trip) (numbers 1 (count trip + 1))

-- the lists of some members, up to a length
abbrev in_front : List Part → Part → List Part
in_front rest one = one ∷ rest

abbrev each_in_front : List Part → List Part → List (List Part)
each_in_front members rest = map (in_front rest) members

abbrev lists_of : List Part → ℕ → List (List Part)
lists_of members zero = [] ∷ []
lists_of members (suc n) = [] ∷ flat_map (each_in_front members) (lists_of members n)

possible_part : (tariff : Tariff) (trip : Itinerary) (one : Part) → 1 ≤ one.end → one.end ≤ count trip → 1 ≤ one.unit
    → one.unit ≤ count trip → 2 ≤ one.fare → one.fare < length tariff.records + 2
    → Member one (possible_parts tariff trip)
possible_part tariff trip one e1 e2 u1 u2 f1 f2 =
    let fares : Member one.fare (record_numbers tariff) = member_numbers 2 (length tariff.records + 2) one.fare f1 f2 in
    let with : Member one (parts_with tariff one.end one.unit) = member_map (part_of one.end one.unit) one.fare (record_numbers tariff) fares in
    let unit : Member one.unit (numbers 1 (count trip + 1)) = member_numbers 1 (count trip + 1) one.unit u1 (omega arith) in
    let to : Member one (parts_to tariff trip one.end) = member_flat_map (parts_with tariff one.end) one.unit one (numbers 1 (count trip + 1)) unit with in
    let end : Member one.end (numbers 1 (count trip + 1)) = member_numbers 1 (count trip + 1) one.end e1 (omega arith) in
    member_flat_map (parts_to tariff trip) one.end one (numbers 1 (count trip + 1)) end to

-- a list of members up to a length is one of their lists
member_list : (members : List Part) (n : ℕ) (parts : List Part) → length parts ≤ n
    → ((k : ℕ) → k < length parts → Member (slice_index_or parts k no_part) members) → Member parts (lists_of members n)
member_list members zero [] h each = inl refl
member_list members zero (one ∷ rest) h each = absurd (omega arith)
member_list members (suc n) [] h each = inl refl
member_list members (suc n) (one ∷ rest) h each =
    let first : Member one members = each 0 (omega arith) in
    let more : Member rest (lists_of members n) = member_list members n rest (omega arith) (λ k low. each (suc k) (omega arith)) in
    inr (member_flat_map (each_in_front members) rest (one ∷ rest) (lists_of members n) more (member_map (in_front rest) one members first))

-- the unit numbers of the first parts are no greater than their places
greatest_more : (parts : List Part) (xs : List ℕ) (y : ℕ)
    → greatest_unit parts (xs ++ y ∷ []) ≤ max (greatest_unit parts xs) (unit_of parts y)
greatest_more parts [] y = omega arith
greatest_more parts (x ∷ xs) y =
    let more : greatest_unit parts (xs ++ y ∷ []) ≤ max (greatest_unit parts xs) (unit_of parts y) = greatest_more parts xs y in
    omega arith

pub units_numbered : (parts : List Part) → misnumbered parts ≡ None → (k : ℕ) → 1 ≤ k → k ≤ length parts
    → (1 ≤ unit_of parts k) × (unit_of parts k ≤ greatest_unit parts (numbers 1 k) + 1)
unfolding misnumbered
units_numbered parts e k low high =
    let fails = find_none (is_misnumbered parts) 1 (length parts + 1) e k low (omega arith) in
    let both = both_false (eqb (unit_of parts k) 0) (ltb (greatest_unit parts (numbers 1 k) + 1) (unit_of parts k)) fails in
    let some : unit_of parts k ≡ 0 → ⊥ = eqb-false (unit_of parts k) 0 both.0 in
    (omega arith, ltb-false (greatest_unit parts (numbers 1 k) + 1) (unit_of parts k) both.1)

pub greatest_up_to_place : (parts : List Part) → misnumbered parts ≡ None → (n : ℕ) → n ≤ length parts
    → greatest_unit parts (range_with_len 1 n) ≤ n
greatest_up_to_place parts e zero high = omega arith
greatest_up_to_place parts e (suc n) high =
    let before : greatest_unit parts (range_with_len 1 n) ≤ n = greatest_up_to_place parts e n (omega arith) in
    let more : greatest_unit parts (range_with_len 1 n ++ (1 + n) ∷ []) ≤ max (greatest_unit parts (range_with_len 1 n)) (unit_of parts (1 + n)) = greatest_more parts (range_with_len 1 n) (1 + n) in
    let here = (units_numbered parts e (1 + n) (omega arith) (omega arith)).1 in
    let same : (1 + n) - 1 ≡ n = omega arith in
    let unit : unit_of parts (1 + n) ≤ greatest_unit parts (range_with_len 1 n) + 1 = subst (λ m. unit_of parts (1 + n) ≤ greatest_unit parts (range_with_len 1 m) + 1) same here in
    let all : greatest_unit parts (range_with_len 1 (suc n)) ≡ greatest_unit parts (range_with_len 1 n ++ (1 + n) ∷ []) = ap (greatest_unit parts) (range_more 1 n) in
    omega arith

pub unit_up_to_place : (parts : List Part) → misnumbered parts ≡ None → (k : ℕ) → 1 ≤ k → k ≤ length parts
    → unit_of parts k ≤ k
unit_up_to_place parts e k low high =
    let numbered : unit_of parts k ≤ greatest_unit parts (numbers 1 k) + 1 = (units_numbered parts e k low high).1 in
    let before : greatest_unit parts (numbers 1 k) ≤ k - 1 = greatest_up_to_place parts e (k - 1) (omega arith) in
    omega arith

-- each lawful construction is one of the lists
lawful_is_possible : (tariff : Tariff) (trip : Itinerary) (parts : List Part) (cost : ℕ)
    → IsLawful tariff trip parts cost → Member parts (lists_of (possible_parts tariff trip) (count trip))
lawful_is_possible tariff trip parts cost lawful =
    let holds = kept tariff trip parts cost lawful in
    let covers = cover trip parts holds.cover in
    let few : length parts ≤ count trip = parts_up_to trip parts covers in
    member_list (possible_parts tariff trip) (count trip) parts few (λ k high.
    let above : start_of trip parts (suc k) < end_of parts (suc k) = covers.above (suc k) (omega arith) (omega arith) in
    let within : end_of parts (suc k) ≤ count trip = covers.within (suc k) (omega arith) (omega arith) in
    let unit1 : 1 ≤ unit_of parts (suc k) = (units_numbered parts holds.numbering (suc k) (omega arith) (omega arith)).0 in
    let unit2 : unit_of parts (suc k) ≤ suc k = unit_up_to_place parts holds.numbering (suc k) (omega arith) (omega arith) in
    let filed = fare_is_filed tariff trip parts holds (suc k) (omega arith) (omega arith) in
    let number = number_of_record tariff (part_at parts (suc k)).fare filed.0 filed.1 in
    let same : suc k - 1 ≡ k = omega arith in
    subst (λ j. Member (slice_index_or parts j no_part) (possible_parts tariff trip)) same
    (possible_part tariff trip (part_at parts (suc k)) (omega arith) within unit1 (omega arith) number.0 number.1))

-- of several lists none is lawful, or one is that has no lawful one before it
abbrev LeastOf : Tariff → Itinerary → List (List Part) → Type 0
LeastOf tariff trip lists =
    ((one : List Part) (cost : ℕ) → Member one lists → IsLawful tariff trip one cost → ⊥)
    ⊎ ((best : List Part) × (price : ℕ) × IsLawful tariff trip best price × ((one : List Part) (cost : ℕ) → Member one lists → IsLawful tariff trip one cost → is_before one cost best price ≡ false))

err_ok : (found : Broken) (price : ℕ) → Err found ≡ Ok price → ⊥
err_ok found price e = cc

same_price : (found : Result ℕ Broken) (x y : ℕ) → found ≡ Ok x → found ≡ Ok y → x ≡ y
same_price found x y e f = cc

module _ (tariff : Tariff) (trip : Itinerary) where
  -- a list that is this lawful one is not before it
  itself : (x one : List Part) (price cost : ℕ) → one ≡ x → IsLawful tariff trip x price
      → IsLawful tariff trip one cost → is_before one cost x price ≡ false
  itself x one price cost same lawful other =
      let here : IsLawful tariff trip x cost = subst (λ ps. IsLawful tariff trip ps cost) same other in
      let equal : price ≡ cost = same_price (lawful_price tariff trip x) price cost lawful here in
      subst (λ ps. is_before ps cost x price ≡ false) (sym same) (subst (λ c. is_before x c x price ≡ false) equal (irreflexive x price))

  unlawful : (x one : List Part) (found : Broken) (cost : ℕ) → one ≡ x → lawful_price tariff trip x ≡ Err found
      → IsLawful tariff trip one cost → ⊥
  unlawful x one found cost same broken lawful =
      let here : IsLawful tariff trip x cost = subst (λ ps. IsLawful tariff trip ps cost) same lawful in
      err_ok found cost (sym broken ∙ here)

  not_before_first : (one x best : List Part) (cost price most : ℕ) → is_before x price best most ≡ true
      → is_before one cost best most ≡ false → is_before one cost x price ≡ false
  not_before_first one x best cost price most h k =
      elim (cases_Bool (is_before one cost x price)) [
        | inl t ↦ absurd (both_ways (is_before one cost best most) k (transitive one x best cost price most t h))
        | inr f ↦ f
      ]

  not_before_by : (x one best : List Part) (price cost most : ℕ) → one ≡ x → IsLawful tariff trip x price
      → IsLawful tariff trip one cost → is_before x price best most ≡ false → is_before one cost best most ≡ false
  not_before_by x one best price cost most same lawful other f =
      let here : IsLawful tariff trip x cost = subst (λ ps. IsLawful tariff trip ps cost) same other in
      let equal : price ≡ cost = same_price (lawful_price tariff trip x) price cost lawful here in
      subst (λ ps. is_before ps cost best most ≡ false) (sym same) (subst (λ c. is_before x c best most ≡ false) equal f)

  with_unlawful : (x : List Part) (xs : List (List Part)) (found : Broken) → lawful_price tariff trip x ≡ Err found
      → LeastOf tariff trip xs → LeastOf tariff trip (x ∷ xs)
  with_unlawful x xs found e (inl none) = inl (λ one cost member lawful. elim member [ inl same ↦ unlawful x one found cost same e lawful | inr later ↦ none one cost later lawful ])
  with_unlawful x xs found e (inr (best, price, lawful, first)) =
      inr (best, price, lawful, λ one cost member other. elim member [ inl same ↦ absurd (unlawful x one found cost same e other) | inr later ↦ first one cost later other ])

  with_lawful : (x : List Part) (xs : List (List Part)) (price : ℕ) → IsLawful tariff trip x price
      → LeastOf tariff trip xs → LeastOf tariff trip (x ∷ xs)
  with_lawful x xs price e (inl none) =
      inr (x, price, e, λ one cost member other. elim member [ inl same ↦ itself x one price cost same e other | inr later ↦ absurd (none one cost later other) ])
  with_lawful x xs price e (inr (best, most, lawful, first)) =
      elim (cases_Bool (is_before x price best most)) [
        | inl t ↦ inr (x, price, e, λ one cost member other. elim member [ inl same ↦ itself x one price cost same e other | inr later ↦ not_before_first one x best cost price most t (first one cost later other) ])
        | inr f ↦ inr (best, most, lawful, λ one cost member other. elim member [ inl same ↦ not_before_by x one best price cost most same e other f | inr later ↦ first one cost later other ])
      ]

  with_first : (x : List Part) (xs : List (List Part)) (found : Result ℕ Broken) → lawful_price tariff trip x ≡ found
      → LeastOf tariff trip xs → LeastOf tariff trip (x ∷ xs)
  with_first x xs (Ok price) e least = with_lawful x xs price e least
  with_first x xs (Err found) e least = with_unlawful x xs found e least

  least_of : (lists : List (List Part)) → LeastOf tariff trip lists
  least_of [] = inl (λ one cost member lawful. member)
  least_of (x ∷ xs) = with_first x xs (lawful_price tariff trip x) refl (least_of xs)

  -- an answer that is Best
  pub best_answer : (best : Option (List Part × ℕ)) × IsBestAnswer tariff trip best
  best_answer =
      elim (least_of (lists_of (possible_parts tariff trip) (count trip))) [
        | inl none ↦ (None, λ parts cost lawful. none parts cost (lawful_is_possible tariff trip parts cost lawful) lawful)
        | inr (best, price, lawful, first) ↦ (
          Some (best, price),
          record {
            lawful = lawful;
            first = λ other cost other_lawful. first other cost (lawful_is_possible tariff trip other cost other_lawful) other_lawful;
          },
        )
      ]
