-- What the parts of a lawful construction cost in its units, by the entries of their spans.
use Rattle.std.proofs.Common.{◌≡◌, ℕ, zero, suc, ◌+◌, ◌-◌, ◌<◌, ◌≤◌, Bool, true, false, ◌&&◌, ◌||◌, not, eqb, List, [], ◌∷◌, length, refl, ap, sym, subst, ◌∙◌, inl, inr, arith}
use Rattle.std.specs.Prelude.{Option, Some, None, filter, is_some, sum_by, bytes_eq, Contains}
use Rattle.std.specs.List.{range_with_len}
use Rattle.std.proofs.lemmas.Bool.{cases_Bool, cases_eq, eq-eqb, ne_eqb}
use Rattle.std.proofs.lemmas.List.Sums.{sum_by-cons}
use Rattle.std.proofs.lemmas.Slice.Eq.{bytes_eq-Decides}
use Rattle.fare_codes.specs.declared.city.City.{City}
use Rattle.fare_codes.specs.declared.country.Country.{Country}
use Rattle.fare_codes.specs.declared.kind.Kind.TheVariants.{OW}
use Rattle.fare_codes.specs.Same.{same_kind}
use Rattle.fare_trip.specs.Itinerary.{Itinerary, point}
use Rattle.fare_tariff.specs.Tariff.{Tariff}
use Rattle.fare_rules.specs.declared.amount.Amount.{Amount}
use Rattle.fare_rules.specs.declared.part.Part.{Part}
use Rattle.fare_rules.specs.Indicator.{country}
use Rattle.fare_rules.specs.Construction.{start_of, end_of, part_at, places, own, is_own, unit_of, first_of, last_of, greatest_unit, start_city, end_city}
use Rattle.fare_rules.specs.ComponentAmount.{component_amount}
use Rattle.fare_rules.specs.Shape.{is_ow, holds_ow, is_hr, is_same_country, lie_together}
use Rattle.fare_rules.specs.Direction.{is_back, is_back_in}
use Rattle.fare_rules.specs.UnitPrice.{unit_price, unit_sheet, unit_sum, unit_minimum, unit_kind, part_amount, part_cost}
use Rattle.fare_rules.specs.Best.{IsLawful}
use Rattle.fare_rules.proofs.NumberLemmas.{any_kept_none}
use Rattle.fare_rules.proofs.LawfulLemmas.{kept}
use Rattle.fare_rules.proofs.AmountLemmas.{fare_is_filed, amount_of_lawful}
use Rattle.fare_rules.proofs.OneWayLemmas.{one_way_unit}
use Rattle.fare_rules.proofs.MemberLemmas.{Member}
use Rattle.fare_component.specs.declared.table.entry.Entry.{Entry}
use Rattle.fare_component.specs.Table.{entry_of, entries_of, has_amount, single_price}
use Rattle.fare_component.proofs.LawLemmas.{amount_is_entry}
use Rattle.fare_floors.specs.Costs.{added_at, or_nothing, part_least, surplus}
use Rattle.fare_legs.specs.Costs.{first_cost, between_cost, back_cost, heads_to}
use Rattle.fare_floors.proofs.CostLemmas.{not_half, half, at_least_up, one_way_least, half_part, member_place}
use Rattle.fare_floors.proofs.GoesOnLemmas.{last_member}
use Rattle.fare_floors.proofs.UnitLemmas.{all, own_has, alone_in, holds_none, single_there, single_not}
use Rattle.fare_floors.specs.Costs.{true_cost}
use Rattle.fare_floors.proofs.SumLemmas.{sum_plus, sum_up_members, kept_member}

true_false : true ≡ false → ⊥
true_false e = cc

-- no place heads home from the very city
same_country_self : (x y : Option Country) → (is_same_country x y && not (is_same_country y y)) ≡ false
same_country_self None y = refl
same_country_self (Some a) None = refl
same_country_self (Some a) (Some b) =
    let same : bytes_eq b b ≡ true = (bytes_eq-Decides b b).1 refl in
    elim (cases_Bool (bytes_eq a b)) [ inl t ↦ rw (t, same) refl | inr f ↦ rw f refl ]

none_heads_home : (tariff : Tariff) (a b : City) → (lie_together tariff a b && not (lie_together tariff b b)) ≡ false
none_heads_home tariff a b = same_country_self (country tariff a) (country tariff b)

-- an amount in a direction is one of the entry
priced_either : (out back : Option Amount) (direction : Bool) (amount : Amount) → (direction ≡ false → out ≡ Some amount) → (direction ≡ true → back ≡ Some amount) → (is_some out || is_some back) ≡ true
priced_either out back false amount o b = rw (o refl) refl
priced_either None back true amount o b = rw (b refl) refl
priced_either (Some x) back true amount o b = refl

-- where the last place is not, nothing is added
none_added : (p : ℕ → Bool) (last more first n : ℕ) → last < first → sum_by (added_at last more) (filter p (range_with_len first n)) ≡ 0
none_added p last more first zero h = refl
none_added p last more first (suc n) h =
    let rest : List ℕ = filter p (range_with_len (first + 1) n) in
    let behind : sum_by (added_at last more) (filter p (range_with_len (first + 1) n)) ≡ 0 = none_added p last more (first + 1) n (omega arith) in
    let apart : eqb last first ≡ false = ne_eqb last first (λ same. omega arith) in
    let here : added_at last more first ≡ 0 = rw apart refl in
    let sum : sum_by (added_at last more) (first ∷ rest) ≡ added_at last more first + sum_by (added_at last more) rest = sum_by-cons (added_at last more) first rest in
    let both : sum_by (added_at last more) (first ∷ rest) ≡ 0 = omega arith in
    elim (cases_Bool (p first)) [ inl t ↦ rw t both | inr f ↦ rw f behind ]

-- and where it is, once
added_once : (p : ℕ → Bool) (last more first n : ℕ) → first ≤ last → last < first + n → p last ≡ true → sum_by (added_at last more) (filter p (range_with_len first n)) ≡ more
added_once p last more first zero low high kept = absurd (omega arith)
added_once p last more first (suc n) low high kept =
    let rest : List ℕ = filter p (range_with_len (first + 1) n) in
    let sum : sum_by (added_at last more) (first ∷ rest) ≡ added_at last more first + sum_by (added_at last more) rest = sum_by-cons (added_at last more) first rest in
    elim (cases_eq last first) [
      | inl same ↦
          let one : eqb last first ≡ true = eq-eqb last first same in
          let here : added_at last more first ≡ more = rw one refl in
          let behind : sum_by (added_at last more) (filter p (range_with_len (first + 1) n)) ≡ 0 = none_added p last more (first + 1) n (omega arith) in
          let both : sum_by (added_at last more) (first ∷ rest) ≡ more = omega arith in
          let P : ℕ → Type 0 = λ k. p k ≡ true in
          let mine : p first ≡ true = subst P same kept in
          rw mine both
      | inr other ↦
          let apart : eqb last first ≡ false = ne_eqb last first other in
          let here : added_at last more first ≡ 0 = rw apart refl in
          let behind : sum_by (added_at last more) (filter p (range_with_len (first + 1) n)) ≡ more = added_once p last more (first + 1) n (omega arith) (omega arith) kept in
          let both : sum_by (added_at last more) (first ∷ rest) ≡ more = omega arith in
          elim (cases_Bool (p first)) [ inl t ↦ rw t both | inr f ↦ rw f behind ]
    ]

two_sum : (f : ℕ → ℕ) (a b : ℕ) → sum_by f (a ∷ b ∷ []) ≡ f a + (f b + 0)
two_sum f a b = sum_by-cons f a (b ∷ []) ∙ ap (λ n. f a + n) (sum_by-cons f b [])

module _ (tariff : Tariff) (trip : Itinerary) (parts : List Part) (price : ℕ) (lawful : IsLawful tariff trip parts price) where
  -- the entry of a part
  abbrev pub entry : ℕ → Entry
  entry k = entry_of tariff trip (start_of trip parts k) (end_of parts k) (part_at parts k).fare

  -- what a half round trip costs is an amount in its direction
  abbrev Priced : ℕ → Amount → Type 0
  Priced k amount = component_amount tariff trip (start_of trip parts k) (end_of parts k) (part_at parts k).fare (is_back tariff trip parts k) ≡ Some amount

  in_direction : (k : ℕ) (amount : Amount) → Priced k amount → (direction : Bool) → is_back tariff trip parts k ≡ direction → component_amount tariff trip (start_of trip parts k) (end_of parts k) (part_at parts k).fare direction ≡ Some amount
  in_direction k amount e direction same =
      let P : Bool → Type 0 = λ b. component_amount tariff trip (start_of trip parts k) (end_of parts k) (part_at parts k).fare b ≡ Some amount in
      subst P same e

  pub entry_there : (k : ℕ) → 1 ≤ k → k ≤ length parts → Contains (entries_of tariff trip (start_of trip parts k) (end_of parts k)) (entry k)
  entry_there k low high =
      let found = amount_of_lawful tariff trip parts price k lawful low high in
      let cover = all tariff trip parts price lawful in
      let some : has_amount (entry k) ≡ true =
      priced_either (component_amount tariff trip (start_of trip parts k) (end_of parts k) (part_at parts k).fare false) (component_amount tariff trip (start_of trip parts k) (end_of parts k) (part_at parts k).fare true) (is_back tariff trip parts k) found.0
      (in_direction k found.0 found.1 false) (in_direction k found.0 found.1 true) in
      amount_is_entry tariff trip (start_of trip parts k) (end_of parts k) (part_at parts k).fare (cover.above k low high) (cover.within k low high) some

  one_way_true : (k : ℕ) → is_ow tariff parts k ≡ true → true_cost tariff trip parts k ≡ unit_price tariff trip parts (unit_of parts k)
  one_way_true k way = rw way refl

  half_true : (k : ℕ) → is_ow tariff parts k ≡ false
      → true_cost tariff trip parts k ≡ part_cost tariff trip parts (own parts (unit_of parts k)) k + added_at (last_of (own parts (unit_of parts k))) (surplus tariff trip parts (unit_of parts k)) k
  half_true k way = rw way refl

  -- a unit costs no less than the sum of its amounts
  sum_in_price : (unit : ℕ) → sum_by (part_cost tariff trip parts (own parts unit)) (own parts unit) ≤ unit_price tariff trip parts unit
  unfolding unit_sheet unit_sum
  sum_in_price unit = at_least_up (sum_by (part_cost tariff trip parts (own parts unit)) (own parts unit)) (unit_minimum tariff trip parts (own parts unit) (unit_kind tariff trip parts (own parts unit)))

  -- so a half round trip is worth no less than its amount
  pub half_low : (k : ℕ) → is_ow tariff parts k ≡ false → part_cost tariff trip parts (own parts (unit_of parts k)) k ≤ true_cost tariff trip parts k
  half_low k way =
      let cost : true_cost tariff trip parts k ≡ part_cost tariff trip parts (own parts (unit_of parts k)) k + added_at (last_of (own parts (unit_of parts k))) (surplus tariff trip parts (unit_of parts k)) k = half_true k way in
      omega arith

  -- a one way fare costs its price alone
  pub alone_cost : (k : ℕ) → 1 ≤ k → k ≤ length parts → is_ow tariff parts k ≡ true → single_price tariff trip (start_of trip parts k) (end_of parts k) (part_at parts k).fare ≡ Some (true_cost tariff trip parts k)
  alone_cost k low high way =
      let filed = fare_is_filed tariff trip parts (kept tariff trip parts price lawful) k low high in
      let kind : same_kind filed.0.kind OW ≡ true = rw filed.1 at way in
      single_there tariff trip (start_of trip parts k) (end_of parts k) (part_at parts k).fare filed.0 filed.1 (unit_price tariff trip parts (unit_of parts k)) (not_half filed.0.kind kind) (one_way_unit tariff trip parts price k lawful low high way)
      ∙ ap Some (sym (one_way_true k way))

  pub no_single : (k : ℕ) → 1 ≤ k → k ≤ length parts → is_ow tariff parts k ≡ false → single_price tariff trip (start_of trip parts k) (end_of parts k) (part_at parts k).fare ≡ None
  no_single k low high way =
      let filed = fare_is_filed tariff trip parts (kept tariff trip parts price lawful) k low high in
      let kind : same_kind filed.0.kind OW ≡ false = rw filed.1 at way in
      single_not tariff trip (start_of trip parts k) (end_of parts k) (part_at parts k).fare filed.0 filed.1 (half filed.0.kind kind)

  -- a half round trip costs its amount
  half_amount : (k : ℕ) → 1 ≤ k → k ≤ length parts → (amount : Amount) × Priced k amount × (part_cost tariff trip parts (own parts (unit_of parts k)) k ≡ amount.amount)
  unfolding part_amount
  half_amount k low high =
      let found = amount_of_lawful tariff trip parts price k lawful low high in
      (found.0, found.1, rw found.1 refl)

  -- and before the last of its unit no more
  pub half_is : (k : ℕ) → is_ow tariff parts k ≡ false → k < last_of (own parts (unit_of parts k)) → true_cost tariff trip parts k ≡ part_cost tariff trip parts (own parts (unit_of parts k)) k
  half_is k way less =
      let cost : true_cost tariff trip parts k ≡ part_cost tariff trip parts (own parts (unit_of parts k)) k + added_at (last_of (own parts (unit_of parts k))) (surplus tariff trip parts (unit_of parts k)) k = half_true k way in
      let apart : eqb (last_of (own parts (unit_of parts k))) k ≡ false = ne_eqb (last_of (own parts (unit_of parts k))) k (λ same. omega arith) in
      let none : added_at (last_of (own parts (unit_of parts k))) (surplus tariff trip parts (unit_of parts k)) k ≡ 0 = rw apart refl in
      omega arith

  -- the first part of a unit is priced out where others follow
  first_is_out : (k : ℕ) → first_of (own parts (unit_of parts k)) ≡ k → k < last_of (own parts (unit_of parts k)) → is_back tariff trip parts k ≡ false
  unfolding is_back_in
  first_is_out k first less =
      let other : eqb k (last_of (own parts (unit_of parts k))) ≡ false = ne_eqb k (last_of (own parts (unit_of parts k))) (λ same. omega arith) in
      let P : ℕ → Type 0 = λ j. (lie_together tariff (end_city trip parts k) (start_city trip parts j) && not (lie_together tariff (start_city trip parts k) (start_city trip parts j))) ≡ false in
      let heads : (lie_together tariff (end_city trip parts k) (start_city trip parts (first_of (own parts (unit_of parts k)))) && not (lie_together tariff (start_city trip parts k) (start_city trip parts (first_of (own parts (unit_of parts k)))))) ≡ false =
      subst P (sym first) (none_heads_home tariff (end_city trip parts k) (start_city trip parts k)) in
      both (is_hr tariff parts (own parts (unit_of parts k))) (eqb k (last_of (own parts (unit_of parts k)))) (lie_together tariff (end_city trip parts k) (start_city trip parts (first_of (own parts (unit_of parts k)))) && not (lie_together tariff (start_city trip parts k) (start_city trip parts (first_of (own parts (unit_of parts k)))))) other heads
    where
      both : (a b c : Bool) → b ≡ false → c ≡ false → (a && (b || c)) ≡ false
      both true b c x y = rw (x, y) refl
      both false b c x y = refl

  -- and its last one back
  last_is_back : (k : ℕ) → 1 ≤ k → k ≤ length parts → is_ow tariff parts k ≡ false → last_of (own parts (unit_of parts k)) ≡ k → is_back tariff trip parts k ≡ true
  unfolding is_back_in is_hr
  last_is_back k low high way last =
      let none : holds_ow tariff parts (own parts (unit_of parts k)) ≡ false = holds_none tariff trip parts price lawful k low high way in
      let here : eqb k (last_of (own parts (unit_of parts k))) ≡ true = eq-eqb k (last_of (own parts (unit_of parts k))) (sym last) in
      rw (none, here) refl

  pub first_costs : (k : ℕ) → 1 ≤ k → k ≤ length parts → is_ow tariff parts k ≡ false → first_of (own parts (unit_of parts k)) ≡ k → k < last_of (own parts (unit_of parts k)) → first_cost (entry k) ≡ Some (true_cost tariff trip parts k)
  first_costs k low high way first less =
      let found = half_amount k low high in
      let out : component_amount tariff trip (start_of trip parts k) (end_of parts k) (part_at parts k).fare false ≡ Some found.0 = in_direction k found.0 found.1 false (first_is_out k first less) in
      let cost : first_cost (entry k) ≡ Some found.0.amount = rw (no_single k low high way, out) refl in
      cost ∙ ap Some (sym found.2) ∙ ap Some (sym (half_is k way less))

  pub back_costs : (k : ℕ) → 1 ≤ k → k ≤ length parts → is_ow tariff parts k ≡ false → last_of (own parts (unit_of parts k)) ≡ k → (x : ℕ) × (back_cost (entry k) ≡ Some x) × (x ≤ true_cost tariff trip parts k)
  back_costs k low high way last =
      let found = half_amount k low high in
      let back : component_amount tariff trip (start_of trip parts k) (end_of parts k) (part_at parts k).fare true ≡ Some found.0 = in_direction k found.0 found.1 true (last_is_back k low high way last) in
      let cost : back_cost (entry k) ≡ Some found.0.amount = rw (no_single k low high way, back) refl in
      let amount : part_cost tariff trip parts (own parts (unit_of parts k)) k ≡ found.0.amount = found.2 in
      let up : part_cost tariff trip parts (own parts (unit_of parts k)) k ≤ true_cost tariff trip parts k = half_low k way in
      (found.0.amount, cost, omega arith)

  -- a part between them is priced back where it comes into the country of the city where its unit closes
  between_is_back : (k : ℕ) → 1 ≤ k → k ≤ length parts → is_ow tariff parts k ≡ false → k < last_of (own parts (unit_of parts k))
      → (home : ℕ) → point trip home ≡ start_city trip parts (first_of (own parts (unit_of parts k))) → is_back tariff trip parts k ≡ heads_to tariff trip (start_of trip parts k) (end_of parts k) home
  unfolding is_back_in is_hr
  between_is_back k low high way less home city =
      let none : holds_ow tariff parts (own parts (unit_of parts k)) ≡ false = holds_none tariff trip parts price lawful k low high way in
      let other : eqb k (last_of (own parts (unit_of parts k))) ≡ false = ne_eqb k (last_of (own parts (unit_of parts k))) (λ same. omega arith) in
      rw (none, other, city) refl

  pub between_costs : (k : ℕ) → 1 ≤ k → k ≤ length parts → is_ow tariff parts k ≡ false → k < last_of (own parts (unit_of parts k))
      → (home : ℕ) → point trip home ≡ start_city trip parts (first_of (own parts (unit_of parts k)))
      → between_cost (heads_to tariff trip (start_of trip parts k) (end_of parts k) home) (entry k) ≡ Some (true_cost tariff trip parts k)
  between_costs k low high way less home city =
      let found = half_amount k low high in
      by_direction (heads_to tariff trip (start_of trip parts k) (end_of parts k) home) (between_is_back k low high way less home city) ∙ ap Some (sym found.2) ∙ ap Some (sym (half_is k way less))
    where
      by_direction : (heads : Bool) → is_back tariff trip parts k ≡ heads → between_cost heads (entry k) ≡ Some (half_amount k low high).0.amount
      by_direction true e =
          let found = half_amount k low high in
          let back : component_amount tariff trip (start_of trip parts k) (end_of parts k) (part_at parts k).fare true ≡ Some found.0 = in_direction k found.0 found.1 true e in
          rw (no_single k low high way, back) refl
      by_direction false e =
          let found = half_amount k low high in
          let out : component_amount tariff trip (start_of trip parts k) (end_of parts k) (part_at parts k).fare false ≡ Some found.0 = in_direction k found.0 found.1 false e in
          rw (no_single k low high way, out) refl

  -- a part costs at least what its fare does
  pub true_least : (k : ℕ) → 1 ≤ k → k ≤ length parts → part_least tariff trip parts k ≤ true_cost tariff trip parts k
  true_least k low high =
      elim (cases_Bool (is_ow tariff parts k)) [
        | inl t ↦
            let least : part_least tariff trip parts k ≡ unit_price tariff trip parts (unit_of parts k) = ap or_nothing (one_way_least tariff trip parts price lawful k low high t) in
            let cost : true_cost tariff trip parts k ≡ unit_price tariff trip parts (unit_of parts k) = one_way_true k t in
            omega arith
        | inr f ↦
            let none : holds_ow tariff parts (own parts (unit_of parts k)) ≡ false = holds_none tariff trip parts price lawful k low high f in
            let least : part_least tariff trip parts k ≤ part_cost tariff trip parts (own parts (unit_of parts k)) k = half_part tariff trip parts price lawful (unit_of parts k) k none (own_has tariff trip parts price lawful k low high) in
            let cost : part_cost tariff trip parts (own parts (unit_of parts k)) k ≤ true_cost tariff trip parts k = half_low k f in
            omega arith
      ]

  -- a part of a unit of half round trips is one
  pub half_of : (unit k : ℕ) → holds_ow tariff parts (own parts unit) ≡ false → Member k (own parts unit) → is_ow tariff parts k ≡ false
  unfolding own
  half_of unit k none m =
      let place = member_place tariff trip parts price lawful unit k m in
      let high : k ≤ length parts = place.1 in
      any_kept_none (is_own parts unit) (is_ow tariff parts) 1 (length parts + 1) none k place.0 (omega arith) (kept_member (is_own parts unit) 1 (length parts + 1 - 1) k m).2

  -- it costs there its amount in the unit, and the last one besides what the unit costs above the sum
  half_mine : (unit k : ℕ) → holds_ow tariff parts (own parts unit) ≡ false → Member k (own parts unit)
      → true_cost tariff trip parts k ≡ part_cost tariff trip parts (own parts unit) k + added_at (last_of (own parts unit)) (surplus tariff trip parts unit) k
  half_mine unit k none m =
      let place = member_place tariff trip parts price lawful unit k m in
      half_true k (half_of unit k none m) ∙ ap (λ u. part_cost tariff trip parts (own parts u) k + added_at (last_of (own parts u)) (surplus tariff trip parts u) k) place.2

  last_added : (unit : ℕ) → 1 ≤ length (own parts unit) → sum_by (added_at (last_of (own parts unit)) (surplus tariff trip parts unit)) (own parts unit) ≡ surplus tariff trip parts unit
  unfolding own
  last_added unit some =
      let h = kept_member (is_own parts unit) 1 (length parts + 1 - 1) (last_of (own parts unit)) (last_member (own parts unit) some) in
      added_once (is_own parts unit) (last_of (own parts unit)) (surplus tariff trip parts unit) 1 (length parts + 1 - 1) h.0 h.1 h.2

  -- so all of them cost what the unit does
  pub half_all : (unit : ℕ) → holds_ow tariff parts (own parts unit) ≡ false → 1 ≤ length (own parts unit) → sum_by (true_cost tariff trip parts) (own parts unit) ≡ unit_price tariff trip parts unit
  half_all unit none some =
      let Cost : ℕ → ℕ = part_cost tariff trip parts (own parts unit) in
      let More : ℕ → ℕ = added_at (last_of (own parts unit)) (surplus tariff trip parts unit) in
      let high : sum_by (true_cost tariff trip parts) (own parts unit) ≤ sum_by (λ k. Cost k + More k) (own parts unit) =
      sum_up_members (true_cost tariff trip parts) (λ k. Cost k + More k) (own parts unit) (λ k m. let e : true_cost tariff trip parts k ≡ Cost k + More k = half_mine unit k none m in omega arith) in
      let low : sum_by (λ k. Cost k + More k) (own parts unit) ≤ sum_by (true_cost tariff trip parts) (own parts unit) =
      sum_up_members (λ k. Cost k + More k) (true_cost tariff trip parts) (own parts unit) (λ k m. let e : true_cost tariff trip parts k ≡ Cost k + More k = half_mine unit k none m in omega arith) in
      let both : sum_by (λ k. Cost k + More k) (own parts unit) ≡ sum_by Cost (own parts unit) + sum_by More (own parts unit) = sum_plus Cost More (own parts unit) in
      let more : sum_by More (own parts unit) ≡ unit_price tariff trip parts unit - sum_by (part_cost tariff trip parts (own parts unit)) (own parts unit) = last_added unit some in
      let up : sum_by (part_cost tariff trip parts (own parts unit)) (own parts unit) ≤ unit_price tariff trip parts unit = sum_in_price unit in
      omega arith

  half_up : (unit : ℕ) → holds_ow tariff parts (own parts unit) ≡ false → sum_by (true_cost tariff trip parts) (own parts unit) ≤ unit_price tariff trip parts unit
  half_up unit none = by_places (own parts unit) refl
    where
      by_places : (xs : List ℕ) → own parts unit ≡ xs → sum_by (true_cost tariff trip parts) (own parts unit) ≤ unit_price tariff trip parts unit
      by_places [] e =
          let nothing : sum_by (true_cost tariff trip parts) (own parts unit) ≡ 0 = ap (sum_by (true_cost tariff trip parts)) e in
          omega arith
      by_places (a ∷ more) e =
          let n : length (own parts unit) ≡ suc (length more) = ap length e in
          let whole : sum_by (true_cost tariff trip parts) (own parts unit) ≡ unit_price tariff trip parts unit = half_all unit none (omega arith) in
          omega arith

  alone_up : (unit : ℕ) → 1 ≤ unit → unit ≤ greatest_unit parts (places parts) → holds_ow tariff parts (own parts unit) ≡ true → sum_by (true_cost tariff trip parts) (own parts unit) ≡ unit_price tariff trip parts unit
  alone_up unit low high way =
      let one = alone_in tariff trip parts price lawful unit low high way in
      let member : Member one.0 (own parts unit) = subst (Member one.0) (sym one.1) (inl refl) in
      let place = member_place tariff trip parts price lawful unit one.0 member in
      let sum : sum_by (true_cost tariff trip parts) (own parts unit) ≡ true_cost tariff trip parts one.0 + sum_by (true_cost tariff trip parts) [] = ap (sum_by (true_cost tariff trip parts)) one.1 ∙ sum_by-cons (true_cost tariff trip parts) one.0 [] in
      let whole : true_cost tariff trip parts one.0 + sum_by (true_cost tariff trip parts) [] ≡ true_cost tariff trip parts one.0 = omega arith in
      sum ∙ whole ∙ one_way_true one.0 one.2 ∙ ap (unit_price tariff trip parts) place.2

  -- the second of two parts is worth no less than it costs, and what its unit costs above the first
  pub second_worth : (a b : ℕ) → own parts (unit_of parts b) ≡ a ∷ b ∷ [] → is_ow tariff parts b ≡ false
      → (part_cost tariff trip parts (a ∷ b ∷ []) b ≤ true_cost tariff trip parts b) × (true_cost tariff trip parts b ≡ unit_price tariff trip parts (unit_of parts b) - part_cost tariff trip parts (a ∷ b ∷ []) a)
  second_worth a b two way =
      let cost : true_cost tariff trip parts b ≡ part_cost tariff trip parts (own parts (unit_of parts b)) b + added_at (last_of (own parts (unit_of parts b))) (surplus tariff trip parts (unit_of parts b)) b = half_true b way in
      let last : last_of (own parts (unit_of parts b)) ≡ b = ap last_of two in
      let here : eqb (last_of (own parts (unit_of parts b))) b ≡ true = eq-eqb (last_of (own parts (unit_of parts b))) b last in
      let more : added_at (last_of (own parts (unit_of parts b))) (surplus tariff trip parts (unit_of parts b)) b ≡ surplus tariff trip parts (unit_of parts b) = rw here refl in
      let Cost : List ℕ → ℕ → ℕ = λ xs k. part_cost tariff trip parts xs k in
      let sum : sum_by (part_cost tariff trip parts (own parts (unit_of parts b))) (own parts (unit_of parts b)) ≡ part_cost tariff trip parts (a ∷ b ∷ []) a + (part_cost tariff trip parts (a ∷ b ∷ []) b + 0) =
      ap (λ xs. sum_by (part_cost tariff trip parts xs) xs) two ∙ two_sum (part_cost tariff trip parts (a ∷ b ∷ [])) a b in
      let mine : part_cost tariff trip parts (own parts (unit_of parts b)) b ≡ part_cost tariff trip parts (a ∷ b ∷ []) b = ap (λ xs. part_cost tariff trip parts xs b) two in
      let up : sum_by (part_cost tariff trip parts (own parts (unit_of parts b))) (own parts (unit_of parts b)) ≤ unit_price tariff trip parts (unit_of parts b) = sum_in_price (unit_of parts b) in
      (omega arith, omega arith)

  -- a unit costs no less than its parts do
  pub true_up : (unit : ℕ) → 1 ≤ unit → unit ≤ greatest_unit parts (places parts) → sum_by (true_cost tariff trip parts) (own parts unit) ≤ unit_price tariff trip parts unit
  true_up unit low high =
      elim (cases_Bool (holds_ow tariff parts (own parts unit))) [
        | inl t ↦ let same : sum_by (true_cost tariff trip parts) (own parts unit) ≡ unit_price tariff trip parts unit = alone_up unit low high t in omega arith
        | inr f ↦ half_up unit f
      ]
