-- The second of two parts with which a unit closes is worth no less than what the unit owes behind the first.
use Rattle.std.proofs.Common.{◌≡◌, ℕ, zero, suc, ◌+◌, ◌-◌, ◌*◌, ◌<◌, ◌≤◌, Bool, true, false, ◌&&◌, ◌||◌, not, leb, ltb, List, [], ◌∷◌, ◌++◌, length, refl, ap, sym, subst, ◌∙◌, inl, inr, arith}
use Rattle.std.specs.Prelude.{◌⊎◌, Option, Some, None, filter, option_and_then, option_map, nat_lt}
use Rattle.std.specs.List.{range_with_len}
use Rattle.std.proofs.lemmas.Bool.{and_parts, cases_Bool, eqb-true, le-leb, lt-ltb, ltb-true}
use Rattle.std.proofs.lemmas.List.Elements.{filter-append}
use Rattle.fare_codes.specs.declared.nuc.Nuc.{Nuc}
use Rattle.fare_codes.specs.declared.indicator.Indicator.{Indicator}
use Rattle.fare_trip.specs.Itinerary.{Itinerary, point}
use Rattle.fare_tariff.specs.Record.{FareRecord}
use Rattle.fare_tariff.specs.Tariff.{Tariff}
use Rattle.fare_rules.specs.declared.part.Part.{Part}
use Rattle.fare_rules.specs.declared.unit_sheet.UnitKind.TheVariants.{CT}
use Rattle.fare_rules.specs.Best.{IsLawful}
use Rattle.fare_rules.specs.Circle.{circle_reference, holds_sector, is_own_sector, own_sectors}
use Rattle.fare_rules.specs.Construction.{end_city, end_of, fare_of, first_of, is_own, last_of, own, part_at, start_city, start_of, unit_of}
use Rattle.fare_rules.specs.Indicator.{indicator_of}
use Rattle.fare_rules.specs.Numbers.{numbers}
use Rattle.fare_rules.specs.Reference.{reference}
use Rattle.fare_rules.specs.Shape.{closes, holds_ow, is_open_jaw, is_ow}
use Rattle.fare_rules.specs.Span.{first_day, sectors}
use Rattle.fare_rules.specs.UnitPrice.{are_two_equal, is_round_trip, part_cost, unit_kind, unit_price}
use Rattle.fare_rules.proofs.MemberLemmas.{Member}
use Rattle.fare_legs.specs.Costs.{is_same_city}
use Rattle.fare_legs.specs.Owed.{IsOwed, owed_above, reference_over}
use Rattle.fare_floors.specs.Costs.{true_cost}
use Rattle.fare_floors.specs.Stack.{has_more, own_to}
use Rattle.fare_floors.proofs.CircleLemmas.{turning_in_unit}
use Rattle.fare_floors.proofs.CostLemmas.{member_place}
use Rattle.fare_floors.proofs.GoesOnLemmas.{last_in, not_so, own_two}
use Rattle.fare_floors.proofs.JoiningLemmas.{other_way}
use Rattle.fare_floors.proofs.StandLemmas.{own_about}
use Rattle.fare_floors.proofs.SumLemmas.{kept_member, range_in_two}
use Rattle.fare_floors.proofs.TrueCostLemmas.{entry, entry_there, first_costs, half_is, second_worth}
use Rattle.fare_floors.proofs.UnitLemmas.{all, holds_none}

true_false : true ≡ false → ⊥
true_false e = cc

-- of a range nothing is kept that fails, and all that passes
none_kept : (p : ℕ → Bool) (first n : ℕ) → ((k : ℕ) → first ≤ k → k < first + n → p k ≡ false) → filter p (range_with_len first n) ≡ []
none_kept p first zero h = refl
none_kept p first (suc n) h = rw (h first (omega arith) (omega arith)) (none_kept p (first + 1) n (λ k low high. h k (omega arith) (omega arith)))

all_kept : (p : ℕ → Bool) (first n : ℕ) → ((k : ℕ) → first ≤ k → k < first + n → p k ≡ true) → filter p (range_with_len first n) ≡ range_with_len first n
all_kept p first zero h = refl
all_kept p first (suc n) h = rw (h first (omega arith) (omega arith)) (ap (λ xs. first ∷ xs) (all_kept p (first + 1) n (λ k low high. h k (omega arith) (omega arith))))

tail_kept : (p : ℕ → Bool) (first n m : ℕ) → ((k : ℕ) → first ≤ k → k < first + n → p k ≡ false) → ((k : ℕ) → first + n ≤ k → k < first + n + m → p k ≡ true) → filter p (range_with_len first (n + m)) ≡ range_with_len (first + n) m
tail_kept p first n m fails passes =
    ap (filter p) (range_in_two first n m) ∙ filter-append p (range_with_len first n) (range_with_len (first + n) m) ∙ ap (λ xs. xs ++ filter p (range_with_len (first + n) m)) (none_kept p first n fails) ∙ all_kept p (first + n) m passes

-- of two Booleans that are neither there is none
neither : (a b : Bool) → a ≡ false → b ≡ false → (a || (b || false)) ≡ false
neither a b e f = rw (e, f) refl

first_one : (a b : Bool) → a ≡ true → (a || b) ≡ true
first_one a b e = rw e refl

fails_first : (a b : Bool) → a ≡ false → (a && b) ≡ false
fails_first a b e = rw e refl

pass_both : (a b : Bool) → a ≡ true → b ≡ true → (a && b) ≡ true
pass_both a b e f = rw (e, f) refl

not_less : (a b : ℕ) → b ≤ a → ltb a b ≡ false
not_less a b h = not_so (ltb a b) (λ t. let less : a < b = ltb-true a b t in omega arith)

no_gap : (n l h m o p : Bool) → n ≡ true → m ≡ true → ((not n && l && h) || (not m && o && p)) ≡ false
no_gap n l h m o p e f = rw (e, f) refl

-- places that end with a number that is behind one of them are that one and the number
module _ (parts : List Part) (k : ℕ) (high : k + 1 ≤ length parts) where
  abbrev later : List ℕ
  later = filter (is_own parts (unit_of parts (k + 1))) (numbers (k + 1 + 1) (length parts + 1))

  none_later : (more : List ℕ) → later ≡ more → last_of (own parts (unit_of parts (k + 1))) ≡ k + 1 → (before : List ℕ) → own parts (unit_of parts (k + 1)) ≡ before ++ (k + 1) ∷ more → more ≡ []
  none_later [] e last before is = refl
  none_later (y ∷ ys) e last before is =
      let P : List ℕ → Type 0 = λ xs. Member (last_of (y ∷ ys)) xs in
      let there = kept_member (is_own parts (unit_of parts (k + 1))) (k + 1 + 1) (length parts + 1 - (k + 1 + 1)) (last_of (y ∷ ys)) (subst P (sym e) (last_in y ys)) in
      let past : k + 1 + 1 ≤ last_of (y ∷ ys) = there.0 in
      let ends : last_of (own parts (unit_of parts (k + 1))) ≡ last_of (y ∷ ys) = ap last_of is ∙ last_behind before (k + 1) y ys in
      absurd (omega arith)
    where
      last_behind : (xs : List ℕ) (n y : ℕ) (ys : List ℕ) → last_of (xs ++ n ∷ y ∷ ys) ≡ last_of (y ∷ ys)
      last_behind [] n y ys = refl
      last_behind (x ∷ []) n y ys = refl
      last_behind (x ∷ z ∷ zs) n y ys = last_behind (z ∷ zs) n y ys

  pub record IsPair : Type 0 where
    pub first : ℕ
    pub before : own_to parts k (unit_of parts (k + 1)) ≡ first ∷ []
    pub both : own parts (unit_of parts (k + 1)) ≡ first ∷ (k + 1) ∷ []

  pub pair_at : has_more parts k (unit_of parts (k + 1)) ≡ false → 1 ≤ length (own_to parts k (unit_of parts (k + 1))) → last_of (own parts (unit_of parts (k + 1))) ≡ k + 1 → IsPair
  pair_at one some last = by_places (own_to parts k (unit_of parts (k + 1))) refl
    where
      by_places : (xs : List ℕ) → own_to parts k (unit_of parts (k + 1)) ≡ xs → IsPair
      by_places [] e = let n : length (own_to parts k (unit_of parts (k + 1))) ≡ 0 = ap length e in absurd (omega arith)
      by_places (a ∷ []) e =
          let is : own parts (unit_of parts (k + 1)) ≡ (a ∷ []) ++ (k + 1) ∷ later = own_about parts k high ∙ ap (λ xs. xs ++ (k + 1) ∷ later) e in
          let none : later ≡ [] = none_later later refl last (a ∷ []) is in
          record { first = a; before = e; both = is ∙ ap (λ more. a ∷ (k + 1) ∷ more) none }
      by_places (a ∷ b ∷ more) e =
          let two : nat_lt 1 (length (a ∷ b ∷ more)) ≡ true = lt-ltb 1 (length (a ∷ b ∷ more)) (omega arith) in
          absurd (true_false (sym two ∙ ap (λ xs. nat_lt 1 (length xs)) (sym e) ∙ one))

module _ (tariff : Tariff) (trip : Itinerary) (parts : List Part) (price : ℕ) (lawful : IsLawful tariff trip parts price) (b : ℕ) (low_b : 1 ≤ b) (high_b : b ≤ length parts) (way : is_ow tariff parts b ≡ false) (a : ℕ) (two : own parts (unit_of parts b) ≡ a ∷ b ∷ [])
    (behind : end_of parts a ≤ start_of trip parts b) (chained : is_same_city trip (end_of parts a) (start_of trip parts b) ≡ true) (home : is_same_city trip (start_of trip parts a) (end_of parts b) ≡ true) where
  member_a : Member a (own parts (unit_of parts b))
  member_a = subst (Member a) (sym two) (inl refl)

  place_a : (1 ≤ a) × (a ≤ length parts) × (unit_of parts a ≡ unit_of parts b)
  place_a = member_place tariff trip parts price lawful (unit_of parts b) a member_a

  mine : own parts (unit_of parts a) ≡ a ∷ b ∷ []
  mine = ap (own parts) place_a.2 ∙ two

  rise : a < b
  rise =
      let n : length (own parts (unit_of parts b)) ≡ 2 = ap length two in
      let up : first_of (own parts (unit_of parts b)) < last_of (own parts (unit_of parts b)) = own_two parts (unit_of parts b) (omega arith) in
      let begins : first_of (own parts (unit_of parts b)) ≡ a = ap first_of two in
      let ends : last_of (own parts (unit_of parts b)) ≡ b = ap last_of two in
      omega arith

  less : a < last_of (own parts (unit_of parts a))
  less = let ends : last_of (own parts (unit_of parts a)) ≡ b = ap last_of mine in let up : a < b = rise in omega arith

  none : holds_ow tariff parts (a ∷ b ∷ []) ≡ false
  none = let P : List ℕ → Type 0 = λ xs. holds_ow tariff parts xs ≡ false in subst P two (holds_none tariff trip parts price lawful b low_b high_b way)

  half_a : is_ow tariff parts a ≡ false
  half_a = not_so (is_ow tariff parts a) (λ t. true_false (sym (first_one (is_ow tariff parts a) (is_ow tariff parts b || false) t) ∙ none))

  -- what the unit owes behind its first part
  abbrev owed : ℕ
  owed = owed_above (true_cost tariff trip parts a) (reference_over tariff trip (start_of trip parts a) (end_of parts a) (part_at parts a).fare)

  rises : start_of trip parts a < end_of parts a
  rises = (all tariff trip parts price lawful).above a place_a.0 place_a.1

  is_owed : IsOwed tariff trip (end_of parts a) (end_of parts b) owed
  is_owed = record {
    start = start_of trip parts a;
    rises = rises;
    city = home;
    entry = entry tariff trip parts price lawful a;
    there = entry_there tariff trip parts price lawful a place_a.0 place_a.1;
    owes = ap (option_map (λ out. owed_above out (reference_over tariff trip (start_of trip parts a) (end_of parts a) (part_at parts a).fare))) (first_costs tariff trip parts price lawful a place_a.0 place_a.1 half_a (ap first_of mine) less);
  }

  -- the unit's own sectors up to where its first part ends are that part's
  own_are : own_sectors trip parts (a ∷ b ∷ []) (end_of parts a) ≡ sectors (start_of trip parts a) (end_of parts a)
  unfolding own_sectors
  own_are =
      let s : ℕ = start_of trip parts a in
      let e : ℕ = end_of parts a in
      let up : start_of trip parts a < end_of parts a = rises in
      let n : end_of parts a + 1 - 1 ≡ start_of trip parts a + (end_of parts a - start_of trip parts a) = omega arith in
      let m : 1 + start_of trip parts a ≡ start_of trip parts a + 1 = omega arith in
      let w : end_of parts a - start_of trip parts a ≡ end_of parts a + 1 - (start_of trip parts a + 1) = omega arith in
      ap (λ len. filter (is_own_sector trip parts (a ∷ b ∷ [])) (range_with_len 1 len)) n
      ∙ tail_kept (is_own_sector trip parts (a ∷ b ∷ [])) 1 (start_of trip parts a) (end_of parts a - start_of trip parts a)
      (λ k low high. neither (holds_sector trip parts k a) (holds_sector trip parts k b) (fails_first (ltb (start_of trip parts a) k) (leb k (end_of parts a)) (not_less (start_of trip parts a) k (omega arith))) (fails_first (ltb (start_of trip parts b) k) (leb k (end_of parts b)) (not_less (start_of trip parts b) k (omega arith))))
      (λ k low high. first_one (holds_sector trip parts k a) (holds_sector trip parts k b || false) (pass_both (ltb (start_of trip parts a) k) (leb k (end_of parts a)) (lt-ltb (start_of trip parts a) k (omega arith)) (le-leb k (end_of parts a) (omega arith))))
      ∙ ap (λ first. range_with_len first (end_of parts a - start_of trip parts a)) m ∙ ap (range_with_len (start_of trip parts a + 1)) w

  abbrev reference_by : Indicator → Option Nuc
  reference_by ind = option_and_then (λ (fare : FareRecord). reference tariff (point trip (start_of trip parts a)) (point trip (end_of parts a)) ind fare (first_day trip (start_of trip parts a))) (fare_of tariff parts a)

  reference_is : circle_reference tariff trip parts (a ∷ b ∷ []) a (end_of parts a) ≡ reference_over tariff trip (start_of trip parts a) (end_of parts a) (part_at parts a).fare
  unfolding circle_reference
  reference_is = ap reference_by (ap (indicator_of tariff trip) own_are)

  no_jaw : is_open_jaw tariff trip parts (a ∷ b ∷ []) ≡ false
  unfolding is_open_jaw
  no_jaw = no_gap _ _ _ _ _ _ (other_way (start_city trip parts b) (end_city trip parts a) chained) home

  -- the unit costs as much again where both parts cost the same, and else twice the reference
  worth : owed ≤ true_cost tariff trip parts b
  unfolding is_round_trip unit_kind
  worth =
      let cost : true_cost tariff trip parts a ≡ part_cost tariff trip parts (own parts (unit_of parts a)) a = half_is tariff trip parts price lawful a half_a less in
      let same : part_cost tariff trip parts (own parts (unit_of parts a)) a ≡ part_cost tariff trip parts (a ∷ b ∷ []) a = ap (λ xs. part_cost tariff trip parts xs a) mine in
      elim (cases_Bool (is_round_trip tariff trip parts (a ∷ b ∷ []))) [ inl t ↦ as_round t (cost ∙ same) | inr f ↦ as_circle f (cost ∙ same) ]
    where
      seconds : (part_cost tariff trip parts (a ∷ b ∷ []) b ≤ true_cost tariff trip parts b) × (true_cost tariff trip parts b ≡ unit_price tariff trip parts (unit_of parts b) - part_cost tariff trip parts (a ∷ b ∷ []) a)
      seconds = second_worth tariff trip parts price lawful a b two way

      up_to : (out worth : ℕ) (found : Option ℕ) → (out ≤ worth) ⊎ ((r : ℕ) → found ≡ Some r → 2 * r - out ≤ worth) → owed_above out found ≤ worth
      up_to out worth None h = omega arith
      up_to out worth (Some r) (inl h) = omega arith
      up_to out worth (Some r) (inr h) = let up : 2 * r - out ≤ worth = h r refl in omega arith

      as_round : is_round_trip tariff trip parts (a ∷ b ∷ []) ≡ true → true_cost tariff trip parts a ≡ part_cost tariff trip parts (a ∷ b ∷ []) a → owed ≤ true_cost tariff trip parts b
      as_round t cost =
          let equal : part_cost tariff trip parts (a ∷ b ∷ []) a ≡ part_cost tariff trip parts (a ∷ b ∷ []) b = eqb-true _ _ (and_parts (closes trip parts (a ∷ b ∷ [])) (are_two_equal (part_cost tariff trip parts (a ∷ b ∷ [])) (a ∷ b ∷ [])) t).1 in
          let low : part_cost tariff trip parts (a ∷ b ∷ []) b ≤ true_cost tariff trip parts b = seconds.0 in
          up_to (true_cost tariff trip parts a) (true_cost tariff trip parts b) (reference_over tariff trip (start_of trip parts a) (end_of parts a) (part_at parts a).fare) (inl (omega arith))

      as_circle : is_round_trip tariff trip parts (a ∷ b ∷ []) ≡ false → true_cost tariff trip parts a ≡ part_cost tariff trip parts (a ∷ b ∷ []) a → owed ≤ true_cost tariff trip parts b
      as_circle f cost =
          let kind_here : unit_kind tariff trip parts (a ∷ b ∷ []) ≡ CT = rw (none, no_jaw, f) refl in
          let K : List ℕ → Type 0 = λ xs. unit_kind tariff trip parts xs ≡ CT in
          let kind : unit_kind tariff trip parts (own parts (unit_of parts a)) ≡ CT = subst K (sym mine) kind_here in
          let R : List ℕ → Type 0 = λ xs. circle_reference tariff trip parts xs a (end_of parts a) ≡ reference_over tariff trip (start_of trip parts a) (end_of parts a) (part_at parts a).fare in
          let told = subst R (sym mine) reference_is in
          up_to (true_cost tariff trip parts a) (true_cost tariff trip parts b) (reference_over tariff trip (start_of trip parts a) (end_of parts a) (part_at parts a).fare) (inr (λ r e.
          let up : 2 * r ≤ unit_price tariff trip parts (unit_of parts a) = turning_in_unit tariff trip parts price lawful a place_a.0 place_a.1 less kind r (told ∙ e) in
          let unit : unit_price tariff trip parts (unit_of parts a) ≡ unit_price tariff trip parts (unit_of parts b) = ap (unit_price tariff trip parts) place_a.2 in
          let is : true_cost tariff trip parts b ≡ unit_price tariff trip parts (unit_of parts b) - part_cost tariff trip parts (a ∷ b ∷ []) a = seconds.1 in
          omega arith))

  pub owes : (y : ℕ) × IsOwed tariff trip (end_of parts a) (end_of parts b) y × (y ≤ true_cost tariff trip parts b)
  owes = (owed, is_owed, worth)
