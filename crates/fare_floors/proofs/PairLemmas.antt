-- The first and the last part of a unit of half round trips of a lawful construction combine, and the rule of each part
-- allows the unit's stay.
use Rattle.std.proofs.Common.{◌≡◌, ℕ, ◌+◌, ◌-◌, ◌<◌, ◌≤◌, Bool, true, false, ◌&&◌, not, List, [], ◌∷◌, length, refl, ap, sym, subst, ◌∙◌, arith}
use Rattle.std.specs.List.{list_any}
use Rattle.std.proofs.lemmas.Bool.{eq-eqb, eqb-true}
use Rattle.fare_trip.specs.Itinerary.{Itinerary}
use Rattle.fare_tariff.specs.Tariff.{Tariff}
use Rattle.fare_rules.specs.declared.part.Part.{Part}
use Rattle.fare_rules.specs.Construction.{end_of, fare_of, first_of, greatest_unit, is_own, last_of, own, part_at, places, start_of, unit_of}
use Rattle.fare_rules.specs.Numbers.{numbers}
use Rattle.fare_rules.specs.Shape.{holds_ow, is_hr, is_ow}
use Rattle.fare_rules.specs.UnitRules.{allows_stay_of, are_unit_mates, forbids_stay, has_misfit, is_misfit, is_misfitted, is_mistimed, misfitted, mistimed, stay}
use Rattle.fare_rules.specs.Best.{IsLawful}
use Rattle.fare_rules.proofs.LawfulLemmas.{kept}
use Rattle.fare_rules.proofs.MemberLemmas.{Member, member_numbers}
use Rattle.fare_rules.proofs.NumberLemmas.{find_none}
use Rattle.fare_legs.specs.Barred.{is_barred}
use Rattle.fare_legs.specs.Pairs.{HasPair, are_mates, days_between, may_pair}
use Rattle.fare_legs.specs.Threes.{IsFlown, IsOneOfThree}
use Rattle.fare_floors.specs.Costs.{true_cost}
use Rattle.fare_floors.proofs.GoesOnLemmas.{first_member, last_member, not_so}
use Rattle.fare_floors.proofs.ShutLemmas.{any_at, both_true}
use Rattle.fare_floors.proofs.SumLemmas.{kept_member}
use Rattle.fare_floors.proofs.TrueCostLemmas.{back_costs, entry, entry_there, first_costs}
use Rattle.fare_floors.proofs.UnitLemmas.{all, alone_in}

true_false : true ≡ false → ⊥
true_false e = cc

pub not_true : (b : Bool) → b ≡ false → not b ≡ true
not_true true e = absurd (true_false e)
not_true false e = refl

so_true : (b : Bool) → not b ≡ false → b ≡ true
so_true true e = refl
so_true false e = absurd (true_false e)

second_false : (a b : Bool) → a ≡ true → (a && b) ≡ false → b ≡ false
second_false true b e f = f
second_false false b e f = absurd (true_false (sym e))

some_there : (xs : List ℕ) → first_of xs < last_of xs → 1 ≤ length xs
some_there [] h = absurd (omega arith)
some_there (x ∷ xs) h = omega arith

-- a part of a unit has its number, and a place
pub own_place : (parts : List Part) (unit k : ℕ) → Member k (own parts unit) → (1 ≤ k) × (k ≤ length parts) × (unit_of parts k ≡ unit)
unfolding own
own_place parts unit k m =
    let h = kept_member (is_own parts unit) 1 (length parts + 1 - 1) k m in
    let past : k < 1 + (length parts + 1 - 1) = h.1 in
    (h.0, omega arith, eqb-true (unit_of parts k) unit h.2)

module _ (tariff : Tariff) (trip : Itinerary) (parts : List Part) (price : ℕ) (lawful : IsLawful tariff trip parts price) (unit : ℕ) (from_one : 1 ≤ unit) (high : unit ≤ greatest_unit parts (places parts)) (two : first_of (own parts unit) < last_of (own parts unit)) where
  abbrev first : ℕ
  first = first_of (own parts unit)

  abbrev last : ℕ
  last = last_of (own parts unit)

  first_in : Member first (own parts unit)
  first_in = first_member (own parts unit) (some_there (own parts unit) two)

  last_in : Member last (own parts unit)
  last_in = last_member (own parts unit) (some_there (own parts unit) two)

  first_place : (1 ≤ first) × (first ≤ length parts) × (unit_of parts first ≡ unit)
  first_place = own_place parts unit first first_in

  last_place : (1 ≤ last) × (last ≤ length parts) × (unit_of parts last ≡ unit)
  last_place = own_place parts unit last last_in

  -- the unit is one of half round trips
  pub no_ow : holds_ow tariff parts (own parts unit) ≡ false
  no_ow =
      not_so (holds_ow tariff parts (own parts unit)) (λ t.
      let one = alone_in tariff trip parts price lawful unit from_one high t in
      let begin : first_of (own parts unit) ≡ one.0 = ap first_of one.1 in
      let end : last_of (own parts unit) ≡ one.0 = ap last_of one.1 in
      let less : first_of (own parts unit) < last_of (own parts unit) = two in
      omega arith)

  half : (k : ℕ) → Member k (own parts unit) → is_ow tariff parts k ≡ false
  half k m = not_so (is_ow tariff parts k) (λ t. true_false (sym (any_at (is_ow tariff parts) k (own parts unit) m t) ∙ no_ow))

  pub last_half : is_ow tariff parts last ≡ false
  last_half = half last last_in

  -- each part combines with the earlier ones
  fits_at : (k : ℕ) → Member k (own parts unit) → has_misfit tariff parts k ≡ false
  unfolding misfitted
  fits_at k m =
      not_so (has_misfit tariff parts k) (λ t.
      true_false (sym (any_at (has_misfit tariff parts) k (own parts unit) m t)
      ∙ find_none (is_misfitted tariff parts) 1 (greatest_unit parts (places parts) + 1) (kept tariff trip parts price lawful).combine unit from_one (omega (arith, high))))

  pub fits : has_misfit tariff parts last ≡ false
  fits = fits_at last last_in

  mates_of : (j k : ℕ) → Member j (own parts unit) → Member k (own parts unit) → j < k → are_unit_mates tariff parts j k ≡ true
  mates_of j k m n less =
      let one = own_place parts unit j m in
      let other = own_place parts unit k n in
      let agree : is_misfit tariff parts k j ≡ false =
      not_so (is_misfit tariff parts k j) (λ t. true_false (sym (any_at (is_misfit tariff parts k) j (numbers 1 k) (member_numbers 1 k j one.0 less) t) ∙ fits_at k n)) in
      so_true (are_unit_mates tariff parts j k) (second_false _ (not (are_unit_mates tariff parts j k)) (eq-eqb (unit_of parts k) (unit_of parts j) (other.2 ∙ sym one.2)) agree)

  -- and its fare has an amount on the trip
  flown : (k : ℕ) → Member k (own parts unit) → IsFlown tariff trip (part_at parts k).fare
  flown k m =
      let place = own_place parts unit k m in
      let cover = all tariff trip parts price lawful in
      record {
        a = start_of trip parts k;
        b = end_of parts k;
        rises = cover.above k place.0 place.1;
        within = cover.within k place.0 place.1;
        entry = entry tariff trip parts price lawful k;
        there = entry_there tariff trip parts price lawful k place.0 place.1;
        fare = refl;
      }

  -- so that of a part between is one of three
  pub third_of : (k : ℕ) → Member k (own parts unit) → first < k → k < last → IsOneOfThree tariff trip (part_at parts k).fare
  third_of k m begun less = record {
    before = (part_at parts first).fare;
    behind = (part_at parts last).fare;
    flown_before = flown first first_in;
    flown_behind = flown last last_in;
    with_before = mates_of first k first_in m begun;
    with_behind = mates_of k last m last_in less;
    apart = mates_of first last first_in last_in two;
  }

  -- and the rule of each part allows the stay
  pub allows : (k : ℕ) → Member k (own parts unit) → forbids_stay tariff parts (stay trip parts (own parts unit)) k ≡ false
  unfolding mistimed is_hr
  allows k m =
      let timed : is_mistimed tariff trip parts unit ≡ false = find_none (is_mistimed tariff trip parts) 1 (greatest_unit parts (places parts) + 1) (kept tariff trip parts price lawful).stay unit from_one (omega (arith, high)) in
      let none : list_any (forbids_stay tariff parts (stay trip parts (own parts unit))) (own parts unit) ≡ false =
      second_false (not (holds_ow tariff parts (own parts unit))) (list_any (forbids_stay tariff parts (stay trip parts (own parts unit))) (own parts unit)) (not_true (holds_ow tariff parts (own parts unit)) no_ow) timed in
      not_so (forbids_stay tariff parts (stay trip parts (own parts unit)) k) (λ t. true_false (sym (any_at (forbids_stay tariff parts (stay trip parts (own parts unit))) k (own parts unit) m t) ∙ none))

  mates : are_unit_mates tariff parts first last ≡ true
  mates = mates_of first last first_in last_in two

  agree : are_mates tariff (days_between trip (start_of trip parts first) (start_of trip parts last)) (part_at parts first).fare (part_at parts last).fare ≡ true
  unfolding stay
  agree =
      let begin : allows_stay_of tariff (stay trip parts (own parts unit)) (fare_of tariff parts first) ≡ true = so_true _ (allows first first_in) in
      let end : allows_stay_of tariff (stay trip parts (own parts unit)) (fare_of tariff parts last) ≡ true = so_true _ (allows last last_in) in
      both_true (are_unit_mates tariff parts first last) _ mates (both_true _ _ begin end)

  may : (barred : List ℕ) → is_barred tariff barred (part_at parts first).fare ≡ false → is_barred tariff barred (part_at parts last).fare ≡ false
      → may_pair tariff barred (days_between trip (start_of trip parts first) (start_of trip parts last)) (part_at parts first).fare (part_at parts last).fare ≡ true
  may barred begin end = both_true (are_mates tariff (days_between trip (start_of trip parts first) (start_of trip parts last)) (part_at parts first).fare (part_at parts last).fare) _ agree (both_true _ _ (ap not begin) (ap not end))

  -- so both are a pair, which the unit costs at least, where neither is barred
  pub pair_of : (barred : List ℕ) → is_barred tariff barred (part_at parts first).fare ≡ false → is_barred tariff barred (part_at parts last).fare ≡ false → (cost : ℕ) → end_of parts first ≤ start_of trip parts last → true_cost tariff trip parts first + true_cost tariff trip parts last ≤ cost → HasPair tariff trip barred (start_of trip parts first) (end_of parts last) cost
  pair_of barred begin end cost later sum =
      let first_own : first_of (own parts (unit_of parts first)) ≡ first = ap (λ u. first_of (own parts u)) first_place.2 in
      let last_own : last_of (own parts (unit_of parts last)) ≡ last = ap (λ u. last_of (own parts u)) last_place.2 in
      let P : ℕ → Type 0 = λ u. first < last_of (own parts u) in
      let back = back_costs tariff trip parts price lawful last last_place.0 last_place.1 (half last last_in) last_own in
      let low : back.0 ≤ true_cost tariff trip parts last = back.2 in
      record {
        end = end_of parts first;
        first = entry tariff trip parts price lawful first;
        first_there = entry_there tariff trip parts price lawful first first_place.0 first_place.1;
        first_amount = true_cost tariff trip parts first;
        first_costs = first_costs tariff trip parts price lawful first first_place.0 first_place.1 (half first first_in) first_own (subst P (sym first_place.2) two);
        begin = start_of trip parts last;
        later = later;
        last = entry tariff trip parts price lawful last;
        last_there = entry_there tariff trip parts price lawful last last_place.0 last_place.1;
        last_amount = back.0;
        last_costs = back.1;
        may = may barred begin end;
        sum = omega arith;
      }
