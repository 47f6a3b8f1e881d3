-- A unit that costs more than a ceiling, with the least that all others cost, is above the limit of a bar.
use Rattle.std.proofs.Common.{◌≡◌, ℕ, zero, suc, ◌+◌, ◌-◌, ◌<◌, ◌≤◌, true, false, List, [], ◌∷◌, length, refl, ap, sym, subst, ◌∙◌, inl, inr, arith}
use Rattle.std.specs.Prelude.{Some, None, IfSome, sum_by}
use Rattle.std.specs.List.{range_with_len}
use Rattle.std.proofs.lemmas.Bool.{cases_lt}
use Rattle.std.proofs.lemmas.List.Sums.{sum_by-cons}
use Rattle.std.proofs.lemmas.Option.{same_Some}
use Rattle.fare_trip.specs.Itinerary.{count}
use Rattle.fare_rules.specs.declared.part.Part.{Part}
use Rattle.fare_rules.specs.Best.{IsLawful}
use Rattle.fare_rules.specs.Construction.{begin_after, end_of, first_of, greatest_unit, last_of, own, places, start_of, unit_of}
use Rattle.fare_rules.specs.Shape.{holds_ow, is_ow}
use Rattle.fare_rules.specs.UnitPrice.{unit_price}
use Rattle.fare_rules.proofs.MemberLemmas.{Member}
use Rattle.fare_bounds.specs.Covers.{rest_at}
use Rattle.fare_component.specs.Table.{Pricing}
use Rattle.fare_legs.specs.declared.ceiling.Ceiling.{Ceiling}
use Rattle.fare_legs.specs.Ceiling.{HasOneIndicator}
use Rattle.fare_legs.specs.Costs.{IsUpTo, is_same_city}
use Rattle.fare_homing.specs.declared.homing.Homing.{Homing}
use Rattle.fare_homing.specs.Rows.{begun_from, cell, closing_from, jaw_from, AreHomingsOf}
use Rattle.fare_homing.specs.Units.{AreUnitsWithin, IsBar}
use Rattle.fare_floors.specs.Costs.{true_cost, units_floor}
use Rattle.fare_floors.specs.Stack.{own_from, IsOver}
use Rattle.fare_floors.proofs.CostLemmas.{member_place}
use Rattle.fare_floors.proofs.GoesOnLemmas.{first_member, last_member, own_first, own_two}
use Rattle.fare_floors.proofs.OverLemmas.{all_over, begins_next, first_whole, half_shape, none_new, part_over, part_rises}
use Rattle.fare_floors.proofs.OnwardLemmas.{ends_rise}
use Rattle.fare_floors.proofs.PairLemmas.{no_ow}
use Rattle.fare_floors.proofs.StackFloorLemmas.{spent_up}
use Rattle.fare_floors.proofs.StackLemmas.{IsBehind, begins_at, home_at, over_down}
use Rattle.fare_floors.proofs.StandLemmas.{from_here, from_over, point_behind}
use Rattle.fare_floors.proofs.TrueCostLemmas.{half_all, half_of}
use Rattle.fare_floors.proofs.UnitLemmas.{all, own_has}

-- by how much a unit that costs so much or more is above the least that one costs between its points, at least
abbrev pub IsExcess : Pricing → Homing → ℕ → ℕ → Type 0
IsExcess table homing dear excess =
    (i j w : ℕ) → i < count table.trip → j ≤ count table.trip → is_same_city table.trip (begin_after table.trip i) j ≡ true → i < j
    → cell homing.whole i j ≡ Some w → excess ≤ dear - w

module _ (table : Pricing) (homing : Homing) (are : AreHomingsOf table.edition table.trip homing) (free : homing.ceiling ≡ None) (dear excess least : ℕ) (is : IsExcess table homing dear excess) (low : rest_at homing.rest 0 ≡ Some least)
    (parts : List Part) (price : ℕ) (lawful : IsLawful table.edition table.trip parts price) (unit : ℕ) (one : 1 ≤ unit) (most : unit ≤ greatest_unit parts (places parts)) (long : 3 ≤ length (own parts unit)) (costs : dear ≤ unit_price table.edition table.trip parts unit) where
  abbrev Under : Type 0
  Under = IsBehind table.edition table.trip homing.unit_ceiling (begun_from homing) (closing_from homing) (jaw_from homing) (cell homing.whole) (rest_at homing.rest) parts 0

  behind : Under
  behind = record {
    kept = rest_at homing.rest;
    homings = are.known;
    barred = [];
    outer = cell homing.whole;
    rests = record { wholes = are.known.wholes; onward = are.known.onward; nothing = are.known.nothing };
    clear = λ j low high behind. refl;
  }

  cheap : AreUnitsWithin table.edition table.trip parts homing.unit_ceiling
  cheap = are.unit_ceiling.units parts price lawful (subst (λ ceiling. IfSome ceiling (λ (known : Ceiling). price ≤ known.price)) (sym free) tt)

  abbrev greatest : ℕ
  greatest = greatest_unit parts (places parts)

  abbrev Stands : ℕ → ℕ → ℕ → Type 0
  Stands k i cost = IsOver table.edition table.trip (begun_from homing) (closing_from homing) (jaw_from homing) (rest_at homing.rest) parts k (greatest_unit parts (places parts)) i cost

  -- what the parts behind a place cost
  abbrev behind_cost : ℕ → ℕ
  behind_cost k = sum_by (true_cost table.edition table.trip parts) (range_with_len (k + 1) (length parts - k))

  rises : first_of (own parts unit) < last_of (own parts unit)
  rises = own_two parts unit (omega (arith, long))

  begins_in : Member (first_of (own parts unit)) (own parts unit)
  begins_in = first_member (own parts unit) (omega (arith, long))

  place : (1 ≤ first_of (own parts unit)) × (first_of (own parts unit) ≤ length parts) × (unit_of parts (first_of (own parts unit)) ≡ unit)
  place = member_place table.edition table.trip parts price lawful unit (first_of (own parts unit)) begins_in

  none : holds_ow table.edition parts (own parts unit) ≡ false
  none = no_ow table.edition table.trip parts price lawful unit one most rises

  city : is_same_city table.trip (begins_at table.trip parts unit) (home_at parts unit) ≡ true
  city = (half_shape table.edition table.trip parts price lawful unit one most (own parts unit) refl none).1 long

  behind_next : (k : ℕ) → point_behind parts (k + 1) ≡ end_of parts (k + 1)
  behind_next k =
      let e : suc k ≡ k + 1 = omega arith in
      let P : ℕ → Type 0 = λ n. point_behind parts n ≡ end_of parts n in
      subst P e refl

  -- a part more is what it costs more
  one_more : (k : ℕ) → k + 1 ≤ length parts → behind_cost k ≡ true_cost table.edition table.trip parts (k + 1) + behind_cost (k + 1)
  one_more k high =
      let n : length parts - k ≡ suc (length parts - (k + 1)) = omega arith in
      ap (λ m. sum_by (true_cost table.edition table.trip parts) (range_with_len (k + 1) m)) n
      ∙ sum_by-cons (true_cost table.edition table.trip parts) (k + 1) (range_with_len (k + 1 + 1) (length parts - (k + 1)))

  -- all that the unit has is behind the places before its first one
  from_start : (k : ℕ) → k < first_of (own parts unit) → own_from parts k unit ≡ own parts unit
  unfolding own
  from_start zero less = refl
  from_start (suc k) less =
      let e : k + 1 ≡ suc k = omega arith in
      let within : first_of (own parts unit) ≤ length parts = place.1 in
      let other : unit_of parts (k + 1) ≡ unit → ⊥ = λ same.
      let P : ℕ → Type 0 = λ u. Member (k + 1) (own parts u) in
      let before : first_of (own parts unit) ≤ k + 1 = own_first parts unit (k + 1) (subst P same (own_has table.edition table.trip parts price lawful (k + 1) (omega arith) (omega arith))) in
      absurd (omega arith) in
      let Q : ℕ → Type 0 = λ j. own_from parts j unit ≡ own parts unit in
      subst Q e (from_over parts k unit other ∙ from_start k (omega arith))

  last_place : (k : ℕ) → first_of (own parts unit) ≡ k + 1 → (k + 1 < last_of (own parts unit)) × (last_of (own parts unit) ≤ length parts)
  last_place k here =
      let rise : first_of (own parts unit) < last_of (own parts unit) = rises in
      let ends = member_place table.edition table.trip parts price lawful unit (last_of (own parts unit)) (last_member (own parts unit) (omega (arith, long))) in
      (omega arith, ends.1)

  costs_all : dear ≤ sum_by (true_cost table.edition table.trip parts) (own parts unit)
  costs_all =
      let whole : sum_by (true_cost table.edition table.trip parts) (own parts unit) ≡ unit_price table.edition table.trip parts unit = half_all table.edition table.trip parts price lawful unit none (omega (arith, long)) in
      omega (arith, costs)

  -- behind a place the others cost less by the excess than all do there
  abbrev Dear : ℕ → Type 0
  Dear k = (n : ℕ) × (n + excess ≤ behind_cost k) × Stands k (point_behind parts k) n

  -- from where the unit begins on
  module _ (k : ℕ) (here : first_of (own parts unit) ≡ k + 1) where
    high : k + 1 ≤ length parts
    high = let within : first_of (own parts unit) ≤ length parts = place.1 in omega arith

    mine : unit_of parts (k + 1) ≡ unit
    mine = subst (λ j. unit_of parts j ≡ unit) here place.2

    over : IsOver table.edition table.trip (begun_from homing) (closing_from homing) (jaw_from homing) (rest_at homing.rest) parts (k + 1) (greatest_unit parts (places parts)) (end_of parts (k + 1)) (behind_cost (k + 1))
    over =
        let within : k + 1 ≤ length parts = high in
        let P : ℕ → Type 0 = λ j. Stands (k + 1) j (behind_cost (k + 1)) in
        subst P (behind_next k) (all_over table.edition table.trip parts price lawful homing.unit_ceiling are.unit_ceiling.alike cheap (begun_from homing) (closing_from homing) (jaw_from homing) (cell homing.whole) (rest_at homing.rest) behind (length parts - (k + 1)) (k + 1) (omega arith) (omega arith))

    way : is_ow table.edition parts (k + 1) ≡ false
    way = half_of table.edition table.trip parts price lawful unit (k + 1) none (subst (λ j. Member j (own parts unit)) here begins_in)

    first_here : first_of (own parts (unit_of parts (k + 1))) ≡ k + 1
    first_here = ap (λ u. first_of (own parts u)) mine ∙ here

    -- from where it begins on, what it costs above the least that one does between its points is left over
    dear_here : Dear k
    unfolding behind
    dear_here =
        let w = first_whole table.edition table.trip parts price lawful homing.unit_ceiling are.unit_ceiling.alike cheap (begun_from homing) (closing_from homing) (jaw_from homing) (cell homing.whole) (rest_at homing.rest) behind k high (behind_cost (k + 1)) over way (omega arith) first_here in
        let up = w.up in
        let found : ℕ = up.0 in
        let low_up : up.0 ≤ w.unit_cost = up.2 in
        let rise : point_behind parts k < end_of parts (k + 1) = part_rises table.edition table.trip parts price lawful k high in
        let H : ℕ → Type 0 = λ u. is_same_city table.trip (begins_at table.trip parts u) (home_at parts u) ≡ true in
        let begins : begins_at table.trip parts (unit_of parts (k + 1)) ≡ begin_after table.trip (point_behind parts k) = ap (start_of table.trip parts) first_here ∙ sym (begins_next table.edition table.trip parts price lawful k high) in
        let A : ℕ → Type 0 = λ a. is_same_city table.trip a (home_at parts (unit_of parts (k + 1))) ≡ true in
        let same : is_same_city table.trip (begin_after table.trip (point_behind parts k)) (home_at parts (unit_of parts (k + 1))) ≡ true = subst A begins (subst H (sym mine) city) in
        let last : ℕ = last_of (own parts (unit_of parts (k + 1))) in
        let L : ℕ → Type 0 = λ u. (k + 1 < last_of (own parts u)) × (last_of (own parts u) ≤ length parts) in
        let later : L (unit_of parts (k + 1)) = subst L (sym mine) (last_place k here) in
        let a : k + 1 < last_of (own parts (unit_of parts (k + 1))) = later.0 in
        let b : last_of (own parts (unit_of parts (k + 1))) ≤ length parts = later.1 in
        let past : end_of parts (k + 1) < home_at parts (unit_of parts (k + 1)) = ends_rise table.trip parts (all table.edition table.trip parts price lawful) (k + 1) (last_of (own parts (unit_of parts (k + 1)))) (omega arith) a b in
        let within : home_at parts (unit_of parts (k + 1)) ≤ count table.trip = (all table.edition table.trip parts price lawful).within (last_of (own parts (unit_of parts (k + 1)))) (omega arith) b in
        let more : excess ≤ dear - up.0 = is (point_behind parts k) (home_at parts (unit_of parts (k + 1))) up.0 (omega arith) within same (omega arith) up.1 in
        let less : k < first_of (own parts unit) = omega (arith, here) in
        let S : ℕ → Type 0 = λ u. own_from parts k u ≡ own parts u in
        let whole : own parts (unit_of parts (k + 1)) ≡ (k + 1) ∷ own_from parts (k + 1) (unit_of parts (k + 1)) = sym (subst S (sym mine) (from_start k less)) ∙ from_here parts k high in
        let sum : sum_by (true_cost table.edition table.trip parts) (own parts (unit_of parts (k + 1))) ≡ true_cost table.edition table.trip parts (k + 1) + sum_by (true_cost table.edition table.trip parts) (own_from parts (k + 1) (unit_of parts (k + 1))) =
        ap (sum_by (true_cost table.edition table.trip parts)) whole ∙ sum_by-cons (true_cost table.edition table.trip parts) (k + 1) (own_from parts (k + 1) (unit_of parts (k + 1))) in
        let T : ℕ → Type 0 = λ u. dear ≤ sum_by (true_cost table.edition table.trip parts) (own parts u) in
        let costly : T (unit_of parts (k + 1)) = subst T (sym mine) costs_all in
        let paid : true_cost table.edition table.trip parts (k + 1) + sum_by (true_cost table.edition table.trip parts) (own_from parts (k + 1) (unit_of parts (k + 1))) ≤ w.unit_cost = w.all in
        let total : w.unit_cost + w.left_over ≤ true_cost table.edition table.trip parts (k + 1) + behind_cost (k + 1) = w.sum in
        let next : behind_cost k ≡ true_cost table.edition table.trip parts (k + 1) + behind_cost (k + 1) = one_more k high in
        (up.0 + w.left_over, omega arith, w.over_it up.0 (up.0, up.1, omega arith) (up.0, up.1, omega arith))

  -- and so it is behind each place before that
  dear_down : (t k : ℕ) → first_of (own parts unit) ≡ k + t + 1 → Dear k
  dear_down zero k here = dear_here k (here ∙ omega arith)
  dear_down (suc t) k here =
      let within : first_of (own parts unit) ≤ length parts = place.1 in
      let high : k + 1 ≤ length parts = omega arith in
      let d = dear_down t (k + 1) (omega arith) in
      let sum : d.0 + excess ≤ behind_cost (k + 1) = d.1 in
      let P : ℕ → Type 0 = λ j. Stands (k + 1) j d.0 in
      let next : behind_cost k ≡ true_cost table.edition table.trip parts (k + 1) + behind_cost (k + 1) = one_more k high in (
        true_cost table.edition table.trip parts (k + 1) + d.0,
        omega arith,
        part_over table.edition table.trip parts price lawful homing.unit_ceiling are.unit_ceiling.alike cheap (begun_from homing) (closing_from homing) (jaw_from homing) (cell homing.whole) (rest_at homing.rest) behind k high d.0 (subst P (behind_next k) d.2) (omega arith),
      )

  -- so all cost no less than the least and that
  pub least_and_excess : least + excess ≤ price
  least_and_excess =
      let one_place : 1 ≤ first_of (own parts unit) = place.0 in
      let d = dear_down (first_of (own parts unit) - 1) 0 (omega arith) in
      let sum : d.0 + excess ≤ behind_cost 0 = d.1 in
      let down : IsUpTo d.0 (rest_at homing.rest 0) = over_down table.edition table.trip (begun_from homing) (closing_from homing) (jaw_from homing) (rest_at homing.rest) parts 0 0 (greatest_unit parts (places parts)) 0 d.0 (omega arith)
      (λ v low most. none_new table.edition table.trip [] parts price lawful v low) d.2 in
      let same : least ≡ down.0 = same_Some least down.0 (sym low ∙ down.1) in
      let up : down.0 ≤ d.0 = down.2 in
      let spent : units_floor table.edition table.trip [] + sum_by (true_cost table.edition table.trip parts) (range_with_len 1 (length parts)) ≤ price = spent_up table.edition table.trip [] parts price lawful in
      let whole_list : length parts - 0 ≡ length parts = omega arith in
      let all_of : behind_cost 0 ≡ sum_by (true_cost table.edition table.trip parts) (range_with_len 1 (length parts)) = ap (λ m. sum_by (true_cost table.edition table.trip parts) (range_with_len 1 m)) whole_list in
      omega arith

-- so no unit costs more than the ceiling in what costs no more than the limit
pub bar_is : (table : Pricing) (homing : Homing) → AreHomingsOf table.edition table.trip homing → homing.ceiling ≡ None → (ceiling : Ceiling) → HasOneIndicator table.edition table.trip ceiling.indicator → (dear excess least limit : ℕ) → 1 ≤ dear
    → IsExcess table homing dear excess → rest_at homing.rest 0 ≡ Some least → limit + 1 ≤ least + excess → IsBar table.edition table.trip (record { limit = limit; unit = record { price = dear - 1; indicator = ceiling.indicator } })
bar_is table homing are free ceiling alike dear excess least limit some is low below = record {
  alike = alike;
  units = λ parts price lawful within unit one most long.
      elim (cases_lt (unit_price table.edition table.trip parts unit) dear) [
        | inl less ↦ omega arith
        | inr past ↦ let more : least + excess ≤ price = least_and_excess table homing are free dear excess least is low parts price lawful unit one most long past in absurd (omega arith)
      ];
}
