-- What some first parts bar, and that no unit that begins behind them has it.
use Rattle.std.proofs.Common.{◌≡◌, ℕ, zero, suc, ◌+◌, ◌<◌, ◌≤◌, true, false, not, List, [], ◌∷◌, ◌++◌, length, refl, ap, sym, subst, ◌∙◌, inl, inr, arith}
use Rattle.std.specs.Prelude.{Option, Some, None}
use Rattle.std.proofs.Math.ListN.{length-append}
use Rattle.std.proofs.lemmas.Bool.{cases_Bool, ne_eqb}
use Rattle.fare_codes.specs.declared.rule_id.RuleId.{RuleId}
use Rattle.fare_trip.specs.Itinerary.{Itinerary}
use Rattle.fare_tariff.specs.Record.{FareRecord}
use Rattle.fare_tariff.specs.Tariff.{Tariff}
use Rattle.fare_tariff.specs.Lookup.{ends_ok, fare_at}
use Rattle.fare_rules.specs.declared.part.Part.{Part}
use Rattle.fare_rules.specs.Best.{IsLawful}
use Rattle.fare_rules.specs.Construction.{fare_of, first_of, own, part_at, unit_of}
use Rattle.fare_rules.specs.Numbers.{numbers}
use Rattle.fare_rules.specs.Shape.{is_same_unit}
use Rattle.fare_rules.specs.UnitRules.{are_end_mates, clashed, clashes, is_clash, rules_pass}
use Rattle.fare_rules.proofs.LawfulLemmas.{IsKept, kept}
use Rattle.fare_rules.proofs.MemberLemmas.{member_numbers}
use Rattle.fare_rules.proofs.NumberLemmas.{find_none}
use Rattle.fare_component.specs.Table.{Pricing}
use Rattle.fare_bounds.specs.Covers.{rest_at}
use Rattle.fare_homing.specs.declared.homing.Homing.{Homing}
use Rattle.fare_homing.specs.declared.onward.Onwards.{Onwards}
use Rattle.fare_legs.specs.declared.limits.TheConstants.{MOST_SETS}
use Rattle.fare_legs.specs.Barred.{is_among, is_barred, is_like_one_of}
use Rattle.fare_homing.specs.Onward.{AreOnwards, next_with, onward_at}
use Rattle.fare_homing.specs.Rows.{AreHomingsOf, begun_from, cell, closing_from, jaw_from}
use Rattle.fare_floors.specs.Barring.{left_of, set_after}
use Rattle.fare_floors.proofs.GoesOnLemmas.{not_so, own_first}
use Rattle.fare_floors.proofs.SameLemmas.{fare_same}
use Rattle.fare_floors.proofs.ShutLemmas.{any_at, both_true}
use Rattle.fare_floors.proofs.StackLemmas.{IsBehind}
use Rattle.fare_floors.proofs.UnitLemmas.{own_has}

true_false : true ≡ false → ⊥
true_false e = cc

-- one of the parts up to a place has a fare whose rule doesn't combine with another
record BarsBy (tariff : Tariff) (parts : List Part) (k : ℕ) (rule : Option RuleId) : Type 0 where
  place : ℕ
  low : 1 ≤ place
  high : place ≤ k
  fare : FareRecord
  filed : fare_of tariff parts place ≡ Some fare
  bars : ends_ok tariff fare.rule rule ≡ false

module _ (tariff : Tariff) (trip : Itinerary) (begun jaw : ℕ → ℕ → ℕ → Option ℕ) (onwards : Onwards) (are : AreOnwards tariff trip begun jaw onwards) (parts : List Part) where
  pub next_within : (set : ℕ) (found : Option FareRecord) → set < MOST_SETS → next_with tariff onwards set found < MOST_SETS
  next_within set None less = less
  next_within set (Some fare) less = are.within set fare.rule less

  pub after_within : (k : ℕ) → set_after tariff onwards parts k < MOST_SETS
  after_within zero = omega arith
  after_within (suc k) = next_within (set_after tariff onwards parts k) (fare_of tariff parts (suc k)) (after_within k)

  -- what is barred behind so many parts one of them bars
  barred_by : (k : ℕ) (rule : Option RuleId) → is_among tariff (onward_at onwards (set_after tariff onwards parts k)).barred rule ≡ true → BarsBy tariff parts k rule
  barred_by zero rule h = absurd (are.first rule h)
  barred_by (suc k) rule h = by_fare (fare_of tariff parts (suc k)) refl (barred_by k rule) h
    where
      before : BarsBy tariff parts k rule → BarsBy tariff parts (suc k) rule
      before by = let high : by.place ≤ k = by.high in record { place = by.place; low = by.low; high = omega arith; fare = by.fare; filed = by.filed; bars = by.bars }

      here : (fare : FareRecord) → fare_of tariff parts (suc k) ≡ Some fare → ends_ok tariff fare.rule rule ≡ false → BarsBy tariff parts (suc k) rule
      here fare filed bars = record { place = suc k; low = omega arith; high = omega arith; fare = fare; filed = filed; bars = bars }

      by_fare : (found : Option FareRecord) → fare_of tariff parts (suc k) ≡ found → (is_among tariff (onward_at onwards (set_after tariff onwards parts k)).barred rule ≡ true → BarsBy tariff parts k rule) → is_among tariff (onward_at onwards (next_with tariff onwards (set_after tariff onwards parts k) found)).barred rule ≡ true → BarsBy tariff parts (suc k) rule
      by_fare None filed earlier t = before (earlier t)
      by_fare (Some fare) filed earlier t = elim (are.steps (set_after tariff onwards parts k) fare.rule (after_within k) rule t) [ inl old ↦ before (earlier old) | inr new ↦ here fare filed new ]

-- a barred fare is like one of those whose rules are barred
barred_like : (tariff : Tariff) (fares : List ℕ) (number : ℕ) → is_barred tariff fares number ≡ true → is_like_one_of tariff fares (fare_at tariff number) ≡ true
barred_like tariff [] number h = absurd (true_false (sym h))
barred_like tariff (x ∷ xs) number h = h

-- such a fare is filed
record IsNamed (tariff : Tariff) (fares : List ℕ) (found : Option FareRecord) : Type 0 where
  fare : FareRecord
  filed : found ≡ Some fare
  among : is_among tariff fares fare.rule ≡ true

named : (tariff : Tariff) (fares : List ℕ) (found : Option FareRecord) → is_like_one_of tariff fares found ≡ true → IsNamed tariff fares found
named tariff fares None h = absurd (true_false (sym h))
named tariff fares (Some fare) h = record { fare = fare; filed = refl; among = h }

module _ (tariff : Tariff) (trip : Itinerary) (front rest : List Part) (price : ℕ) (lawful : IsLawful tariff trip (front ++ rest) price) where
  holds : IsKept tariff trip (front ++ rest)
  holds = kept tariff trip (front ++ rest) price lawful

  -- parts of two units combine end on end
  mates : (j k : ℕ) → 1 ≤ j → j < k → k ≤ length (front ++ rest) → (unit_of (front ++ rest) k ≡ unit_of (front ++ rest) j → ⊥) → are_end_mates tariff (front ++ rest) j k ≡ true
  unfolding clashed
  mates j k low less high other =
      let apart : is_same_unit (front ++ rest) k j ≡ false = ne_eqb (unit_of (front ++ rest) k) (unit_of (front ++ rest) j) other in
      let fails : clashes tariff (front ++ rest) k ≡ false = find_none (clashes tariff (front ++ rest)) 1 (length (front ++ rest) + 1) holds.ends k (omega arith) (omega arith) in
      let none : is_clash tariff (front ++ rest) k j ≡ false = not_so (is_clash tariff (front ++ rest) k j) (λ t. true_false (sym (any_at (is_clash tariff (front ++ rest) k) j (numbers 1 k) (member_numbers 1 k j low less) t) ∙ fails)) in
      elim (cases_Bool (are_end_mates tariff (front ++ rest) j k)) [
        | inl t ↦ t
        | inr f ↦
            let bars : not (are_end_mates tariff (front ++ rest) j k) ≡ true = ap not f in
            let different : not (is_same_unit (front ++ rest) k j) ≡ true = ap not apart in
            absurd (true_false (sym (both_true (not (is_same_unit (front ++ rest) k j)) (not (are_end_mates tariff (front ++ rest) j k)) different bars) ∙ none))
      ]

  -- a unit that begins behind the first parts has no fare with which one of them doesn't combine
  combines : (k : ℕ) → 1 ≤ k → k ≤ length (front ++ rest) → length front < first_of (own (front ++ rest) (unit_of (front ++ rest) k)) → (fare : FareRecord) → fare_of tariff (front ++ rest) k ≡ Some fare → BarsBy tariff front (length front) fare.rule → ⊥
  combines k low high behind fare is by =
      let place : by.place ≤ length front = by.high in
      let n : length (front ++ rest) ≡ length front + length rest = length-append front rest in
      let mine : first_of (own (front ++ rest) (unit_of (front ++ rest) k)) ≤ k = own_first (front ++ rest) (unit_of (front ++ rest) k) k (own_has tariff trip (front ++ rest) price lawful k low high) in
      let U : ℕ → Type 0 = λ u. first_of (own (front ++ rest) u) ≤ by.place in
      let other : unit_of (front ++ rest) k ≡ unit_of (front ++ rest) by.place → ⊥ = λ same.
      let before : first_of (own (front ++ rest) (unit_of (front ++ rest) k)) ≤ by.place = subst U (sym same) (own_first (front ++ rest) (unit_of (front ++ rest) by.place) by.place (own_has tariff trip (front ++ rest) price lawful by.place by.low (omega arith))) in
      omega arith in
      let filed : fare_of tariff (front ++ rest) by.place ≡ Some by.fare = fare_same tariff trip front rest by.place by.low by.high ∙ by.filed in
      let together : are_end_mates tariff (front ++ rest) by.place k ≡ true = mates by.place k by.low (omega arith) high other in
      let P : Option FareRecord → Type 0 = λ one. rules_pass (ends_ok tariff) one (fare_of tariff (front ++ rest) k) ≡ true in
      let R : Option FareRecord → Type 0 = λ other. rules_pass (ends_ok tariff) (Some by.fare) other ≡ true in
      let pass : ends_ok tariff by.fare.rule fare.rule ≡ true = subst R is (subst P filed together) in
      true_false (sym pass ∙ by.bars)

-- so what is left of what is behind is behind the first parts
pub left_is_behind : (table : Pricing) (homing : Homing) → AreHomingsOf table.edition table.trip homing → (front rest : List Part) (price : ℕ) → IsLawful table.edition table.trip (front ++ rest) price
    → IsBehind table.edition table.trip homing.unit_ceiling (begun_from homing) (closing_from homing) (jaw_from homing) (cell homing.whole) (rest_at (left_of table.edition homing front)) (front ++ rest) (length front)
left_is_behind table homing are front rest price lawful =
    let set : ℕ = set_after table.edition homing.onwards front (length front) in
    let within = after_within table.edition table.trip (begun_from homing) (jaw_from homing) homing.onwards are.onwards front (length front) in
    let rests = are.onwards.rests (set_after table.edition homing.onwards front (length front)) within in
    record {
      kept = rest_at homing.rest;
      homings = are.known;
      barred = (onward_at homing.onwards (set_after table.edition homing.onwards front (length front))).barred;
      outer = rests.0;
      rests = rests.1;
      clear = λ j low high behind. free j low high behind;
    }
  where
    free : (j : ℕ) → 1 ≤ j → j ≤ length (front ++ rest) → length front < first_of (own (front ++ rest) (unit_of (front ++ rest) j)) → is_barred table.edition (onward_at homing.onwards (set_after table.edition homing.onwards front (length front))).barred (part_at (front ++ rest) j).fare ≡ false
    free j low high behind =
        not_so (is_barred table.edition (onward_at homing.onwards (set_after table.edition homing.onwards front (length front))).barred (part_at (front ++ rest) j).fare) (λ t.
        let one = named table.edition (onward_at homing.onwards (set_after table.edition homing.onwards front (length front))).barred (fare_of table.edition (front ++ rest) j) (barred_like table.edition (onward_at homing.onwards (set_after table.edition homing.onwards front (length front))).barred (part_at (front ++ rest) j).fare t) in
        combines table.edition table.trip front rest price lawful j low high behind one.fare one.filed (barred_by table.edition table.trip (begun_from homing) (jaw_from homing) homing.onwards are.onwards front (length front) one.fare.rule one.among))
