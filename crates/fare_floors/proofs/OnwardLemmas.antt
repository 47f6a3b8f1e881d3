-- A unit of the first parts of a lawful construction that must have more parts does: it has parts behind them, it comes
-- home there, each of its first parts has an amount as one that is not its last, and they are chained.
use Rattle.std.proofs.Common.{◌≡◌, ℕ, zero, suc, ◌+◌, ◌-◌, ◌<◌, ◌≤◌, ◌⊎◌, Bool, true, false, ◌&&◌, ◌||◌, not, ltb, leb, eqb, List, [], ◌∷◌, ◌++◌, length, refl, ap, sym, subst, ◌∙◌, inl, inr, arith}
use Rattle.std.specs.Prelude.{bytes_eq, is_some}
use Rattle.std.specs.List.{list_any}
use Rattle.std.proofs.Math.ListN.{length-append}
use Rattle.std.proofs.lemmas.Bool.{cases_Bool, cases_lt, or_cases, and_parts, lt-ltb, lt-leb, not-true, eqb-true, eq-eqb, ne_eqb}
use Rattle.std.proofs.lemmas.List.{append-nil}
use Rattle.fare_codes.specs.declared.city.City.{City}
use Rattle.fare_trip.specs.Itinerary.{Itinerary, count}
use Rattle.fare_tariff.specs.Tariff.{Tariff}
use Rattle.fare_rules.specs.declared.part.Part.{Part}
use Rattle.fare_rules.specs.Construction.{places, own, is_own, last_of, greatest_unit, start_of, end_of, part_at, start_city, end_city, unit_of}
use Rattle.fare_rules.specs.ComponentAmount.{component_amount}
use Rattle.fare_rules.specs.Direction.{heads_home, is_back_in}
use Rattle.fare_rules.specs.Shape.{holds_ow, is_hr, is_mixed, mixed, is_chained, comes_home, comes_home_early, ends_at_home, closes, is_jaw, is_open_jaw, must_close, is_unchained, unchained, is_unclosed, unclosed, lie_together}
use Rattle.fare_rules.specs.UnitPrice.{part_amount}
use Rattle.fare_rules.specs.UnitRules.{is_mistimed, mistimed}
use Rattle.fare_rules.specs.Best.{IsLawful}
use Rattle.fare_rules.proofs.AmountLemmas.{amount_of_part}
use Rattle.fare_rules.proofs.CoverLemmas.{IsCover, cover, both_false, begins_later, same_end}
use Rattle.fare_rules.proofs.LawfulLemmas.{kept}
use Rattle.fare_rules.proofs.MemberLemmas.{Member, member_numbers}
use Rattle.fare_rules.proofs.NumberLemmas.{find_none}
use Rattle.fare_units.specs.Onward.{must_go_on, is_in_city, is_in_country, points_behind, may_come_home}
use Rattle.fare_lawful.specs.Shut.{is_shut, has_gap_before}
use Rattle.fare_floors.specs.Ending.{is_priced_back, needs_more}
use Rattle.fare_floors.specs.Stays.{is_outside}
use Rattle.fare_floors.proofs.ChainLemmas.{chained_front}
use Rattle.fare_units.proofs.NextLemmas.{front_part, front_start, front_unit}
use Rattle.fare_floors.proofs.SameLemmas.{AreFirst, holds_same, chained_same, jaw_same, closes_same, start_same, end_same}
use Rattle.fare_floors.proofs.ShutLemmas.{own_behind, own_in_two, own_are_first, any_at, not_alone, both_true}
use Rattle.fare_floors.proofs.SumLemmas.{kept_member}
use Rattle.fare_floors.proofs.StayLemmas.{outside_same}

true_false : true ≡ false → ⊥
true_false e = cc

pub and_not : (must b : Bool) → must ≡ true → (must && not b) ≡ false → b ≡ true
and_not true true m e = refl
and_not true false m e = absurd (true_false e)
and_not false b m e = absurd (true_false (sym m))

pub jaw_either : (n l e m o p : Bool) → ((n && l && e) || (m && o && p)) ≡ true → (e ≡ true) ⊎ (o ≡ true)
jaw_either n l e m o p h =
    elim (or_cases (n && l && e) (m && o && p) h) [
      | inl g ↦ inl (and_parts (n && l) e g).1
      | inr g ↦ inr (and_parts m o (and_parts (m && o) p g).0).1
    ]

pub last_append : (xs : List ℕ) (k : ℕ) (more : List ℕ) → last_of (xs ++ k ∷ more) ≡ last_of (k ∷ more)
last_append [] k more = refl
last_append (x ∷ []) k more = refl
last_append (x ∷ y ∷ ys) k more = last_append (y ∷ ys) k more

last_one : (k : ℕ) (more : List ℕ) → Member (last_of (k ∷ more)) (k ∷ more)
last_one k [] = inl refl
last_one k (y ∷ ys) = inr (last_one y ys)

pub either_left : (a b : Bool) → a ≡ true → (a || b) ≡ true
either_left true b e = refl
either_left false b e = absurd (true_false (sym e))

pub either_right : (a b : Bool) → b ≡ true → (a || b) ≡ true
either_right true b e = refl
either_right false b e = e

-- what is not shut holds no one way fare and does not close
pub open_parts : (tariff : Tariff) (trip : Itinerary) (parts : List Part) (xs : List ℕ) → is_shut tariff trip parts xs ≡ false → (holds_ow tariff parts xs ≡ false) × (closes trip parts xs ≡ false)
unfolding is_shut
open_parts tariff trip parts xs e =
    let both = both_false (holds_ow tariff parts xs || closes trip parts xs) (has_gap_before tariff trip parts xs) e in
    both_false (holds_ow tariff parts xs) (closes trip parts xs) both.0

closes_from : (trip : Itinerary) (parts : List Part) (xs : List ℕ) → is_chained trip parts xs ≡ true → ends_at_home trip parts xs ≡ true → closes trip parts xs ≡ true
unfolding closes
closes_from trip parts xs c h = both_true (is_chained trip parts xs) (ends_at_home trip parts xs) c h

not_jaw : (tariff : Tariff) (trip : Itinerary) (parts : List Part) (xs : List ℕ) → is_open_jaw tariff trip parts xs ≡ false → is_jaw tariff trip parts xs ≡ false
unfolding is_open_jaw
not_jaw tariff trip parts xs e = e

pub must_close_from : (tariff : Tariff) (trip : Itinerary) (parts : List Part) (xs : List ℕ) → holds_ow tariff parts xs ≡ false → is_jaw tariff trip parts xs ≡ false → must_close tariff trip parts xs ≡ true
unfolding is_hr is_open_jaw
must_close_from tariff trip parts xs o j = rw (o, j) refl

pub ends_home : (trip : Itinerary) (parts : List Part) (xs : List ℕ) → ends_at_home trip parts xs ≡ true → comes_home trip parts xs ≡ true
ends_home trip parts xs h =
    let most = and_parts (leb 2 (length xs) && comes_home trip parts xs) (not (comes_home_early trip parts xs)) h in
    (and_parts (leb 2 (length xs)) (comes_home trip parts xs) most.0).1

module _ (trip : Itinerary) (parts : List Part) (all : IsCover trip parts) where
  pub starts_behind : (k : ℕ) → 1 ≤ k → end_of parts k ≤ start_of trip parts (k + 1)
  starts_behind k low =
      let n : k + 1 - 1 ≡ k = omega arith in
      rw (lt-leb (k + 1) 1 (omega arith), n) (begins_later trip (end_of parts k))

  -- a later part ends later
  pub ends_rise : (k j : ℕ) → 1 ≤ k → k < j → j ≤ length parts → end_of parts k < end_of parts j
  ends_rise k zero low less within = absurd (omega arith)
  ends_rise k (suc m) low less within =
      let next : suc m ≡ m + 1 = omega arith in
      let P : ℕ → Type 0 = λ n. start_of trip parts n < end_of parts n in
      let above : start_of trip parts (m + 1) < end_of parts (m + 1) = subst P next (all.above (suc m) (omega arith) within) in
      let behind : end_of parts m ≤ start_of trip parts (m + 1) = starts_behind m (omega arith) in
      let Q : ℕ → Type 0 = λ n. end_of parts k < end_of parts n in
      subst Q (sym next)
      (elim (cases_lt k m) [
        | inl l ↦ let more : end_of parts k < end_of parts m = ends_rise k m low l (omega arith) in omega arith
        | inr g ↦ let same : k ≡ m = omega arith in let e : end_of parts k ≡ end_of parts m = ap (end_of parts) same in omega arith
      ])

module _ (tariff : Tariff) (trip : Itinerary) (front rest : List Part) (price : ℕ) (lawful : IsLawful tariff trip (front ++ rest) price) (unit : ℕ) (low : 1 ≤ unit) (high : unit ≤ greatest_unit (front ++ rest) (places (front ++ rest))) where
  alone_holds : is_mixed tariff (front ++ rest) unit ≡ false
  unfolding mixed
  alone_holds = find_none (is_mixed tariff (front ++ rest)) 1 (greatest_unit (front ++ rest) (places (front ++ rest)) + 1) (kept tariff trip (front ++ rest) price lawful).alone unit low (omega arith)

  chain_holds : is_unchained tariff trip (front ++ rest) unit ≡ false
  unfolding unchained
  chain_holds = find_none (is_unchained tariff trip (front ++ rest)) 1 (greatest_unit (front ++ rest) (places (front ++ rest)) + 1) (kept tariff trip (front ++ rest) price lawful).chain unit low (omega arith)

  close_holds : is_unclosed tariff trip (front ++ rest) unit ≡ false
  unfolding unclosed
  close_holds = find_none (is_unclosed tariff trip (front ++ rest)) 1 (greatest_unit (front ++ rest) (places (front ++ rest)) + 1) (kept tariff trip (front ++ rest) price lawful).close unit low (omega arith)

  -- where it must close it is chained and ends at home
  pub closed_whole : (ys : List ℕ) → own (front ++ rest) unit ≡ ys → must_close tariff trip (front ++ rest) ys ≡ true → (is_chained trip (front ++ rest) ys ≡ true) × (ends_at_home trip (front ++ rest) ys ≡ true)
  closed_whole ys e must =
      let P : List ℕ → Type 0 = λ zs. (must_close tariff trip (front ++ rest) zs && not (is_chained trip (front ++ rest) zs)) ≡ false in
      let Q : List ℕ → Type 0 = λ zs. (must_close tariff trip (front ++ rest) zs && not (ends_at_home trip (front ++ rest) zs)) ≡ false in (
        and_not (must_close tariff trip (front ++ rest) ys) (is_chained trip (front ++ rest) ys) must (subst P e chain_holds),
        and_not (must_close tariff trip (front ++ rest) ys) (ends_at_home trip (front ++ rest) ys) must (subst Q e close_holds),
      )

  own_is_of : (j : ℕ) → Member j (own (front ++ rest) unit) → unit_of (front ++ rest) j ≡ unit
  unfolding own
  own_is_of j m = eqb-true (unit_of (front ++ rest) j) unit (kept_member (is_own (front ++ rest) unit) 1 (length (front ++ rest) + 1 - 1) j m).2

  -- what it has among the first parts is not all
  ends_open : (x : ℕ) (xs : List ℕ) → AreFirst tariff trip front rest (x ∷ xs) → own (front ++ rest) unit ≡ x ∷ xs → must_go_on tariff trip front (x ∷ xs) ≡ true → ⊥
  ends_open x xs first e must =
      let two = and_parts (not (is_shut tariff trip front (x ∷ xs))) (not (is_open_jaw tariff trip front (x ∷ xs))) must in
      let here = open_parts tariff trip front (x ∷ xs) (not-true (is_shut tariff trip front (x ∷ xs)) two.0) in
      let jaw : is_jaw tariff trip front (x ∷ xs) ≡ false = not_jaw tariff trip front (x ∷ xs) (not-true (is_open_jaw tariff trip front (x ∷ xs)) two.1) in
      let ow : holds_ow tariff (front ++ rest) (x ∷ xs) ≡ false = holds_same tariff trip front rest (x ∷ xs) first ∙ here.0 in
      let none : is_jaw tariff trip (front ++ rest) (x ∷ xs) ≡ false = jaw_same tariff trip front rest (x ∷ xs) first ∙ jaw in
      let close = closed_whole (x ∷ xs) e (must_close_from tariff trip (front ++ rest) (x ∷ xs) ow none) in
      let closed : closes trip (front ++ rest) (x ∷ xs) ≡ true = closes_from trip (front ++ rest) (x ∷ xs) close.0 close.1 in
      true_false (sym (sym (closes_same tariff trip front rest x xs first) ∙ closed) ∙ here.1)

  -- the last of all its parts is priced back
  ends_back : (x : ℕ) (xs : List ℕ) → AreFirst tariff trip front rest (x ∷ xs) → own (front ++ rest) unit ≡ x ∷ xs → is_shut tariff trip front (x ∷ xs) ≡ false → is_priced_back tariff trip front (last_of (x ∷ xs)) ≡ true
  unfolding part_amount is_back_in is_hr
  ends_back x xs first e shut =
      let here = open_parts tariff trip front (x ∷ xs) shut in
      let none : holds_ow tariff (front ++ rest) (x ∷ xs) ≡ false = holds_same tariff trip front rest (x ∷ xs) first ∙ here.0 in
      let place = first (last_of (x ∷ xs)) (last_one x xs) in
      let low : 1 ≤ last_of (x ∷ xs) = place.0 in
      let within : last_of (x ∷ xs) ≤ length front = place.1 in
      let n : length (front ++ rest) ≡ length front + length rest = length-append front rest in
      let there = amount_of_part tariff trip (front ++ rest) (kept tariff trip (front ++ rest) price lawful) (last_of (x ∷ xs)) low (omega arith) in
      let P : List ℕ → Type 0 = λ ys. Member (last_of (x ∷ xs)) ys in
      let mine : unit_of (front ++ rest) (last_of (x ∷ xs)) ≡ unit = own_is_of (last_of (x ∷ xs)) (subst P (sym e) (last_one x xs)) in
      let A : ℕ → Type 0 = λ u. is_some (part_amount tariff trip (front ++ rest) (own (front ++ rest) u) (last_of (x ∷ xs))) ≡ true in
      let B : List ℕ → Type 0 = λ ys. is_some (part_amount tariff trip (front ++ rest) ys (last_of (x ∷ xs))) ≡ true in
      let C : Bool → Type 0 = λ b. is_some (component_amount tariff trip (start_of trip (front ++ rest) (last_of (x ∷ xs))) (end_of (front ++ rest) (last_of (x ∷ xs))) (part_at (front ++ rest) (last_of (x ∷ xs))).fare b) ≡ true in
      let D : ℕ → Type 0 = λ a. is_some (component_amount tariff trip a (end_of (front ++ rest) (last_of (x ∷ xs))) (part_at (front ++ rest) (last_of (x ∷ xs))).fare true) ≡ true in
      let E : Part → Type 0 = λ p. is_some (component_amount tariff trip (start_of trip front (last_of (x ∷ xs))) p.end p.fare true) ≡ true in
      let same : eqb (last_of (x ∷ xs)) (last_of (x ∷ xs)) ≡ true = eq-eqb (last_of (x ∷ xs)) (last_of (x ∷ xs)) refl in
      let back : is_back_in tariff trip (front ++ rest) (x ∷ xs) (last_of (x ∷ xs)) ≡ true = rw (none, same) refl in
      both_true (ltb 0 (last_of (x ∷ xs))) (is_some (component_amount tariff trip (start_of trip front (last_of (x ∷ xs))) (end_of front (last_of (x ∷ xs))) (part_at front (last_of (x ∷ xs))).fare true)) (lt-ltb 0 (last_of (x ∷ xs)) (omega arith))
      (subst E (front_part front rest (last_of (x ∷ xs)) low within) (subst D (front_start trip front rest (last_of (x ∷ xs)) low within) (subst C back (subst B e (subst A mine there)))))

  -- and its stay is inside the rules of all its parts
  ends_timely : (x : ℕ) (xs : List ℕ) → AreFirst tariff trip front rest (x ∷ xs) → own (front ++ rest) unit ≡ x ∷ xs → is_shut tariff trip front (x ∷ xs) ≡ false → is_outside tariff trip front (x ∷ xs) ≡ false
  unfolding mistimed is_hr
  ends_timely x xs first e shut =
      let none : holds_ow tariff (front ++ rest) (x ∷ xs) ≡ false = holds_same tariff trip front rest (x ∷ xs) first ∙ (open_parts tariff trip front (x ∷ xs) shut).0 in
      let timed : is_mistimed tariff trip (front ++ rest) unit ≡ false = find_none (is_mistimed tariff trip (front ++ rest)) 1 (greatest_unit (front ++ rest) (places (front ++ rest)) + 1) (kept tariff trip (front ++ rest) price lawful).stay unit low (omega arith) in
      let P : List ℕ → Type 0 = λ ys. (not (holds_ow tariff (front ++ rest) ys) && is_outside tariff trip (front ++ rest) ys) ≡ false in
      let whole : (not (holds_ow tariff (front ++ rest) (x ∷ xs)) && is_outside tariff trip (front ++ rest) (x ∷ xs)) ≡ false = subst P e timed in
      sym (outside_same tariff trip front rest (x ∷ xs) first) ∙ half_round (holds_ow tariff (front ++ rest) (x ∷ xs)) (is_outside tariff trip (front ++ rest) (x ∷ xs)) none whole
    where
      half_round : (one b : Bool) → one ≡ false → (not one && b) ≡ false → b ≡ false
      half_round true b e h = absurd (true_false e)
      half_round false b e h = h

  ends_short : (x : ℕ) (xs : List ℕ) → AreFirst tariff trip front rest (x ∷ xs) → own (front ++ rest) unit ≡ x ∷ xs → needs_more tariff trip front (x ∷ xs) ≡ true → ⊥
  ends_short x xs first e more =
      elim (or_cases (must_go_on tariff trip front (x ∷ xs)) (not (is_shut tariff trip front (x ∷ xs)) && (not (is_priced_back tariff trip front (last_of (x ∷ xs))) || is_outside tariff trip front (x ∷ xs))) more) [
        | inl must ↦ ends_open x xs first e must
        | inr lacks ↦
            let both = and_parts (not (is_shut tariff trip front (x ∷ xs))) (not (is_priced_back tariff trip front (last_of (x ∷ xs))) || is_outside tariff trip front (x ∷ xs)) lacks in
            elim (or_cases (not (is_priced_back tariff trip front (last_of (x ∷ xs)))) (is_outside tariff trip front (x ∷ xs)) both.1) [
              | inl unpriced ↦ true_false (sym (ends_back x xs first e (not-true (is_shut tariff trip front (x ∷ xs)) both.0)) ∙ not-true (is_priced_back tariff trip front (last_of (x ∷ xs))) unpriced)
              | inr outside ↦ true_false (sym outside ∙ ends_timely x xs first e (not-true (is_shut tariff trip front (x ∷ xs)) both.0))
            ]
      ]

  -- so some part comes to it behind them
  pub goes_behind : (x : ℕ) (xs behind : List ℕ) → AreFirst tariff trip front rest (x ∷ xs) → own (front ++ rest) unit ≡ (x ∷ xs) ++ behind → needs_more tariff trip front (x ∷ xs) ≡ true → (k : ℕ) × (more : List ℕ) × (behind ≡ k ∷ more)
  goes_behind x xs [] first e must = absurd (ends_short x xs first (e ∙ append-nil (x ∷ xs)) must)
  goes_behind x xs (k ∷ more) first e must = (k, more, refl)

  -- with a part behind it is one of half round trips
  pub no_one_way : (x : ℕ) (xs : List ℕ) (k : ℕ) (more : List ℕ) → own (front ++ rest) unit ≡ (x ∷ xs) ++ k ∷ more → holds_ow tariff (front ++ rest) ((x ∷ xs) ++ k ∷ more) ≡ false
  no_one_way x xs k more e =
      let n : length ((x ∷ xs) ++ k ∷ more) ≡ length (x ∷ xs) + suc (length more) = length-append (x ∷ xs) (k ∷ more) in
      let P : List ℕ → Type 0 = λ ys. (holds_ow tariff (front ++ rest) ys && ltb 1 (length ys)) ≡ false in
      not_alone (holds_ow tariff (front ++ rest) ((x ∷ xs) ++ k ∷ more)) (ltb 1 (length ((x ∷ xs) ++ k ∷ more))) (subst P e alone_holds) (lt-ltb 1 (length ((x ∷ xs) ++ k ∷ more)) (omega arith))

  -- the places behind are behind
  place_behind : (j : ℕ) → Member j (own_behind tariff trip front rest unit) → (length front < j) × (j ≤ length (front ++ rest))
  place_behind j m =
      let n : length (front ++ rest) ≡ length front + length rest = length-append front rest in
      let h = kept_member (is_own (front ++ rest) unit) (length front + 1) (length rest) j m in
      let first : length front + 1 ≤ j = h.0 in
      let past : j < length front + 1 + length rest = h.1 in
      (omega arith, omega arith)

  -- what ends there ends behind the first parts
  pub point_behind : (j : ℕ) → 1 ≤ length front → length front < j → j ≤ length (front ++ rest) → Member (end_of (front ++ rest) j) (points_behind trip front)
  point_behind j some behind within =
      let all = cover trip (front ++ rest) (kept tariff trip (front ++ rest) price lawful).cover in
      let n : length (front ++ rest) ≡ length front + length rest = length-append front rest in
      let rise : end_of (front ++ rest) (length front) < end_of (front ++ rest) j = ends_rise trip (front ++ rest) all (length front) j some behind within in
      let same : end_of (front ++ rest) (length front) ≡ end_of front (length front) = same_end front rest (length front) some (omega arith) in
      let last : end_of (front ++ rest) j ≤ count trip = all.within j (omega arith) within in
      member_numbers (end_of front (length front) + 1) (count trip + 1) (end_of (front ++ rest) j) (omega arith) (omega arith)

  -- the unit with a first part at x, of which others may follow among the first parts, ends at home, or near it where it
  -- has one first part
  abbrev pub EndsNear : ℕ → List ℕ → ℕ → Type 0
  EndsNear x xs last =
      (bytes_eq (end_city trip (front ++ rest) last) (start_city trip front x) ≡ true)
      ⊎ ((length (x ∷ xs) < 2) × (lie_together tariff (end_city trip (front ++ rest) last) (start_city trip front x) ≡ true))

  -- an open jaw of some first parts and others is one of a first part and one other
  jaw_near : (x : ℕ) (xs : List ℕ) (k : ℕ) (more : List ℕ) → start_city trip (front ++ rest) x ≡ start_city trip front x → is_jaw tariff trip (front ++ rest) ((x ∷ xs) ++ k ∷ more) ≡ true → EndsNear x xs (last_of (k ∷ more))
  jaw_near x [] k [] same h =
      let P : City → Type 0 = λ city. bytes_eq (end_city trip (front ++ rest) k) city ≡ true in
      let Q : City → Type 0 = λ city. lie_together tariff (end_city trip (front ++ rest) k) city ≡ true in
      let found : (bytes_eq (end_city trip (front ++ rest) k) (start_city trip (front ++ rest) x) ≡ true) ⊎ (lie_together tariff (end_city trip (front ++ rest) k) (start_city trip (front ++ rest) x) ≡ true) =
      jaw_either (not (bytes_eq (end_city trip (front ++ rest) x) (start_city trip (front ++ rest) k))) (lie_together tariff (end_city trip (front ++ rest) x) (start_city trip (front ++ rest) k)) (bytes_eq (end_city trip (front ++ rest) k) (start_city trip (front ++ rest) x))
      (not (bytes_eq (end_city trip (front ++ rest) k) (start_city trip (front ++ rest) x))) (lie_together tariff (end_city trip (front ++ rest) k) (start_city trip (front ++ rest) x)) (bytes_eq (end_city trip (front ++ rest) x) (start_city trip (front ++ rest) k)) h in
      elim found [ inl g ↦ inl (subst P same g) | inr g ↦ inr (omega arith, subst Q same g) ]
  jaw_near x [] k (z ∷ zs) same h = absurd (true_false (sym h))
  jaw_near x (y ∷ []) k more same h = absurd (true_false (sym h))
  jaw_near x (y ∷ z ∷ zs) k more same h = absurd (true_false (sym h))

  closed_near : (x : ℕ) (xs : List ℕ) (k : ℕ) (more : List ℕ) → start_city trip (front ++ rest) x ≡ start_city trip front x → comes_home trip (front ++ rest) ((x ∷ xs) ++ k ∷ more) ≡ true → EndsNear x xs (last_of (k ∷ more))
  closed_near x xs k more same h =
      let P : ℕ → Type 0 = λ j. bytes_eq (end_city trip (front ++ rest) j) (start_city trip (front ++ rest) x) ≡ true in
      let Q : City → Type 0 = λ city. bytes_eq (end_city trip (front ++ rest) (last_of (k ∷ more))) city ≡ true in
      inl (subst Q same (subst P (last_append (x ∷ xs) k more) h))

  pub ends_near : (x : ℕ) (xs : List ℕ) (k : ℕ) (more : List ℕ) → AreFirst tariff trip front rest (x ∷ xs) → own (front ++ rest) unit ≡ (x ∷ xs) ++ k ∷ more → EndsNear x xs (last_of (k ∷ more))
  ends_near x xs k more first e =
      let here = first x (inl refl) in
      let same : start_city trip (front ++ rest) x ≡ start_city trip front x = start_same tariff trip front rest x here.0 here.1 in
      elim (cases_Bool (is_jaw tariff trip (front ++ rest) ((x ∷ xs) ++ k ∷ more))) [
        | inl t ↦ jaw_near x xs k more same t
        | inr f ↦
            let close = closed_whole ((x ∷ xs) ++ k ∷ more) e (must_close_from tariff trip (front ++ rest) ((x ∷ xs) ++ k ∷ more) (no_one_way x xs k more e) f) in
            closed_near x xs k more same (ends_home trip (front ++ rest) ((x ∷ xs) ++ k ∷ more) close.1)
      ]

  -- so it may come home
  near_comes : (x : ℕ) (xs : List ℕ) (j : ℕ) → Member (end_of (front ++ rest) j) (points_behind trip front) → EndsNear x xs j → may_come_home tariff trip front (x ∷ xs) ≡ true
  near_comes x xs j m (inl home) =
      either_left (list_any (is_in_city trip (start_city trip front x)) (points_behind trip front)) (ltb (length (x ∷ xs)) 2 && list_any (is_in_country tariff trip (start_city trip front x)) (points_behind trip front))
      (any_at (is_in_city trip (start_city trip front x)) (end_of (front ++ rest) j) (points_behind trip front) m home)
  near_comes x xs j m (inr near) =
      either_right (list_any (is_in_city trip (start_city trip front x)) (points_behind trip front)) (ltb (length (x ∷ xs)) 2 && list_any (is_in_country tariff trip (start_city trip front x)) (points_behind trip front))
      (both_true (ltb (length (x ∷ xs)) 2) (list_any (is_in_country tariff trip (start_city trip front x)) (points_behind trip front)) (lt-ltb (length (x ∷ xs)) 2 near.0)
      (any_at (is_in_country tariff trip (start_city trip front x)) (end_of (front ++ rest) j) (points_behind trip front) m near.1))

  -- the last part of a unit that must have more parts is behind the first parts, and ends near where the unit begins
  abbrev pub LastIsBehind : ℕ → List ℕ → ℕ → Type 0
  LastIsBehind x xs last =
      (length front < last) × (last ≤ length (front ++ rest)) × (unit_of (front ++ rest) last ≡ unit) × EndsNear x xs last

  own_unit : (j : ℕ) → Member j (own_behind tariff trip front rest unit) → unit_of (front ++ rest) j ≡ unit
  own_unit j m = eqb-true (unit_of (front ++ rest) j) unit (kept_member (is_own (front ++ rest) unit) (length front + 1) (length rest) j m).2

  pub last_is_behind : (x : ℕ) (xs : List ℕ) → own front unit ≡ x ∷ xs → needs_more tariff trip front (x ∷ xs) ≡ true → LastIsBehind x xs (last_of (own (front ++ rest) unit))
  last_is_behind x xs e must =
      let P : List ℕ → Type 0 = λ ys. AreFirst tariff trip front rest ys in
      let Q : List ℕ → Type 0 = λ ys. own (front ++ rest) unit ≡ ys ++ own_behind tariff trip front rest unit in
      let first : AreFirst tariff trip front rest (x ∷ xs) = subst P e (own_are_first tariff trip front rest unit) in
      let two : own (front ++ rest) unit ≡ (x ∷ xs) ++ own_behind tariff trip front rest unit = subst Q e (own_in_two tariff trip front rest unit) in
      let behind = goes_behind x xs (own_behind tariff trip front rest unit) first two must in
      let R : List ℕ → Type 0 = λ ys. own (front ++ rest) unit ≡ (x ∷ xs) ++ ys in
      let whole : own (front ++ rest) unit ≡ (x ∷ xs) ++ behind.0 ∷ behind.1 = subst R behind.2 two in
      let last : last_of (own (front ++ rest) unit) ≡ last_of (behind.0 ∷ behind.1) = ap last_of whole ∙ last_append (x ∷ xs) behind.0 behind.1 in
      let S : List ℕ → Type 0 = λ ys. Member (last_of (behind.0 ∷ behind.1)) ys in
      let m : Member (last_of (behind.0 ∷ behind.1)) (own_behind tariff trip front rest unit) = subst S (sym behind.2) (last_one behind.0 behind.1) in
      let place = place_behind (last_of (behind.0 ∷ behind.1)) m in
      subst (LastIsBehind x xs) (sym last) (place.0, place.1, own_unit (last_of (behind.0 ∷ behind.1)) m, ends_near x xs behind.0 behind.1 first whole)

  pub comes_home_behind : (x : ℕ) (xs : List ℕ) → own front unit ≡ x ∷ xs → needs_more tariff trip front (x ∷ xs) ≡ true → may_come_home tariff trip front (x ∷ xs) ≡ true
  comes_home_behind x xs e must =
      let P : List ℕ → Type 0 = λ ys. AreFirst tariff trip front rest ys in
      let first : AreFirst tariff trip front rest (x ∷ xs) = subst P e (own_are_first tariff trip front rest unit) in
      let here = first x (inl refl) in
      let low_x : 1 ≤ x = here.0 in
      let high_x : x ≤ length front = here.1 in
      let last = last_is_behind x xs e must in
      near_comes x xs (last_of (own (front ++ rest) unit)) (point_behind (last_of (own (front ++ rest) unit)) (omega arith) last.0 last.1) last.3

  -- a first part of a unit with a part behind is priced back where it heads home
  back_is : (x : ℕ) (xs : List ℕ) (k : ℕ) (more : List ℕ) (j : ℕ) → AreFirst tariff trip front rest (x ∷ xs) → own (front ++ rest) unit ≡ (x ∷ xs) ++ k ∷ more → 1 ≤ j → j ≤ length front → length front < last_of (k ∷ more) → is_back_in tariff trip (front ++ rest) ((x ∷ xs) ++ k ∷ more) j ≡ heads_home tariff trip front (x ∷ xs) j
  unfolding is_back_in is_hr
  back_is x xs k more j first e jl jh behind =
      let here = first x (inl refl) in
      let none = no_one_way x xs k more e in
      let last : last_of ((x ∷ xs) ++ k ∷ more) ≡ last_of (k ∷ more) = last_append (x ∷ xs) k more in
      let other : eqb j (last_of ((x ∷ xs) ++ k ∷ more)) ≡ false = ne_eqb j (last_of ((x ∷ xs) ++ k ∷ more)) (λ same. omega arith) in
      rw (none, other, end_same tariff trip front rest j jl jh, start_same tariff trip front rest j jl jh, start_same tariff trip front rest x here.0 here.1) refl

  pub amount_onward : (x : ℕ) (xs : List ℕ) → own front unit ≡ x ∷ xs → needs_more tariff trip front (x ∷ xs) ≡ true → (j : ℕ) → 1 ≤ j → j ≤ length front → unit_of front j ≡ unit
      → is_some (component_amount tariff trip (start_of trip front j) (end_of front j) (part_at front j).fare (heads_home tariff trip front (x ∷ xs) j)) ≡ true
  unfolding part_amount
  amount_onward x xs e must j jl jh mine =
      let P : List ℕ → Type 0 = λ ys. AreFirst tariff trip front rest ys in
      let Q : List ℕ → Type 0 = λ ys. own (front ++ rest) unit ≡ ys ++ own_behind tariff trip front rest unit in
      let first : AreFirst tariff trip front rest (x ∷ xs) = subst P e (own_are_first tariff trip front rest unit) in
      let two : own (front ++ rest) unit ≡ (x ∷ xs) ++ own_behind tariff trip front rest unit = subst Q e (own_in_two tariff trip front rest unit) in
      let behind = goes_behind x xs (own_behind tariff trip front rest unit) first two must in
      let R : List ℕ → Type 0 = λ ys. own (front ++ rest) unit ≡ (x ∷ xs) ++ ys in
      let whole : own (front ++ rest) unit ≡ (x ∷ xs) ++ behind.0 ∷ behind.1 = subst R behind.2 two in
      let S : List ℕ → Type 0 = λ ys. Member (last_of (behind.0 ∷ behind.1)) ys in
      let place = place_behind (last_of (behind.0 ∷ behind.1)) (subst S (sym behind.2) (last_one behind.0 behind.1)) in
      let back = back_is x xs behind.0 behind.1 j first whole jl jh place.0 in
      let n : length (front ++ rest) ≡ length front + length rest = length-append front rest in
      let there = amount_of_part tariff trip (front ++ rest) (kept tariff trip (front ++ rest) price lawful) j jl (omega arith) in
      let here : unit_of (front ++ rest) j ≡ unit = front_unit front rest j jl jh ∙ mine in
      let A : ℕ → Type 0 = λ u. is_some (part_amount tariff trip (front ++ rest) (own (front ++ rest) u) j) ≡ true in
      let B : List ℕ → Type 0 = λ ys. is_some (part_amount tariff trip (front ++ rest) ys j) ≡ true in
      let C : Bool → Type 0 = λ b. is_some (component_amount tariff trip (start_of trip (front ++ rest) j) (end_of (front ++ rest) j) (part_at (front ++ rest) j).fare b) ≡ true in
      let D : ℕ → Type 0 = λ a. is_some (component_amount tariff trip a (end_of (front ++ rest) j) (part_at (front ++ rest) j).fare (heads_home tariff trip front (x ∷ xs) j)) ≡ true in
      let E : Part → Type 0 = λ p. is_some (component_amount tariff trip (start_of trip front j) p.end p.fare (heads_home tariff trip front (x ∷ xs) j)) ≡ true in
      subst E (front_part front rest j jl jh) (subst D (front_start trip front rest j jl jh) (subst C back (subst B whole (subst A here there))))

  -- each of its first parts begins where the one before it ends
  chained_behind : (x : ℕ) (xs : List ℕ) (k : ℕ) (more : List ℕ) → AreFirst tariff trip front rest (x ∷ xs) → own (front ++ rest) unit ≡ (x ∷ xs) ++ k ∷ more → is_chained trip front (x ∷ xs) ≡ true
  chained_behind x [] k more first e = refl
  chained_behind x (y ∷ ys) k more first e =
      let long : is_jaw tariff trip (front ++ rest) ((x ∷ y ∷ ys) ++ k ∷ more) ≡ false = three_no_jaw x y ys k more in
      let close = closed_whole ((x ∷ y ∷ ys) ++ k ∷ more) e (must_close_from tariff trip (front ++ rest) ((x ∷ y ∷ ys) ++ k ∷ more) (no_one_way x (y ∷ ys) k more e) long) in
      sym (chained_same tariff trip front rest (x ∷ y ∷ ys) first) ∙ chained_front trip (front ++ rest) (x ∷ y ∷ ys) (k ∷ more) close.0
    where
      three_no_jaw : (a b : ℕ) (cs : List ℕ) (j : ℕ) (others : List ℕ) → is_jaw tariff trip (front ++ rest) ((a ∷ b ∷ cs) ++ j ∷ others) ≡ false
      three_no_jaw a b [] j others = refl
      three_no_jaw a b (c ∷ cs) j others = refl

  pub chained_onward : (x : ℕ) (xs : List ℕ) → own front unit ≡ x ∷ xs → needs_more tariff trip front (x ∷ xs) ≡ true → is_chained trip front (x ∷ xs) ≡ true
  chained_onward x xs e must =
      let P : List ℕ → Type 0 = λ ys. AreFirst tariff trip front rest ys in
      let Q : List ℕ → Type 0 = λ ys. own (front ++ rest) unit ≡ ys ++ own_behind tariff trip front rest unit in
      let first : AreFirst tariff trip front rest (x ∷ xs) = subst P e (own_are_first tariff trip front rest unit) in
      let two : own (front ++ rest) unit ≡ (x ∷ xs) ++ own_behind tariff trip front rest unit = subst Q e (own_in_two tariff trip front rest unit) in
      let behind = goes_behind x xs (own_behind tariff trip front rest unit) first two must in
      let R : List ℕ → Type 0 = λ ys. own (front ++ rest) unit ≡ (x ∷ xs) ++ ys in
      chained_behind x xs behind.0 behind.1 first (subst R behind.2 two)
