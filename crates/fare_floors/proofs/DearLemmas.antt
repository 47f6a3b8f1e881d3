-- A part between that is too dear for a ceiling is in no construction whose units are under it.
use Rattle.std.proofs.Common.{◌≡◌, ℕ, suc, ◌+◌, ◌<◌, ◌≤◌, Bool, true, false, ◌&&◌, List, [], ◌∷◌, ◌++◌, length, length-append, ap, sym, subst, ◌∙◌, refl, inl, arith}
use Rattle.std.specs.Prelude.{Option, Some, None, nat_lt}
use Rattle.std.proofs.lemmas.Bool.{ltb-true}
use Rattle.fare_trip.specs.Itinerary.{Itinerary, point}
use Rattle.fare_tariff.specs.Tariff.{Tariff}
use Rattle.fare_rules.specs.declared.part.Part.{Part}
use Rattle.fare_rules.specs.Best.{IsLawful}
use Rattle.fare_rules.specs.Completion.{IsCompletion}
use Rattle.fare_rules.specs.Construction.{end_of, first_of, greatest_unit, last_of, own, origin, part_at, places, start_of, unit_of}
use Rattle.fare_rules.specs.Shape.{holds_ow}
use Rattle.fare_rules.specs.UnitPrice.{unit_price}
use Rattle.fare_units.proofs.NextLemmas.{front_part, front_start, front_unit}
use Rattle.fare_legs.specs.declared.ceiling.Ceiling.{Ceiling}
use Rattle.fare_legs.specs.Ceiling.{HasOneIndicator, IsCeiling, is_too_dear}
use Rattle.fare_homing.specs.Units.{AreUnitsWithin}
use Rattle.fare_floors.specs.Dear.{is_dear_between, is_over}
use Rattle.fare_floors.specs.Ending.{needs_more}
use Rattle.fare_floors.proofs.CircleLemmas.{turn_is_cheap}
use Rattle.fare_floors.proofs.CostLemmas.{unit_from_one}
use Rattle.fare_floors.proofs.GoesOnLemmas.{last_member, own_two}
use Rattle.fare_floors.proofs.OnwardLemmas.{goes_behind, last_is_behind}
use Rattle.fare_floors.proofs.PairLemmas.{no_ow, own_place}
use Rattle.fare_floors.proofs.SameLemmas.{AreFirst}
use Rattle.fare_floors.proofs.ShutLemmas.{own_are_first, own_behind, own_in_two}
use Rattle.fare_floors.proofs.UnitLemmas.{unit_in}

false_true : false ≡ true → ⊥
false_true e = cc

and_parts : (a b : Bool) → (a && b) ≡ true → (a ≡ true) × (b ≡ true)
and_parts true b h = (refl, h)
and_parts false b h = absurd (false_true h)

module _ (tariff : Tariff) (trip : Itinerary) (front rest : List Part) (price : ℕ) (lawful : IsLawful tariff trip (front ++ rest) price) (some : 1 ≤ length front) where
  abbrev unit : ℕ
  unit = unit_of front (length front)

  within : length front ≤ length (front ++ rest)
  within = let n : length (front ++ rest) ≡ length front + length rest = length-append front rest in omega arith

  same_unit : unit_of (front ++ rest) (length front) ≡ unit
  same_unit = front_unit front rest (length front) some (omega arith)

  from_one : 1 ≤ unit
  from_one = subst (λ u. 1 ≤ u) same_unit (unit_from_one tariff trip (front ++ rest) price lawful (length front) some within)

  greatest : unit ≤ greatest_unit (front ++ rest) (places (front ++ rest))
  greatest = subst (λ u. u ≤ greatest_unit (front ++ rest) (places (front ++ rest))) same_unit (unit_in tariff trip (front ++ rest) price lawful (length front) some within)

  module _ (x : ℕ) (xs : List ℕ) (e : own front unit ≡ x ∷ xs) (more : needs_more tariff trip front (x ∷ xs) ≡ true) (two : 2 ≤ length (own front unit)) (ceiling : Ceiling) (alike : HasOneIndicator tariff trip ceiling.indicator) (cheap : AreUnitsWithin tariff trip (front ++ rest) (Some ceiling)) where
    first : AreFirst tariff trip front rest (x ∷ xs)
    first =
        let P : List ℕ → Type 0 = λ ys. AreFirst tariff trip front rest ys in
        subst P e (own_are_first tariff trip front rest unit)

    in_two : own (front ++ rest) unit ≡ (x ∷ xs) ++ own_behind tariff trip front rest unit
    in_two =
        let Q : List ℕ → Type 0 = λ ys. own (front ++ rest) unit ≡ ys ++ own_behind tariff trip front rest unit in
        subst Q e (own_in_two tariff trip front rest unit)

    behind : (j : ℕ) × (js : List ℕ) × (own_behind tariff trip front rest unit ≡ j ∷ js)
    behind = goes_behind tariff trip front rest price lawful unit from_one greatest x xs (own_behind tariff trip front rest unit) first in_two more

    first_is : first_of (own (front ++ rest) unit) ≡ x
    first_is = ap first_of in_two

    long : 3 ≤ length (own (front ++ rest) unit)
    long =
        let n : length (own (front ++ rest) unit) ≡ length (x ∷ xs) + length (own_behind tariff trip front rest unit) = ap length in_two ∙ length-append (x ∷ xs) (own_behind tariff trip front rest unit) in
        let m : length (own_behind tariff trip front rest unit) ≡ suc (length behind.1) = ap length behind.2 in
        let t : length (own front unit) ≡ length (x ∷ xs) = ap length e in
        omega arith

    last : length front < last_of (own (front ++ rest) unit)
    last = (last_is_behind tariff trip front rest price lawful unit from_one greatest x xs e more).0

    begun : first_of (own front unit) < last_of (own front unit)
    begun = own_two front unit two

    last_in : last_of (own front unit) ≤ length front
    last_in = (own_place front unit (last_of (own front unit)) (last_member (own front unit) (omega (arith, two)))).1

    first_before : first_of (own (front ++ rest) unit) < last_of (own (front ++ rest) unit)
    first_before =
        let here : first_of (own front unit) ≡ x = ap first_of e in
        let a : first_of (own front unit) < last_of (own front unit) = begun in
        let b : last_of (own front unit) ≤ length front = last_in in
        let c : length front < last_of (own (front ++ rest) unit) = last in
        let d : first_of (own (front ++ rest) unit) ≡ x = first_is in
        omega arith

    none : holds_ow tariff (front ++ rest) (own (front ++ rest) unit) ≡ false
    none = no_ow tariff trip (front ++ rest) price lawful unit from_one greatest first_before

    abbrev home : ℕ
    home = start_of trip front (first_of (own front unit))

    first_low : (1 ≤ first_of (own front unit)) × (first_of (own front unit) ≤ length front)
    first_low =
        let P : ℕ → Type 0 = λ j. (1 ≤ j) × (j ≤ length front) in
        let place = first x (inl refl) in
        subst P (sym (ap first_of e)) (place.0, place.1)

    city : point trip home ≡ origin trip (front ++ rest) (own (front ++ rest) unit)
    city =
        let same : first_of (own (front ++ rest) unit) ≡ first_of (own front unit) = first_is ∙ sym (ap first_of e) in
        ap (point trip) (sym (front_start trip front rest (first_of (own front unit)) first_low.0 first_low.1) ∙ ap (start_of trip (front ++ rest)) (sym same))

    not_dear : is_too_dear tariff trip ceiling (start_of trip front (length front)) home (end_of front (length front)) (part_at front (length front)).fare ≡ false
    not_dear =
        let N : ℕ → Type 0 = λ u. holds_ow tariff (front ++ rest) (own (front ++ rest) u) ≡ false in
        let L : ℕ → Type 0 = λ u. 3 ≤ length (own (front ++ rest) u) in
        let B : ℕ → Type 0 = λ u. length front < last_of (own (front ++ rest) u) in
        let C : ℕ → Type 0 = λ u. point trip home ≡ origin trip (front ++ rest) (own (front ++ rest) u) in
        let D : ℕ → Type 0 = λ a. is_too_dear tariff trip ceiling a home (end_of front (length front)) (part_at front (length front)).fare ≡ false in
        let U : ℕ → Type 0 = λ u. unit_price tariff trip (front ++ rest) u ≤ ceiling.price in
        let E : Part → Type 0 = λ p. is_too_dear tariff trip ceiling (start_of trip (front ++ rest) (length front)) home p.end p.fare ≡ false in
        subst D (front_start trip front rest (length front) some (omega arith)) (subst E (front_part front rest (length front) some (omega arith))
        (turn_is_cheap tariff trip (front ++ rest) price lawful (length front) some within (subst N (sym same_unit) none) (subst L (sym same_unit) long) (subst B (sym same_unit) last) ceiling alike (subst U (sym same_unit) (cheap unit from_one greatest long)) home (subst C (sym same_unit) city)))

-- so in nothing that begins with parts that are over the ceiling are all units under it
pub over_is_beyond : (tariff : Tariff) (trip : Itinerary) (ceiling : Option Ceiling) (front : List Part) → IsCeiling tariff trip ceiling → is_over tariff trip ceiling front ≡ true
    → (parts : List Part) (price : ℕ) → IsCompletion tariff trip front parts price → AreUnitsWithin tariff trip parts ceiling → ⊥
over_is_beyond tariff trip None front alike over parts price c cheap = false_true over
over_is_beyond tariff trip (Some ceiling) front alike over parts price c cheap =
    let one = and_parts (nat_lt 0 (length front)) (is_dear_between tariff trip ceiling front (length front)) over in
    let some : 0 < length front = ltb-true 0 (length front) one.0 in
    let mine : List ℕ = own front (unit_of front (length front)) in
    let two = and_parts (nat_lt 1 (length (own front (unit_of front (length front))))) _ one.1 in
    let long : 1 < length (own front (unit_of front (length front))) = ltb-true 1 (length (own front (unit_of front (length front)))) two.0 in
    let three = and_parts (needs_more tariff trip front (own front (unit_of front (length front)))) _ two.1 in
    let P : List Part → Type 0 = λ xs. IsLawful tariff trip xs price in
    let U : List Part → Type 0 = λ xs. AreUnitsWithin tariff trip xs (Some ceiling) in
    let lawful : IsLawful tariff trip (front ++ c.begins.0) price = subst P c.begins.1 c.lawful in
    by_own (own front (unit_of front (length front))) refl long three.0 lawful (subst U c.begins.1 cheap) (omega arith) three.1
  where
    by_own : (ys : List ℕ) → own front (unit_of front (length front)) ≡ ys → 1 < length (own front (unit_of front (length front))) → needs_more tariff trip front (own front (unit_of front (length front))) ≡ true
        → IsLawful tariff trip (front ++ c.begins.0) price → AreUnitsWithin tariff trip (front ++ c.begins.0) (Some ceiling) → 1 ≤ length front
        → is_too_dear tariff trip ceiling (start_of trip front (length front)) (start_of trip front (first_of (own front (unit_of front (length front))))) (end_of front (length front)) (part_at front (length front)).fare ≡ true → ⊥
    by_own [] e long more lawful within some dear = let n : length (own front (unit_of front (length front))) ≡ 0 = ap length e in absurd (omega arith)
    by_own (x ∷ xs) e long more lawful within some dear =
        let M : List ℕ → Type 0 = λ ys. needs_more tariff trip front ys ≡ true in
        false_true (sym (not_dear tariff trip front c.begins.0 price lawful some x xs e (subst M e more) (omega arith) ceiling alike within) ∙ dear)
