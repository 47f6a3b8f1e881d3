-- What is behind the first parts of a lawful construction, over one unit more of these, by what its last part costs.
use Rattle.std.proofs.Common.{◌≡◌, ℕ, suc, ◌+◌, ◌-◌, ◌<◌, ◌≤◌, Bool, true, List, [], ◌∷◌, ◌++◌, length, ap, sym, subst, ◌∙◌, refl, inl, inr, arith}
use Rattle.std.specs.Prelude.{Option, nat_lt}
use Rattle.std.proofs.lemmas.Bool.{cases_Bool}
use Rattle.fare_trip.specs.Itinerary.{count}
use Rattle.fare_rules.specs.declared.part.Part.{Part}
use Rattle.fare_rules.specs.Construction.{places, own, first_of, last_of, greatest_unit, start_of, end_of, unit_of}
use Rattle.fare_component.specs.Table.{Pricing}
use Rattle.fare_bounds.specs.Covers.{rest_at}
use Rattle.fare_homing.specs.declared.homing.Homing.{Homing}
use Rattle.fare_legs.specs.Costs.{IsUpTo}
use Rattle.fare_legs.proofs.ReachLemmas.{up_more}
use Rattle.fare_floors.specs.declared.stacking.Open.{Open}
use Rattle.fare_floors.specs.Costs.{true_cost}
use Rattle.fare_floors.specs.LastParts.{AreOverLasts}
use Rattle.fare_floors.specs.Stack.{AreHomes, AreOver, IsOpenUnit, may_come_to}
use Rattle.fare_floors.proofs.GoesOnLemmas.{going_on}
use Rattle.fare_floors.proofs.LastPartLemmas.{fits_by_unit, not_ow}
use Rattle.fare_floors.proofs.ShutLemmas.{own_behind}
use Rattle.fare_floors.proofs.StackFloorLemmas.{goes, goes_by, has_first_in, home_may, home_within, last_is, stays}
use Rattle.fare_floors.proofs.TrueCostLemmas.{back_costs, entry, entry_there}

module _ (table : Pricing) (homing : Homing) (front : List Part) (u : ℕ) (high : suc u ≤ greatest_unit front (places front)) (behind : List (Option ℕ)) (known : AreOver table homing front u behind) (opened : Open) (is : IsOpenUnit table front (suc u) opened) (homes row : List (Option ℕ))
    (are_homes : AreHomes table.edition table.trip (end_of front (length front)) opened.start opened.closes behind homes) (over_row : AreOverLasts table front (suc u) opened.must homes behind row) where
  over_next : AreOver table homing front (suc u) row
  over_next rest price i cost lawful cheap low most over = by_behind (own_behind table.edition table.trip front rest (suc u)) refl
    where
      unit_has : (x : ℕ) × (xs : List ℕ) × (own front (suc u) ≡ x ∷ xs)
      unit_has = has_first_in table.edition table.trip front rest price lawful (suc u) (omega arith) high (own front (suc u)) refl

      x : ℕ
      x = unit_has.0

      xs : List ℕ
      xs = unit_has.1

      e : own front (suc u) ≡ x ∷ xs
      e = unit_has.2

      by_must : own_behind table.edition table.trip front rest (suc u) ≡ [] → opened.must ≡ true → ⊥
      by_must none must =
          let goes_on_by = goes_by table homing front u high behind known rest price lawful x xs e (sym is.must ∙ must) in
          let empty : goes_on_by.0 ∷ goes_on_by.1 ≡ [] = sym goes_on_by.2 ∙ none in
          let n : suc (length goes_on_by.1) ≡ 0 = ap length empty in
          absurd (omega arith)

      by_behind : (ys : List ℕ) → own_behind table.edition table.trip front rest (suc u) ≡ ys → IsUpTo cost (rest_at row i)
      by_behind [] none =
          let up : IsUpTo cost (rest_at behind i) = known rest price i cost lawful cheap low most (over.1 (stays table.edition table.trip front rest price lawful (suc u) (omega arith) high x xs e none)) in
          elim (cases_Bool opened.must) [
            | inl t ↦ absurd (by_must none t)
            | inr f ↦ over_row.whole f i cost up
          ]
      by_behind (k ∷ more) some =
          let last : last_of (own (front ++ rest) (suc u)) ≡ last_of (k ∷ more) = last_is table.edition table.trip front rest price lawful (suc u) (omega arith) high x xs e k more some in
          let within = home_within table.edition table.trip front rest price lawful (suc u) (omega arith) high x xs e k more some in
          let P : ℕ → Type 0 = λ j. (end_of front (length front) ≤ end_of (front ++ rest) j) × (end_of (front ++ rest) j ≤ count table.trip) in
          let within_home = subst P (sym last) within in
          let Q : ℕ → Type 0 = λ j. may_come_to table.edition table.trip (start_of table.trip front x) (nat_lt 1 (length (x ∷ xs))) (end_of (front ++ rest) j) ≡ true in
          let may = subst Q (sym last) (home_may table.edition table.trip front rest price lawful (suc u) (omega arith) high x xs e k more some) in
          let R : List ℕ → Type 0 = λ ys. may_come_to table.edition table.trip (start_of table.trip front (first_of ys)) (nat_lt 1 (length ys)) (end_of (front ++ rest) (last_of (own (front ++ rest) (suc u)))) ≡ true in
          let may_own = subst R (sym e) may in
          let S : ℕ → Type 0 = λ a. may_come_to table.edition table.trip a (nat_lt 1 (length (own front (suc u)))) (end_of (front ++ rest) (last_of (own (front ++ rest) (suc u)))) ≡ true in
          let T : Bool → Type 0 = λ b. may_come_to table.edition table.trip opened.start b (end_of (front ++ rest) (last_of (own (front ++ rest) (suc u)))) ≡ true in
          let may_here = subst T (sym is.closes) (subst S (sym is.start) may_own) in
          let on = goes table.edition table.trip front rest price lawful (suc u) (omega arith) high x xs e k more some in
          let g = going_on table.edition table.trip (front ++ rest) price lawful (length front) (suc u) on in
          let past : length front < last_of (own (front ++ rest) (suc u)) = g.behind in
          let c = over.0 on in
          let sum : c.0 + c.1 ≤ cost = c.2 in
          let begins : i ≤ start_of table.trip (front ++ rest) (last_of (own (front ++ rest) (suc u))) = c.5.begins in
          let costs : true_cost table.edition table.trip (front ++ rest) (last_of (own (front ++ rest) (suc u))) ≤ c.0 = c.5.costs in
          let then = known rest price (end_of (front ++ rest) (last_of (own (front ++ rest) (suc u)))) c.1 lawful cheap within_home.0 within_home.1 c.4 in
          let b : then.0 ≤ c.1 = then.2 in
          let there : rest_at homes (end_of (front ++ rest) (last_of (own (front ++ rest) (suc u)))) ≡ rest_at behind (end_of (front ++ rest) (last_of (own (front ++ rest) (suc u)))) = are_homes (end_of (front ++ rest) (last_of (own (front ++ rest) (suc u)))) within_home.0 within_home.1 may_here in
          let own_last : last_of (own (front ++ rest) (unit_of (front ++ rest) (last_of (own (front ++ rest) (suc u))))) ≡ last_of (own (front ++ rest) (suc u)) = ap (λ v. last_of (own (front ++ rest) v)) g.last_own in
          let back = back_costs table.edition table.trip (front ++ rest) price lawful (last_of (own (front ++ rest) (suc u))) (omega arith) g.within (not_ow table.edition table.trip front rest price lawful (suc u) (omega arith) high on) own_last in
          let least = over_row.lasts i (start_of table.trip (front ++ rest) (last_of (own (front ++ rest) (suc u)))) low begins (end_of (front ++ rest) (last_of (own (front ++ rest) (suc u)))) then.0
          (entry table.edition table.trip (front ++ rest) price lawful (last_of (own (front ++ rest) (suc u)))) (there ∙ then.1) (entry_there table.edition table.trip (front ++ rest) price lawful (last_of (own (front ++ rest) (suc u))) (omega arith) g.within)
          back.0 back.1 (fits_by_unit table.edition table.trip front rest price lawful (suc u) (omega arith) high on) in
          let low_back : back.0 ≤ true_cost table.edition table.trip (front ++ rest) (last_of (own (front ++ rest) (suc u))) = back.2 in
          up_more (back.0 + then.0) cost (rest_at row i) (omega arith) least

-- the same by the number of the unit
pub over_lasts_unit : (table : Pricing) (homing : Homing) (front : List Part) (unit : ℕ) → 1 ≤ unit → unit ≤ greatest_unit front (places front) → (behind : List (Option ℕ)) → AreOver table homing front (unit - 1) behind
    → (opened : Open) → IsOpenUnit table front unit opened → (homes row : List (Option ℕ)) → AreHomes table.edition table.trip (end_of front (length front)) opened.start opened.closes behind homes
    → AreOverLasts table front unit opened.must homes behind row → AreOver table homing front unit row
over_lasts_unit table homing front unit low high behind known opened is homes row are_homes over_row =
    let next : suc (unit - 1) ≡ unit = omega arith in
    let P : ℕ → Type 0 = λ v. AreOver table homing front v row in
    let Q : ℕ → Type 0 = λ v. IsOpenUnit table front v opened in
    let R : ℕ → Type 0 = λ v. AreOverLasts table front v opened.must homes behind row in
    subst P next (over_next table homing front (unit - 1) (omega arith) behind known opened (subst Q (sym next) is) homes row are_homes (subst R (sym next) over_row))

-- what is under both of two rows is under the greater of them
pub over_both : (table : Pricing) (homing : Homing) (front : List Part) (unit : ℕ) (a b row : List (Option ℕ)) → AreOver table homing front unit a → AreOver table homing front unit b
    → ((i most : ℕ) → IsUpTo most (rest_at a i) → IsUpTo most (rest_at b i) → IsUpTo most (rest_at row i)) → AreOver table homing front unit row
over_both table homing front unit a b row first second both rest price i cost lawful cheap low most over =
    both i cost (first rest price i cost lawful cheap low most over) (second rest price i cost lawful cheap low most over)
