-- A part between the first and the last of a unit is not too dear for a ceiling that its construction is under: twice
-- its reference from where the unit began is no more than the circle minimum, and that no more than the price.
use Rattle.std.proofs.Common.{◌≡◌, ℕ, ◌+◌, ◌-◌, ◌*◌, ◌<◌, ◌≤◌, Bool, true, false, ◌&&◌, ◌||◌, eqb, ltb, List, [], ◌∷◌, length, refl, ap, sym, subst, ◌∙◌, inl, inr, arith}
use Rattle.std.specs.Prelude.{Option, Some, None, option_and_then, option_map, max}
use Rattle.std.specs.List.{list_any, list_all, range_with_len}
use Rattle.std.proofs.lemmas.Bool.{cases_Bool, lt-ltb, le-leb, ltb-true, ne_eqb}
use Rattle.std.proofs.lemmas.Option.{same_Some}
use Rattle.fare_codes.specs.Amounts.{greater}
use Rattle.fare_codes.specs.declared.city.City.{City}
use Rattle.fare_codes.specs.declared.indicator.Indicator.{Indicator}
use Rattle.fare_codes.specs.declared.indicator.Indicator.TheVariants.{WH, EH, AT, PA, AP}
use Rattle.fare_codes.specs.declared.nuc.Nuc.{Nuc}
use Rattle.fare_trip.specs.Itinerary.{Itinerary, count, point}
use Rattle.fare_tariff.specs.Record.{FareRecord}
use Rattle.fare_tariff.specs.Tariff.{Tariff}
use Rattle.fare_tariff.specs.Lookup.{fare_at}
use Rattle.fare_rules.specs.declared.part.Part.{Part}
use Rattle.fare_rules.specs.declared.unit_sheet.UnitKind.TheVariants.{CT}
use Rattle.fare_rules.specs.Best.{IsLawful}
use Rattle.fare_rules.specs.Circle.{circle_reference, holds_sector, is_own_sector, own_sectors, part_points, part_stopovers, greatest_turning, twice, unit_circle_minimum}
use Rattle.fare_rules.specs.Construction.{end_of, last_of, origin, own, part_at, start_of, unit_of}
use Rattle.fare_rules.specs.Indicator.{crosses_atlantic, crosses_pacific, indicator_by, indicator_of, is_within_one}
use Rattle.fare_rules.specs.Numbers.{greatest_of, numbers}
use Rattle.fare_rules.specs.Reference.{reference}
use Rattle.fare_rules.specs.Shape.{closes, holds_ow, is_jaw, is_open_jaw}
use Rattle.fare_rules.specs.Span.{first_day}
use Rattle.fare_rules.specs.UnitPrice.{are_two_equal, at_least, is_round_trip, part_cost, unit_kind, unit_minimum, unit_price, unit_sheet, unit_sum}
use Rattle.fare_rules.proofs.MemberLemmas.{Member, member_filter, member_numbers, member_right}
use Rattle.fare_component.specs.declared.table.entry.Entry.{Entry}
use Rattle.fare_legs.specs.declared.ceiling.Ceiling.{Ceiling}
use Rattle.fare_legs.specs.Ceiling.{HasOneIndicator, IsCeiling, IsWithin, below_ceiling, is_above, is_too_dear, reference_home}
use Rattle.fare_floors.proofs.ShutLemmas.{any_at}
use Rattle.fare_floors.proofs.SumLemmas.{kept_member}
use Rattle.fare_floors.proofs.UnitLemmas.{all, own_has}

-- of two amounts the greater is no less than the first, and no less than the second
greater_first : (a b : Option ℕ) (r : ℕ) → a ≡ Some r → (m : ℕ) × (greater a b ≡ Some m) × (r ≤ m)
greater_first a None r e = (r, rw e refl, omega arith)
greater_first a (Some y) r e = (max r y, rw e refl, omega arith)

greater_second : (a b : Option ℕ) (r : ℕ) → b ≡ Some r → (m : ℕ) × (greater a b ≡ Some m) × (r ≤ m)
greater_second None b r e = (r, rw e refl, omega arith)
greater_second (Some x) b r e = (max x r, rw e refl, omega arith)

-- the greatest amount of a list is no less than that of a member
greatest_up : (f : ℕ → Option ℕ) (xs : List ℕ) (x r : ℕ) → Member x xs → f x ≡ Some r → (m : ℕ) × (greatest_of f xs ≡ Some m) × (r ≤ m)
greatest_up f [] x r m e = absurd m
greatest_up f (y ∷ ys) x r (inl same) e = greater_first (f y) (greatest_of f ys) r (ap f (sym same) ∙ e)
greatest_up f (y ∷ ys) x r (inr m) e =
    let up = greatest_up f ys x r m e in
    let here = greater_second (f y) (greatest_of f ys) up.0 up.1 in
    let low : r ≤ up.0 = up.2 in
    let more : up.0 ≤ here.0 = here.2 in
    (here.0, here.1, omega arith)

-- two stretches of one indicator have it together
joined : (ind : Indicator) (a p w b q v : Bool) → indicator_by a p w ≡ ind → indicator_by b q v ≡ ind → indicator_by (a || b) (p || q) (w && v) ≡ ind
joined ind true true w true true v e f = e
joined ind true false w true false v e f = e
joined ind false true w false true v e f = e
joined ind false false true false false v e f = f
joined ind false false false false false v e f = e
joined ind true true w true false v e f = absurd (let x : AP ≡ AT = e ∙ sym f in cc)
joined ind true true w false true v e f = absurd (let x : AP ≡ PA = e ∙ sym f in cc)
joined ind true true w false false true e f = absurd (let x : AP ≡ WH = e ∙ sym f in cc)
joined ind true true w false false false e f = absurd (let x : AP ≡ EH = e ∙ sym f in cc)
joined ind true false w true true v e f = absurd (let x : AT ≡ AP = e ∙ sym f in cc)
joined ind true false w false true v e f = absurd (let x : AT ≡ PA = e ∙ sym f in cc)
joined ind true false w false false true e f = absurd (let x : AT ≡ WH = e ∙ sym f in cc)
joined ind true false w false false false e f = absurd (let x : AT ≡ EH = e ∙ sym f in cc)
joined ind false true w true true v e f = absurd (let x : PA ≡ AP = e ∙ sym f in cc)
joined ind false true w true false v e f = absurd (let x : PA ≡ AT = e ∙ sym f in cc)
joined ind false true w false false true e f = absurd (let x : PA ≡ WH = e ∙ sym f in cc)
joined ind false true w false false false e f = absurd (let x : PA ≡ EH = e ∙ sym f in cc)
joined ind false false true true true v e f = absurd (let x : WH ≡ AP = e ∙ sym f in cc)
joined ind false false true true false v e f = absurd (let x : WH ≡ AT = e ∙ sym f in cc)
joined ind false false true false true v e f = absurd (let x : WH ≡ PA = e ∙ sym f in cc)
joined ind false false false true true v e f = absurd (let x : EH ≡ AP = e ∙ sym f in cc)
joined ind false false false true false v e f = absurd (let x : EH ≡ AT = e ∙ sym f in cc)
joined ind false false false false true v e f = absurd (let x : EH ≡ PA = e ∙ sym f in cc)

or_none : (b : Bool) → (b || false) ≡ b
or_none true = refl
or_none false = refl

and_all : (b : Bool) → (b && true) ≡ b
and_all true = refl
and_all false = refl

module _ (tariff : Tariff) (trip : Itinerary) (ind : Indicator) (one : HasOneIndicator tariff trip ind) where
  abbrev Has : List ℕ → Type 0
  Has xs = indicator_by (list_any (crosses_atlantic tariff trip) xs) (list_any (crosses_pacific tariff trip) xs) (list_all (is_within_one tariff trip) xs) ≡ ind

  has_one : (n : ℕ) → 1 ≤ n → n ≤ count trip → Has (n ∷ [])
  unfolding indicator_of
  has_one n low high =
      let next : n - 1 + 1 ≡ n = omega arith in
      let far : n - 1 + 1 + 1 - (n - 1 + 1) ≡ 1 = omega arith in
      let P : ℕ → Type 0 = λ k. Has (range_with_len (n - 1 + 1) k) in
      let Q : ℕ → Type 0 = λ k. Has (k ∷ []) in
      subst Q next (subst P far (one (n - 1) (omega arith)))

  has_all : (n : ℕ) (xs : List ℕ) → ((k : ℕ) → Member k (n ∷ xs) → (1 ≤ k) × (k ≤ count trip)) → Has (n ∷ xs)
  has_all n [] within = let here = within n (inl refl) in has_one n here.0 here.1
  has_all n (m ∷ ms) within =
      let here = within n (inl refl) in
      let first : Has (n ∷ []) = has_one n here.0 here.1 in
      let alone : indicator_by (crosses_atlantic tariff trip n) (crosses_pacific tariff trip n) (is_within_one tariff trip n) ≡ ind =
      sym (rw (or_none (crosses_atlantic tariff trip n), or_none (crosses_pacific tariff trip n), and_all (is_within_one tariff trip n)) refl) ∙ first in
      joined ind (crosses_atlantic tariff trip n) (crosses_pacific tariff trip n) (is_within_one tariff trip n) (list_any (crosses_atlantic tariff trip) (m ∷ ms)) (list_any (crosses_pacific tariff trip) (m ∷ ms)) (list_all (is_within_one tariff trip) (m ∷ ms)) alone
      (has_all m ms (λ k there. within k (inr there)))

  -- some sectors of the trip have its indicator
  some_have : (xs : List ℕ) (n : ℕ) → Member n xs → ((k : ℕ) → Member k xs → (1 ≤ k) × (k ≤ count trip)) → indicator_of tariff trip xs ≡ ind
  unfolding indicator_of
  some_have [] n m within = absurd m
  some_have (x ∷ xs) n m within = has_all x xs within

-- a unit of three parts or more is no open jaw and no round trip
no_jaw : (tariff : Tariff) (trip : Itinerary) (parts : List Part) (xs : List ℕ) → 3 ≤ length xs → is_jaw tariff trip parts xs ≡ false
no_jaw tariff trip parts [] long = absurd (omega arith)
no_jaw tariff trip parts (a ∷ []) long = absurd (omega arith)
no_jaw tariff trip parts (a ∷ b ∷ []) long = absurd (omega arith)
no_jaw tariff trip parts (a ∷ b ∷ c ∷ more) long = refl

not_two : (cost : ℕ → ℕ) (xs : List ℕ) → 3 ≤ length xs → are_two_equal cost xs ≡ false
not_two cost [] long = absurd (omega arith)
not_two cost (a ∷ []) long = absurd (omega arith)
not_two cost (a ∷ b ∷ []) long = absurd (omega arith)
not_two cost (a ∷ b ∷ c ∷ more) long = refl

and_false : (b : Bool) → (b && false) ≡ false
and_false true = refl
and_false false = refl

at_least_minimum : (sum m : ℕ) (minimum : Option ℕ) → minimum ≡ Some m → m ≤ at_least sum minimum
at_least_minimum sum m None e = absurd (none-some m e)
  where
    none-some : (n : ℕ) → None ≡ Some n → ⊥
    none-some n e = cc
at_least_minimum sum m (Some x) e = let same : x ≡ m = same_Some x m e in omega arith

-- a circle trip costs no less than twice the reference to where an earlier part ends
module _ (tariff : Tariff) (trip : Itinerary) (parts : List Part) (cost : ℕ) (lawful : IsLawful tariff trip parts cost) (k : ℕ) (low : 1 ≤ k) (high : k ≤ length parts) (less : k < last_of (own parts (unit_of parts k))) (circle : unit_kind tariff trip parts (own parts (unit_of parts k)) ≡ CT) where
  priced : unit_price tariff trip parts (unit_of parts k) ≡ at_least (unit_sum tariff trip parts (own parts (unit_of parts k))) (unit_circle_minimum tariff trip parts (own parts (unit_of parts k)))
  unfolding unit_sheet unit_minimum
  priced = rw circle refl

  pub turning_in_unit : (amount : ℕ) → circle_reference tariff trip parts (own parts (unit_of parts k)) k (end_of parts k) ≡ Some amount → 2 * amount ≤ unit_price tariff trip parts (unit_of parts k)
  unfolding unit_circle_minimum
  turning_in_unit amount e =
      let other : eqb k (last_of (own parts (unit_of parts k))) ≡ false = ne_eqb k (last_of (own parts (unit_of parts k))) (λ same. omega arith) in
      let R : ℕ → Option ℕ = circle_reference tariff trip parts (own parts (unit_of parts k)) k in
      let end : Member (end_of parts k) (part_points trip parts k) = member_right (end_of parts k) (part_stopovers trip parts k) (end_of parts k ∷ []) (inl refl) in
      let in_part = greatest_up R (part_points trip parts k) (end_of parts k) amount end e in
      let turning : greatest_turning tariff trip parts (own parts (unit_of parts k)) k ≡ Some in_part.0 = rw other in_part.1 in
      let in_unit = greatest_up (greatest_turning tariff trip parts (own parts (unit_of parts k))) (own parts (unit_of parts k)) k in_part.0 (own_has tariff trip parts cost lawful k low high) turning in
      let minimum : unit_circle_minimum tariff trip parts (own parts (unit_of parts k)) ≡ Some (2 * in_unit.0) = ap (option_map twice) in_unit.1 in
      let up : 2 * in_unit.0 ≤ at_least (unit_sum tariff trip parts (own parts (unit_of parts k))) (unit_circle_minimum tariff trip parts (own parts (unit_of parts k))) = at_least_minimum (unit_sum tariff trip parts (own parts (unit_of parts k))) (2 * in_unit.0) (unit_circle_minimum tariff trip parts (own parts (unit_of parts k))) minimum in
      let is : unit_price tariff trip parts (unit_of parts k) ≡ at_least (unit_sum tariff trip parts (own parts (unit_of parts k))) (unit_circle_minimum tariff trip parts (own parts (unit_of parts k))) = priced in
      let a : amount ≤ in_part.0 = in_part.2 in
      let b : in_part.0 ≤ in_unit.0 = in_unit.2 in
      omega arith

module _ (tariff : Tariff) (trip : Itinerary) (parts : List Part) (cost : ℕ) (lawful : IsLawful tariff trip parts cost) (k : ℕ) (low : 1 ≤ k) (high : k ≤ length parts) (none : holds_ow tariff parts (own parts (unit_of parts k)) ≡ false) (long : 3 ≤ length (own parts (unit_of parts k))) (less : k < last_of (own parts (unit_of parts k))) where
  abbrev mine : List ℕ
  mine = own parts (unit_of parts k)

  circle : unit_kind tariff trip parts (own parts (unit_of parts k)) ≡ CT
  unfolding unit_kind is_open_jaw is_round_trip
  circle = rw (none, no_jaw tariff trip parts (own parts (unit_of parts k)) long, not_two (part_cost tariff trip parts (own parts (unit_of parts k))) (own parts (unit_of parts k)) long, and_false (closes trip parts (own parts (unit_of parts k)))) refl

  module _ (ceiling : Ceiling) (alike : HasOneIndicator tariff trip ceiling.indicator) (within : unit_price tariff trip parts (unit_of parts k) ≤ ceiling.price) (home : ℕ) (city : point trip home ≡ origin trip parts (own parts (unit_of parts k))) where
    -- the unit's own sectors up to there have the indicator of all
    same_indicator : indicator_of tariff trip (own_sectors trip parts (own parts (unit_of parts k)) (end_of parts k)) ≡ ceiling.indicator
    unfolding own_sectors
    same_indicator =
        let cover = all tariff trip parts cost lawful in
        let rises : start_of trip parts k < end_of parts k = cover.above k low high in
        let inside : end_of parts k ≤ count trip = cover.within k low high in
        let holds : holds_sector trip parts (end_of parts k) k ≡ true = rw (lt-ltb (start_of trip parts k) (end_of parts k) rises, le-leb (end_of parts k) (end_of parts k) (omega arith)) refl in
        let own_sector : is_own_sector trip parts (own parts (unit_of parts k)) (end_of parts k) ≡ true = any_at (holds_sector trip parts (end_of parts k)) k (own parts (unit_of parts k)) (own_has tariff trip parts cost lawful k low high) holds in
        let there : Member (end_of parts k) (numbers 1 (end_of parts k + 1)) = member_numbers 1 (end_of parts k + 1) (end_of parts k) (omega arith) (omega arith) in
        some_have tariff trip ceiling.indicator alike (own_sectors trip parts (own parts (unit_of parts k)) (end_of parts k)) (end_of parts k)
        (member_filter (is_own_sector trip parts (own parts (unit_of parts k))) (end_of parts k) (numbers 1 (end_of parts k + 1)) own_sector there)
        (λ n m. let is = (kept_member (is_own_sector trip parts (own parts (unit_of parts k))) 1 (end_of parts k + 1 - 1) n m) in (is.0, omega (arith, is.1, inside)))

    abbrev reference_by : City → Indicator → Option Nuc
    reference_by from ind = option_and_then (λ (fare : FareRecord). reference tariff from (point trip (end_of parts k)) ind fare (first_day trip (start_of trip parts k))) (fare_at tariff (part_at parts k).fare)

    same_reference : option_and_then (reference_home tariff trip ceiling.indicator (start_of trip parts k) home (end_of parts k)) (fare_at tariff (part_at parts k).fare) ≡ circle_reference tariff trip parts (own parts (unit_of parts k)) k (end_of parts k)
    unfolding circle_reference
    same_reference = ap (λ from. reference_by from ceiling.indicator) city ∙ ap (reference_by (origin trip parts (own parts (unit_of parts k)))) (sym same_indicator)

    pub turn_is_cheap : is_too_dear tariff trip ceiling (start_of trip parts k) home (end_of parts k) (part_at parts k).fare ≡ false
    turn_is_cheap = by_amount (circle_reference tariff trip parts (own parts (unit_of parts k)) k (end_of parts k)) refl
      where
        not_above : (n : ℕ) → n ≤ ceiling.price → ltb ceiling.price n ≡ false
        not_above n most = elim (cases_Bool (ltb ceiling.price n)) [ inl t ↦ (let past : ceiling.price < n = ltb-true ceiling.price n t in absurd (omega arith)) | inr f ↦ f ]

        by_amount : (found : Option ℕ) → circle_reference tariff trip parts (own parts (unit_of parts k)) k (end_of parts k) ≡ found → is_too_dear tariff trip ceiling (start_of trip parts k) home (end_of parts k) (part_at parts k).fare ≡ false
        by_amount None e = ap (is_above ceiling.price) (same_reference ∙ e)
        by_amount (Some amount) e =
            let up : 2 * amount ≤ unit_price tariff trip parts (unit_of parts k) = turning_in_unit tariff trip parts cost lawful k low high less circle amount e in
            ap (is_above ceiling.price) (same_reference ∙ e) ∙ not_above (2 * amount) (omega (arith, within))

  -- so it costs what it does under any ceiling
  pub below_every : (ceiling : Option Ceiling) → IsCeiling tariff trip ceiling → IsWithin ceiling (unit_price tariff trip parts (unit_of parts k)) → (home : ℕ) → point trip home ≡ origin trip parts (own parts (unit_of parts k))
      → (cost_of : Entry → Option ℕ) (entry : Entry) → entry.fare ≡ (part_at parts k).fare → (x : ℕ) → cost_of entry ≡ Some x → below_ceiling tariff trip ceiling (start_of trip parts k) home (end_of parts k) cost_of entry ≡ Some x
  below_every None alike within home city cost_of entry same x costs = costs
  below_every (Some ceiling) alike within home city cost_of entry same x costs =
      let P : ℕ → Type 0 = λ fare. is_too_dear tariff trip ceiling (start_of trip parts k) home (end_of parts k) fare ≡ false in
      let cheap : is_too_dear tariff trip ceiling (start_of trip parts k) home (end_of parts k) entry.fare ≡ false = subst P (sym same) (turn_is_cheap ceiling alike within home city) in
      rw cheap costs
