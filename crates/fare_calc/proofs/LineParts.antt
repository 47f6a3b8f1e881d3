-- The parts of the line of a construction that breaks no rule.
use Rattle.std.proofs.Common.{◌≡◌, ℕ, zero, suc, ◌+◌, ◌-◌, ◌<◌, ◌≤◌, Bool, true, false, ◌&&◌, List, [], ◌∷◌, length, ◌∙◌, refl, ap, sym, subst, inl, inr, arith}
use Rattle.std.specs.Prelude.{Option, Some, None, IfSome, map, option_map, filter_map, nat_le, nat_lt}
use Rattle.std.specs.List.{cons_option, range_with_len, list_all}
use Rattle.std.proofs.lemmas.Bool.{cases_Bool, and_parts, lt-leb, lt-ltb, le-leb}
use Rattle.fare_codes.specs.declared.city.City.{City}
use Rattle.fare_trip.specs.Itinerary.{Itinerary, count, point}
use Rattle.fare_tariff.specs.Record.{FareRecord}
use Rattle.fare_tariff.specs.Tariff.{Tariff}
use Rattle.fare_rules.specs.declared.part.Part.{Part}
use Rattle.fare_rules.specs.Numbers.{numbers}
use Rattle.fare_rules.specs.Span.{is_surface}
use Rattle.fare_rules.specs.Indicator.{indicator}
use Rattle.fare_rules.specs.ComponentAmount.{span_surcharge}
use Rattle.fare_rules.specs.Construction.{places, start_of, end_of, unit_of, fare_of, begin_after, greatest_unit}
use Rattle.fare_rules.specs.Direction.{is_back}
use Rattle.fare_rules.specs.Lawful.{first_broken, holds_gap}
use Rattle.fare_rules.proofs.AmountLemmas.{fails_not, fare_is_filed, part_may_be_used}
use Rattle.fare_rules.proofs.CoverLemmas.{IsCover, cover}
use Rattle.fare_rules.proofs.ExistenceLemmas.{units_numbered, greatest_up_to_place, unit_up_to_place}
use Rattle.fare_rules.proofs.LawfulLemmas.{IsKept, kept_from_unbroken}
use Rattle.fare_rules.proofs.TotalLemmas.{parts_up_to}
use Rattle.fare_line.specs.declared.line.part.Letter.TheVariants.{Bare}
use Rattle.fare_line.specs.declared.line.sector.LineSector.{LineSector}
use Rattle.fare_calc.specs.declared.part_sheet.PartSheet.{PartSheet}
use Rattle.fare_line.specs.declared.line.part.LinePart.{LinePart}
use Rattle.fare_line.specs.Line.{are_parts, flown_count, gap_count, is_led, is_priced, is_unit}
use Rattle.fare_calc.specs.LineOf.{FitsLine, letter_of, flown_of, flown_sector, flown_from, line_part}
use Rattle.fare_calc.specs.PartSheets.{gap_after, gap_before, in_fare_direction, part_higher, part_mileage, part_sheets, sheet_with, sheet_of_part}
use Rattle.fare_calc.proofs.LetterLemmas.{letter_has_form, bare_not_higher}
use Rattle.fare_calc.proofs.RangeLists.{gather_next, gather_none, any_none, both_hold, map_found}

-- the part of a line for a part of a construction
abbrev line_part_of : Tariff → Itinerary → List Part → ℕ → Option LinePart
line_part_of tariff trip parts k = option_map line_part (sheet_of_part tariff trip parts k)

-- sectors that are flown, one after the other
flown_in_air : (trip : Itinerary) (d a : ℕ) → a + d ≤ count trip → ((i : ℕ) → a < i → i ≤ a + d → is_surface trip i ≡ false) → length (flown_from trip (a + 1)) ≡ d + length (flown_from trip (a + d + 1))
flown_in_air trip zero a high air =
    let e : a + 1 ≡ a + 0 + 1 = omega arith in
    let f : length (flown_from trip (a + 1)) ≡ length (flown_from trip (a + 0 + 1)) = ap (λ (k : ℕ). length (flown_from trip k)) e in
    omega arith
flown_in_air trip (suc d) a high air =
    let here : is_surface trip (a + 1) ≡ false = air (a + 1) (omega arith) (omega arith) in
    let found : flown_of trip (a + 1) ≡ Some (flown_sector trip (a + 1)) = rw here in
    let split : flown_from trip (a + 1) ≡ flown_sector trip (a + 1) ∷ flown_from trip (a + 1 + 1) =
    gather_next (flown_of trip) (a + 1) (count trip + 1) (omega arith) ∙ ap (λ (o : Option LineSector). cons_option o (flown_from trip (a + 1 + 1))) found in
    let more : length (flown_from trip (a + 1)) ≡ suc (length (flown_from trip (a + 1 + 1))) = ap length split in
    let rest : length (flown_from trip (a + 1 + 1)) ≡ d + length (flown_from trip (a + 1 + d + 1)) = flown_in_air trip d (a + 1) (omega arith) (λ i low most. air i (omega arith) (omega arith)) in
    let e : a + 1 + d + 1 ≡ a + suc d + 1 = omega arith in
    let f : length (flown_from trip (a + 1 + d + 1)) ≡ length (flown_from trip (a + suc d + 1)) = ap (λ (k : ℕ). length (flown_from trip k)) e in
    omega arith

-- where a gap begins at a point no sector is flown before the point where it ends
flown_after_gap : (trip : Itinerary) (e : ℕ) → begin_after trip e < count trip → (flown_from trip (e + 1) ≡ flown_from trip (begin_after trip e + 1)) × (e + gap_count (gap_after trip e) ≡ begin_after trip e)
flown_after_gap trip e h =
    elim (cases_Bool (is_surface trip (e + 1))) [
      | inl gap ↦
          let begins : begin_after trip e ≡ e + 1 = rw gap in
          let leads : gap_after trip e ≡ Some (point trip (e + 1)) = rw gap in
          let none : flown_of trip (e + 1) ≡ None = rw gap in
          let split : flown_from trip (e + 1) ≡ flown_from trip (e + 1 + 1) =
          gather_next (flown_of trip) (e + 1) (count trip + 1) (omega arith) ∙ ap (λ (o : Option LineSector). cons_option o (flown_from trip (e + 1 + 1))) none in
          let one : gap_count (gap_after trip e) ≡ 1 = ap gap_count leads in
          (split ∙ ap (λ (k : ℕ). flown_from trip (k + 1)) (sym begins), omega arith)
      | inr air ↦
          let begins : begin_after trip e ≡ e = rw air in
          let leads : gap_after trip e ≡ None = rw air in
          let none : gap_count (gap_after trip e) ≡ 0 = ap gap_count leads in
          (ap (λ (k : ℕ). flown_from trip (k + 1)) (sym begins), omega arith)
    ]

-- where the parts up to a place end
ends_behind : List Part → ℕ → ℕ
ends_behind parts zero = 0
ends_behind parts (suc j) = end_of parts (suc j)

next_end : (parts : List Part) (j : ℕ) → ends_behind parts (j + 1) ≡ end_of parts (j + 1)
unfolding ends_behind
next_end parts j =
    let e : suc j ≡ j + 1 = omega arith in
    subst (λ m. ends_behind parts m ≡ end_of parts m) e refl

five_hold : (a b c d e : Bool) → a ≡ true → b ≡ true → c ≡ true → d ≡ true → e ≡ true → (a && b && c && d && e) ≡ true
five_hold a b c d e f g h i j = rw (f, g, h, i, j)

-- a part of a line before others
parts_lead : (begun flown : ℕ) (part : LinePart) (rest : List LinePart) → is_priced part ≡ true → begun + gap_count part.gap < part.end → part.end ≤ 16 → flown_count begun part ≤ flown → are_parts part.end (flown - flown_count begun part) rest ≡ true → are_parts begun flown (part ∷ rest) ≡ true
unfolding are_parts
parts_lead begun flown part rest priced begins ends fits others =
    five_hold (is_priced part) (nat_lt (begun + gap_count part.gap) part.end) (nat_le part.end 16) (nat_le (flown_count begun part) flown) (are_parts part.end (flown - flown_count begun part) rest)
    priced (lt-ltb (begun + gap_count part.gap) part.end begins) (le-leb part.end 16 ends) (le-leb (flown_count begun part) flown fits) others

at_least_one : (parts : List Part) → {n : ℕ} → end_of parts (length parts) ≡ n → 1 ≤ n → 1 ≤ length parts
at_least_one [] e some = absurd (omega arith)
at_least_one (first ∷ rest) e some = omega arith

module _ (tariff : Tariff) (trip : Itinerary) (parts : List Part) (kept : IsKept tariff trip parts) (short : count trip ≤ 16) where
  covers : IsCover trip parts
  covers = cover trip parts kept.cover

  in_air : (k : ℕ) → 1 ≤ k → k ≤ length parts → (i : ℕ) → start_of trip parts k < i → i ≤ end_of parts k → is_surface trip i ≡ false
  in_air k low high i first last =
      any_none (is_surface trip) (start_of trip parts k + 1) (end_of parts k + 1) (fails_not tariff trip parts kept k low high (holds_gap trip parts) kept.surface) i (omega arith) (omega arith)

  -- before a part stand the sectors up to the end of the part before it, and its gap
  behind_gap : (j : ℕ) → j + 1 ≤ length parts → (flown_from trip (ends_behind parts j + 1) ≡ flown_from trip (start_of trip parts (j + 1) + 1)) × (ends_behind parts j + gap_count (gap_before trip parts (j + 1)) ≡ start_of trip parts (j + 1))
  unfolding ends_behind
  behind_gap zero high = (refl, refl)
  behind_gap (suc i) high =
      let later : nat_le (suc i + 1) 1 ≡ false = lt-leb (suc i + 1) 1 (omega arith) in
      let before : suc i + 1 - 1 ≡ suc i = omega arith in
      let starts : start_of trip parts (suc i + 1) ≡ begin_after trip (end_of parts (suc i)) = rw (later, before) in
      let leads : gap_before trip parts (suc i + 1) ≡ gap_after trip (end_of parts (suc i)) = rw (later, before) in
      let above : start_of trip parts (suc i + 1) < end_of parts (suc i + 1) = covers.above (suc i + 1) (omega arith) high in
      let within : end_of parts (suc i + 1) ≤ count trip = covers.within (suc i + 1) (omega arith) high in
      let at = flown_after_gap trip (end_of parts (suc i)) (omega arith) in
      (at.0 ∙ ap (λ (k : ℕ). flown_from trip (k + 1)) (sym starts), ap (λ (o : Option City). end_of parts (suc i) + gap_count o) leads ∙ at.1 ∙ sym starts)

  -- the part of a line that stands for a part
  part_found : (k : ℕ) (low : 1 ≤ k) (high : k ≤ length parts) → line_part_of tariff trip parts k ≡ Some (line_part (sheet_with tariff trip parts k (fare_is_filed tariff trip parts kept k low high).0))
  part_found k low high = rw ((fare_is_filed tariff trip parts kept k low high).1)

  abbrev lines_from : ℕ → ℕ → List LinePart
  lines_from first n = filter_map (line_part_of tariff trip parts) (range_with_len first n)

  -- the parts from a place on share the flown sectors behind the part before it
  shares : (n j : ℕ) → 1 ≤ length parts → j + n ≡ length parts → list_all is_priced (lines_from (j + 1) n) ≡ true → are_parts (ends_behind parts j) (length (flown_from trip (ends_behind parts j + 1))) (lines_from (j + 1) n) ≡ true
  unfolding are_parts ends_behind sheet_with
  shares zero zero some all priced = absurd (omega arith)
  shares zero (suc i) some all priced =
      let e : suc i ≡ length parts = omega arith in
      let last : end_of parts (suc i) ≡ count trip = ap (end_of parts) e ∙ covers.last in
      let none : flown_from trip (end_of parts (suc i) + 1) ≡ [] = gather_none (flown_of trip) (end_of parts (suc i) + 1) (count trip + 1) (omega arith) in
      rw none
  shares (suc n) j some all priced =
      let low : 1 ≤ j + 1 = omega arith in
      let high : j + 1 ≤ length parts = omega arith in
      let k : ℕ = j + 1 in
      let found = part_found (j + 1) low high in
      let part : LinePart = line_part (sheet_with tariff trip parts (j + 1) (fare_is_filed tariff trip parts kept (j + 1) low high).0) in
      let split : lines_from (j + 1) (suc n) ≡ part ∷ lines_from (j + 1 + 1) n = ap (λ (o : Option LinePart). cons_option o (lines_from (j + 1 + 1) n)) found in
      let tests : (is_priced part && list_all is_priced (lines_from (j + 1 + 1) n)) ≡ true = ap (list_all is_priced) (sym split) ∙ priced in
      let both = and_parts (is_priced part) (list_all is_priced (lines_from (j + 1 + 1) n)) tests in
      let gap = behind_gap j high in
      let begins : ends_behind parts j + gap_count (gap_before trip parts (j + 1)) ≡ start_of trip parts (j + 1) = gap.1 in
      let above : start_of trip parts (j + 1) < end_of parts (j + 1) = covers.above (j + 1) low high in
      let within : end_of parts (j + 1) ≤ count trip = covers.within (j + 1) low high in
      let apart : start_of trip parts (j + 1) + (end_of parts (j + 1) - start_of trip parts (j + 1)) ≡ end_of parts (j + 1) = omega arith in
      let flown : length (flown_from trip (start_of trip parts (j + 1) + 1)) ≡ (end_of parts (j + 1) - start_of trip parts (j + 1)) + length (flown_from trip (start_of trip parts (j + 1) + (end_of parts (j + 1) - start_of trip parts (j + 1)) + 1)) =
      flown_in_air trip (end_of parts (j + 1) - start_of trip parts (j + 1)) (start_of trip parts (j + 1)) (omega arith) (λ i first last. in_air (j + 1) low high i first (omega arith)) in
      let behind : length (flown_from trip (start_of trip parts (j + 1) + (end_of parts (j + 1) - start_of trip parts (j + 1)) + 1)) ≡ length (flown_from trip (end_of parts (j + 1) + 1)) = ap (λ (m : ℕ). length (flown_from trip (m + 1))) apart in
      let whole : length (flown_from trip (ends_behind parts j + 1)) ≡ length (flown_from trip (start_of trip parts (j + 1) + 1)) = ap length gap.0 in
      let own : flown_count (ends_behind parts j) part ≡ end_of parts (j + 1) - start_of trip parts (j + 1) = ap (λ (m : ℕ). end_of parts (j + 1) - m) begins in
      let left : length (flown_from trip (ends_behind parts j + 1)) - flown_count (ends_behind parts j) part ≡ length (flown_from trip (end_of parts (j + 1) + 1)) = omega arith in
      let next : ends_behind parts (j + 1) ≡ end_of parts (j + 1) = next_end parts j in
      let rest : are_parts (ends_behind parts (j + 1)) (length (flown_from trip (ends_behind parts (j + 1) + 1))) (lines_from (j + 1 + 1) n) ≡ true = shares n (j + 1) some (omega arith) both.1 in
      let rest2 : are_parts (end_of parts (j + 1)) (length (flown_from trip (end_of parts (j + 1) + 1))) (lines_from (j + 1 + 1) n) ≡ true =
      subst (λ m. are_parts m (length (flown_from trip (m + 1))) (lines_from (j + 1 + 1) n) ≡ true) next rest in
      let rest3 : are_parts (end_of parts (j + 1)) (length (flown_from trip (ends_behind parts j + 1)) - flown_count (ends_behind parts j) part) (lines_from (j + 1 + 1) n) ≡ true =
      subst (λ m. are_parts (end_of parts (j + 1)) m (lines_from (j + 1 + 1) n) ≡ true) (sym left) rest2 in
      ap (are_parts (ends_behind parts j) (length (flown_from trip (ends_behind parts j + 1)))) split
      ∙ parts_lead (ends_behind parts j) (length (flown_from trip (ends_behind parts j + 1))) part (lines_from (j + 1 + 1) n) both.0 (omega arith) (omega arith) (omega arith) rest3

  some_parts : 1 ≤ count trip → 1 ≤ length parts
  some_parts some = at_least_one parts covers.last some

  -- the parts of the line share the flown sectors of the trip, and there is no gap before the first
  pub parts_share : 1 ≤ count trip → list_all is_priced (filter_map (line_part_of tariff trip parts) (places parts)) ≡ true → are_parts 0 (length (flown_from trip 1)) (filter_map (line_part_of tariff trip parts) (places parts)) ≡ true
  unfolding ends_behind
  parts_share some priced =
      let e : length parts + 1 - 1 ≡ length parts = omega arith in
      let all : filter_map (line_part_of tariff trip parts) (places parts) ≡ lines_from 1 (length parts) = ap (lines_from 1) e in
      let each : list_all is_priced (lines_from 1 (length parts)) ≡ true = ap (list_all is_priced) (sym all) ∙ priced in
      ap (are_parts 0 (length (flown_from trip 1))) all ∙ shares (length parts) 0 (some_parts some) (omega arith) each

  pub parts_are_led : 1 ≤ count trip → is_led (filter_map (line_part_of tariff trip parts) (places parts)) ≡ true
  unfolding sheet_with
  parts_are_led some =
      let low : 1 ≤ length parts = some_parts some in
      let part : LinePart = line_part (sheet_with tariff trip parts 1 (fare_is_filed tariff trip parts kept 1 (omega arith) low).0) in
      let split : filter_map (line_part_of tariff trip parts) (places parts) ≡ part ∷ filter_map (line_part_of tariff trip parts) (numbers 2 (length parts + 1)) =
      gather_next (line_part_of tariff trip parts) 1 (length parts + 1) (omega arith) ∙ ap (λ (o : Option LinePart). cons_option o (filter_map (line_part_of tariff trip parts) (numbers 2 (length parts + 1)))) (part_found 1 (omega arith) low) in
      ap is_led split

  unit_has_form : (k : ℕ) → 1 ≤ k → k ≤ length parts → is_unit (unit_of parts k) ≡ true
  unit_has_form k low high =
      let few : length parts ≤ count trip = parts_up_to trip parts covers in
      let first : 1 ≤ unit_of parts k = (units_numbered parts kept.numbering k low high).0 in
      let last : unit_of parts k ≤ k = unit_up_to_place parts kept.numbering k low high in
      both_hold (nat_le 1 (unit_of parts k)) (nat_le (unit_of parts k) 16) (le-leb 1 (unit_of parts k) first) (le-leb (unit_of parts k) 16 (omega arith))

  pub few_units : greatest_unit parts (places parts) ≤ 16
  few_units =
      let few : length parts ≤ count trip = parts_up_to trip parts covers in
      let e : length parts + 1 - 1 ≡ length parts = omega arith in
      let most : greatest_unit parts (range_with_len 1 (length parts)) ≤ length parts = greatest_up_to_place parts kept.numbering (length parts) (omega arith) in
      let same : greatest_unit parts (places parts) ≡ greatest_unit parts (range_with_len 1 (length parts)) = ap (λ (n : ℕ). greatest_unit parts (range_with_len 1 n)) e in
      omega arith

  higher_none : (k : ℕ) → 1 ≤ k → k ≤ length parts → (fare : FareRecord) → fare_of tariff parts k ≡ Some fare → letter_of (part_mileage tariff trip parts k) ≡ Bare → part_higher tariff trip parts k fare ≡ None
  unfolding span_surcharge
  higher_none k low high fare f e =
      let used = (part_may_be_used tariff trip parts kept k low high fare f).mileage in
      let none = bare_not_higher tariff trip (start_of trip parts k) (end_of parts k) (indicator tariff trip (start_of trip parts k) (end_of parts k)) fare (is_back tariff trip parts k) used e in
      ap (option_map (in_fare_direction trip (is_back tariff trip parts k))) none

  sheet_fits : (k : ℕ) → 1 ≤ k → k ≤ length parts → (fare : FareRecord) → fare_of tariff parts k ≡ Some fare → (sheet_with tariff trip parts k fare).amount ≤ 1_250_000_000 → FitsLine (sheet_with tariff trip parts k fare)
  unfolding sheet_with
  sheet_fits k low high fare f small = record {
    letter = letter_has_form tariff trip (start_of trip parts k) (end_of parts k) (indicator tariff trip (start_of trip parts k) (end_of parts k));
    pair = higher_none k low high fare f;
    unit = unit_has_form k low high;
    amount = small;
  }

-- what a construction that breaks no rule says of the sheet of a part
pub sheet_found : (tariff : Tariff) (trip : Itinerary) (parts : List Part) (k : ℕ) → first_broken tariff trip parts ≡ None → count trip ≤ 16 → 1 ≤ k → k ≤ length parts → (found : Option PartSheet) → found ≡ sheet_of_part tariff trip parts k → IfSome found (λ sheet. sheet.amount ≤ 1_250_000_000) → IfSome found FitsLine
sheet_found tariff trip parts k lawful short low high found e small =
    let fare = fare_is_filed tariff trip parts kept k low high in
    let is : found ≡ Some (sheet_with tariff trip parts k fare.0) = e ∙ ap (option_map (sheet_with tariff trip parts k)) fare.1 in
    subst (λ o. IfSome o FitsLine) (sym is) (sheet_fits tariff trip parts kept short k low high fare.0 fare.1 (subst (λ o. IfSome o (λ sheet. sheet.amount ≤ 1_250_000_000)) is small))
  where
    kept : IsKept tariff trip parts
    kept = kept_from_unbroken tariff trip parts lawful

-- the parts of its line are those of the sheets
parts_of_line : (tariff : Tariff) (trip : Itinerary) (parts : List Part) → map line_part (part_sheets tariff trip parts) ≡ filter_map (line_part_of tariff trip parts) (places parts)
parts_of_line tariff trip parts = map_found line_part (sheet_of_part tariff trip parts) (places parts)

-- and of the parts and units of its line
pub lawful_parts_share : (tariff : Tariff) (trip : Itinerary) (parts : List Part) (line : List LinePart) → line ≡ map line_part (part_sheets tariff trip parts) → first_broken tariff trip parts ≡ None → count trip ≤ 16 → 1 ≤ count trip → list_all is_priced line ≡ true → are_parts 0 (length (flown_from trip 1)) line ≡ true
lawful_parts_share tariff trip parts line e lawful short some priced =
    let is : line ≡ filter_map (line_part_of tariff trip parts) (places parts) = e ∙ parts_of_line tariff trip parts in
    ap (are_parts 0 (length (flown_from trip 1))) is ∙ parts_share tariff trip parts (kept_from_unbroken tariff trip parts lawful) short some (ap (list_all is_priced) (sym is) ∙ priced)

pub lawful_parts_are_led : (tariff : Tariff) (trip : Itinerary) (parts : List Part) (line : List LinePart) → line ≡ map line_part (part_sheets tariff trip parts) → first_broken tariff trip parts ≡ None → count trip ≤ 16 → 1 ≤ count trip → is_led line ≡ true
lawful_parts_are_led tariff trip parts line e lawful short some =
    ap is_led (e ∙ parts_of_line tariff trip parts) ∙ parts_are_led tariff trip parts (kept_from_unbroken tariff trip parts lawful) short some

pub lawful_few_units : (tariff : Tariff) (trip : Itinerary) (parts : List Part) → first_broken tariff trip parts ≡ None → count trip ≤ 16 → greatest_unit parts (places parts) ≤ 16
lawful_few_units tariff trip parts lawful short = few_units tariff trip parts (kept_from_unbroken tariff trip parts lawful) short

pub lawful_some_parts : (tariff : Tariff) (trip : Itinerary) (parts : List Part) → first_broken tariff trip parts ≡ None → count trip ≤ 16 → 1 ≤ count trip → 1 ≤ length parts
lawful_some_parts tariff trip parts lawful short some = some_parts tariff trip parts (kept_from_unbroken tariff trip parts lawful) short some
