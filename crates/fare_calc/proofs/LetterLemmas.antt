-- The letter of a span, and that a span without one has no higher intermediate point.
use Rattle.std.proofs.Common.{◌≡◌, ℕ, zero, suc, ◌+◌, ◌-◌, Bool, true, false, cond, List, [], ◌∷◌, ◌∙◌, refl, ap, sym, subst, eqb, arith}
use Rattle.std.specs.Prelude.{Option, Some, None, find, is_some, nat_lt}
use Rattle.std.proofs.lemmas.Bool.{eqb-true, eq-eqb}
use Rattle.fare_codes.specs.declared.indicator.Indicator.{Indicator}
use Rattle.fare_codes.specs.declared.nuc.Nuc.{Nuc}
use Rattle.fare_trip.specs.Itinerary.{Itinerary, point}
use Rattle.fare_tariff.specs.Lookup.{mpm}
use Rattle.fare_tariff.specs.Record.{FareRecord}
use Rattle.fare_tariff.specs.Tariff.{Tariff}
use Rattle.fare_rules.specs.declared.miles.Mileage.{Mileage}
use Rattle.fare_rules.specs.declared.miles.Mileage.TheVariants.{Direct, Within, Excess, NoTpm, NoMpm, Over}
use Rattle.fare_rules.specs.declared.miles.Miles.{Miles}
use Rattle.fare_rules.specs.Numbers.{numbers}
use Rattle.fare_rules.specs.Base.{compared_reference, compared_pair, compared_pairs, highest, higher, is_compared, gives}
use Rattle.fare_rules.specs.Mileage.{is_covered_by, surcharge, mileage_with, compared_miles, mileage_by, mileage, miles_from, first_without_tpm, sum_of_miles, allowance_of, surcharge_of}
use Rattle.fare_rules.proofs.NumberLemmas.{numbers_next, numbers_none}
use Rattle.fare_line.specs.declared.line.part.Letter.TheVariants.{Bare, Mileage as Marked}
use Rattle.fare_line.specs.Line.{is_letter}
use Rattle.fare_calc.specs.LineOf.{letter_of}

-- the first step that passes a test has a letter
letter_of_step : (miles : Miles) (a b c d e f : Bool) → is_letter (letter_of (mileage_with miles (cond a (Some 0) (cond b (Some 5) (cond c (Some 10) (cond d (Some 15) (cond e (Some 20) (cond f (Some 25) None)))))))) ≡ true
letter_of_step miles true b c d e f = refl
letter_of_step miles false true c d e f = refl
letter_of_step miles false false true d e f = refl
letter_of_step miles false false false true e f = refl
letter_of_step miles false false false false true f = refl
letter_of_step miles false false false false false true = refl
letter_of_step miles false false false false false false = refl

letter_of_compared : (miles : Miles) → is_letter (letter_of (compared_miles miles)) ≡ true
unfolding compared_miles surcharge
letter_of_compared miles =
    letter_of_step miles (is_covered_by miles.net miles.mpm 0) (is_covered_by miles.net miles.mpm 5) (is_covered_by miles.net miles.mpm 10)
    (is_covered_by miles.net miles.mpm 15) (is_covered_by miles.net miles.mpm 20) (is_covered_by miles.net miles.mpm 25)

letter_by : (first permitted : Option ℕ) (sum less : ℕ) → is_letter (letter_of (mileage_by first permitted sum less)) ≡ true
letter_by (Some number) permitted sum less = refl
letter_by None None sum less = refl
letter_by None (Some most) sum less = letter_of_compared (miles_from sum less most)

letter_if : (one : Bool) (other : Mileage) → is_letter (letter_of other) ≡ true → is_letter (letter_of (cond one Direct other)) ≡ true
letter_if true other h = refl
letter_if false other h = h

-- a span's letter is nothing or that of a surcharge
pub letter_has_form : (tariff : Tariff) (trip : Itinerary) (a b : ℕ) (ind : Indicator) → is_letter (letter_of (mileage tariff trip a b ind)) ≡ true
unfolding mileage
letter_has_form tariff trip a b ind =
    letter_if (eqb b (a + 1)) (mileage_by (first_without_tpm tariff trip a b) (mpm tariff (point trip a) (point trip b) ind) (sum_of_miles tariff trip a b) (allowance_of tariff trip a b ind))
    (letter_by (first_without_tpm tariff trip a b) (mpm tariff (point trip a) (point trip b) ind) (sum_of_miles tariff trip a b) (allowance_of tariff trip a b ind))

-- miles that were compared are not direct
abbrev is_direct : Mileage → Bool
is_direct Direct = true
is_direct (Within miles) = false
is_direct (Excess step miles) = false
is_direct (NoTpm number) = false
is_direct NoMpm = false
is_direct (Over miles) = false

indirect_with : (miles : Miles) (step : Option ℕ) → is_direct (mileage_with miles step) ≡ false
indirect_with miles None = refl
indirect_with miles (Some zero) = refl
indirect_with miles (Some (suc less)) = refl

indirect_by : (first permitted : Option ℕ) (sum less : ℕ) → is_direct (mileage_by first permitted sum less) ≡ false
unfolding compared_miles
indirect_by (Some number) permitted sum less = refl
indirect_by None None sum less = refl
indirect_by None (Some most) sum less = indirect_with (miles_from sum less most) (surcharge (sum - less) most)

true_false : true ≡ false → ⊥
true_false e = cc

direct_if : (one : Bool) (other : Mileage) → is_direct other ≡ false → is_direct (cond one Direct other) ≡ true → one ≡ true
direct_if true other h e = refl
direct_if false other h e = absurd (true_false (sym e ∙ h))

-- a direct span has one sector
one_sector : (tariff : Tariff) (trip : Itinerary) (a b : ℕ) (ind : Indicator) → is_direct (mileage tariff trip a b ind) ≡ true → b ≡ a + 1
unfolding mileage
one_sector tariff trip a b ind e =
    eqb-true b (a + 1)
    (direct_if (eqb b (a + 1)) (mileage_by (first_without_tpm tariff trip a b) (mpm tariff (point trip a) (point trip b) ind) (sum_of_miles tariff trip a b) (allowance_of tariff trip a b ind))
    (indirect_by (first_without_tpm tariff trip a b) (mpm tariff (point trip a) (point trip b) ind) (sum_of_miles tariff trip a b) (allowance_of tariff trip a b ind)) e)

marked_bare : (step : ℕ) → Marked step ≡ Bare → ⊥
marked_bare step e = cc

none_is_some : is_some {T = ℕ} None ≡ true → ⊥
none_is_some e = cc

-- a mileage that lets a fare be used and has no letter is direct
bare_is_direct : (found : Mileage) → is_some (surcharge_of found) ≡ true → letter_of found ≡ Bare → is_direct found ≡ true
bare_is_direct Direct used e = refl
bare_is_direct (Within miles) used e = absurd (marked_bare 0 e)
bare_is_direct (Excess step miles) used e = absurd (marked_bare step e)
bare_is_direct (NoTpm number) used e = absurd (none_is_some used)
bare_is_direct NoMpm used e = absurd (none_is_some used)
bare_is_direct (Over miles) used e = absurd (none_is_some used)

highest_of_none : (amount : Nuc) → highest amount [] ≡ None
highest_of_none amount = elim (nat_lt amount amount) as (λ b. cond b (find (gives amount) []) None ≡ None) [ true ↦ refl | false ↦ refl ]

whole_not_compared : (trip : Itinerary) (a b : ℕ) → is_compared trip a b a b ≡ false
whole_not_compared trip a b =
    let e : eqb a a ≡ true = eq-eqb a a refl in
    let f : eqb b b ≡ true = eq-eqb b b refl in
    rw (e, f)

no_pair : (tariff : Tariff) (trip : Itinerary) (a b : ℕ) (fare : FareRecord) (back : Bool) → compared_pair tariff trip a b fare back a b ≡ None
no_pair tariff trip a b fare back =
    let none : compared_reference tariff trip a b fare back a b ≡ None = rw (whole_not_compared trip a b) in
    rw none

one_number : (a : ℕ) → numbers a (a + 1) ≡ a ∷ []
one_number a = numbers_next a (a + 1) (omega arith) ∙ ap (λ (xs : List ℕ). a ∷ xs) (numbers_none (a + 1) (a + 1) (omega arith))

-- a span of one sector has no pair to compare
no_pairs : (tariff : Tariff) (trip : Itinerary) (a : ℕ) (fare : FareRecord) (back : Bool) → compared_pairs tariff trip a (a + 1) fare back ≡ []
unfolding compared_pairs
no_pairs tariff trip a fare back =
    rw (one_number a, one_number (a + 1), no_pair tariff trip a (a + 1) fare back)

not_higher : (tariff : Tariff) (trip : Itinerary) (a : ℕ) (fare : FareRecord) (back : Bool) → higher tariff trip a (a + 1) fare back ≡ None
unfolding higher
not_higher tariff trip a fare back = ap (highest fare.amount) (no_pairs tariff trip a fare back) ∙ highest_of_none fare.amount

-- a span that a fare may be used for, and that has no letter, has no higher intermediate point
pub bare_not_higher : (tariff : Tariff) (trip : Itinerary) (a b : ℕ) (ind : Indicator) (fare : FareRecord) (back : Bool) → is_some (surcharge_of (mileage tariff trip a b ind)) ≡ true → letter_of (mileage tariff trip a b ind) ≡ Bare → higher tariff trip a b fare back ≡ None
bare_not_higher tariff trip a b ind fare back used e =
    let direct : is_direct (mileage tariff trip a b ind) ≡ true = bare_is_direct (mileage tariff trip a b ind) used e in
    let one : b ≡ a + 1 = one_sector tariff trip a b ind direct in
    subst (λ n. higher tariff trip a n fare back ≡ None) (sym one) (not_higher tariff trip a fare back)
