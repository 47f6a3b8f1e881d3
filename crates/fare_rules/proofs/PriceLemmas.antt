-- How great amounts, minimums and prices can be.
use Rattle.std.proofs.Common.{◌≡◌, ℕ, zero, suc, ◌+◌, ◌-◌, ◌*◌, ◌^◌, ◌<◌, ◌≤◌, Bool, true, false, cond, eqb, ltb, List, [], ◌∷◌, ◌++◌, refl, subst, arith}
use Rattle.std.specs.Prelude.{Option, Some, None, option_map, option_and_then, find, filter_map, flat_map}
use Rattle.std.specs.List.{cons_option}
use Rattle.std.proofs.Math.Nat.{mul-le-mul, div-le_of_le-mul}
use Rattle.fare_codes.specs.Amounts.{surcharged}
use Rattle.fare_codes.specs.declared.city.City.{City}
use Rattle.fare_codes.specs.declared.day.Day.{Day}
use Rattle.fare_codes.specs.declared.indicator.Indicator.{Indicator}
use Rattle.fare_trip.specs.Itinerary.{Itinerary, point}
use Rattle.fare_records.specs.Record.{FareRecord}
use Rattle.fare_tariff.specs.Tariff.{Tariff}
use Rattle.fare_tariff.specs.Lookup.{fare_at, mpm}
use Rattle.fare_rules.specs.declared.miles.Mileage.TheVariants.{Direct}
use Rattle.fare_rules.specs.declared.miles.Miles.{Miles}
use Rattle.fare_codes.specs.Amounts.{greater}
use Rattle.fare_rules.specs.Numbers.{numbers, greatest_of}
use Rattle.fare_rules.specs.Span.{stopovers, first_day}
use Rattle.fare_rules.specs.Indicator.{indicator}
use Rattle.fare_rules.specs.Mileage.{surcharge, surcharge_steps, is_covered_by, mileage, mileage_by, mileage_with, compared_miles, surcharge_of, first_without_tpm, sum_of_miles, allowance_of, miles_from}
use Rattle.fare_rules.specs.Reference.{reference}
use Rattle.fare_rules.specs.Base.{Compared, base, compared_pairs, compared_from, compared_pair, compared_reference, is_compared, reference_between, greatest_amount, with_amount}
use Rattle.fare_rules.specs.Backhaul.{backhaul, greatest_reference, reference_to, minimum_above}
use Rattle.fare_rules.specs.ComponentAmount.{span_surcharge, is_applicable, fare_amount, component_amount, amount_from}
use Rattle.fare_rules.specs.UnitPrice.{hundredths_of}
use Rattle.fare_rules.specs.Valid.{HasFaresInForm}
use Rattle.fare_rules.proofs.ReferenceLemmas.{reference_is_filed}

-- an amount, where there is one, is at most some number
abbrev pub UpTo : ℕ → Option ℕ → Type 0
UpTo most None = Unit
UpTo most (Some amount) = amount ≤ most

up_to : (most : ℕ) (o : Option ℕ) → ((amount : ℕ) → o ≡ Some amount → amount ≤ most) → UpTo most o
up_to most None h = tt
up_to most (Some amount) h = h amount refl

greater_up_to : (most : ℕ) (a b : Option ℕ) → UpTo most a → UpTo most b → UpTo most (greater a b)
greater_up_to most None b h k = k
greater_up_to most (Some a) None h k = h
greater_up_to most (Some a) (Some b) h k = omega arith

pub greatest_up_to : {A : Type 0} (most : ℕ) (amount : A → Option ℕ) (xs : List A) → ((x : A) → UpTo most (amount x))
    → UpTo most (greatest_of amount xs)
greatest_up_to most amount [] h = tt
greatest_up_to most amount (x ∷ xs) h = greater_up_to most (amount x) (greatest_of amount xs) (h x) (greatest_up_to most amount xs h)

-- a surcharge is at most 25
abbrev AllUpTo : ℕ → List ℕ → Type 0
AllUpTo most [] = Unit
AllUpTo most (x ∷ xs) = (x ≤ most) × AllUpTo most xs

found_up_to : (most : ℕ) (test : ℕ → Bool) (xs : List ℕ) → AllUpTo most xs → UpTo most (find test xs)
found_up_to most test [] h = tt
found_up_to most test (x ∷ xs) h =
    elim (test x) as (λ b. UpTo most (cond b (Some x) (find test xs))) [ true ↦ h.0 | false ↦ found_up_to most test xs h.1 ]

surcharge_up_to : (net permitted : ℕ) → UpTo 25 (surcharge net permitted)
unfolding surcharge
surcharge_up_to net permitted = found_up_to 25 (is_covered_by net permitted) surcharge_steps (omega arith, (omega arith, (omega arith, (omega arith, (omega arith, (omega arith, tt))))))

step_up_to : (miles : Miles) (o : Option ℕ) → UpTo 25 o → UpTo 25 (surcharge_of (mileage_with miles o))
step_up_to miles None h = tt
step_up_to miles (Some zero) h = omega arith
step_up_to miles (Some (suc less)) h = h

by_up_to : (missing permitted : Option ℕ) (sum allowance : ℕ)
    → UpTo 25 (surcharge_of (mileage_by missing permitted sum allowance))
unfolding compared_miles
by_up_to (Some number) permitted sum allowance = tt
by_up_to None None sum allowance = tt
by_up_to None (Some most) sum allowance = step_up_to (miles_from sum allowance most) (surcharge (sum - allowance) most) (surcharge_up_to (sum - allowance) most)

pub mileage_up_to : (tariff : Tariff) (trip : Itinerary) (a b : ℕ) (ind : Indicator)
    → UpTo 25 (surcharge_of (mileage tariff trip a b ind))
unfolding mileage
mileage_up_to tariff trip a b ind =
    elim (eqb b (a + 1)) as (λ t. UpTo 25 (surcharge_of (cond t Direct (mileage_by (first_without_tpm tariff trip a b) (mpm tariff (point trip a) (point trip b) ind) (sum_of_miles tariff trip a b) (allowance_of tariff trip a b ind))))) [
      | true ↦ omega arith
      | false ↦ by_up_to (first_without_tpm tariff trip a b) (mpm tariff (point trip a) (point trip b) ind) (sum_of_miles tariff trip a b) (allowance_of tariff trip a b ind)
    ]

-- the greatest amount of a fare, in hundredths
abbrev pub greatest_fare : ℕ
greatest_fare = 999_999_999

fare_up_to : (amount : ℕ) → amount < 10 ^ 9 → amount ≤ greatest_fare
fare_up_to amount h = omega arith

-- each amount of several pairs is at most some number
abbrev FoundUpTo : ℕ → List Compared → Type 0
FoundUpTo most [] = Unit
FoundUpTo most (found ∷ rest) = (found.2 ≤ most) × FoundUpTo most rest

found_cons : (most i j : ℕ) (o : Option ℕ) (rest : List Compared) → UpTo most o → FoundUpTo most rest
    → FoundUpTo most (cons_option (option_map (with_amount i j) o) rest)
found_cons most i j None rest h k = k
found_cons most i j (Some amount) rest h k = (h, k)

found_append : (most : ℕ) (xs ys : List Compared) → FoundUpTo most xs → FoundUpTo most ys → FoundUpTo most (xs ++ ys)
found_append most [] ys h k = k
found_append most (x ∷ xs) ys h k = (h.0, found_append most xs ys h.1 k)

greatest_amount_up_to : (most amount : ℕ) (pairs : List Compared) → amount ≤ most → FoundUpTo most pairs
    → greatest_amount amount pairs ≤ most
greatest_amount_up_to most amount [] h k = h
greatest_amount_up_to most amount (found ∷ rest) h k =
    let one : found.2 ≤ most = k.0 in
    let more : greatest_amount amount rest ≤ most = greatest_amount_up_to most amount rest h k.1 in
    omega arith

minimum_up_to : (low : ℕ) (high : Option ℕ) → UpTo greatest_fare high
    → UpTo 2_000_000_000 (option_and_then (minimum_above low) high)
minimum_up_to low None h = tt
minimum_up_to low (Some high) h =
    elim (ltb low high) as (λ t. UpTo 2_000_000_000 (cond t (Some (high + (high - low))) None)) [ true ↦ omega arith | false ↦ tt ]

-- a base with a surcharge of at most 25
raised_up_to : (amount : ℕ) (step : Option ℕ) → amount ≤ greatest_fare → UpTo 25 step
    → hundredths_of (option_map (amount_from amount) step) ≤ 1_250_000_000
unfolding surcharged
raised_up_to amount None h k = omega arith
raised_up_to amount (Some step) h k =
    let raise : 100 + step ≤ 125 = omega arith in
    let product : amount * (100 + step) ≤ greatest_fare * 125 = mul-le-mul h raise in
    let bound : amount * (100 + step) ≤ 100 * 1_250_000_000 = omega arith in
    div-le_of_le-mul 100 bound

module _ (tariff : Tariff) (trip : Itinerary) (form : HasFaresInForm tariff) where
  pub reference_up_to : (from to : City) (ind : Indicator) (fare : FareRecord) (on : Day)
      → UpTo greatest_fare (reference tariff from to ind fare on)
  reference_up_to from to ind fare on =
      up_to greatest_fare (reference tariff from to ind fare on) (λ amount e.
      let filed = reference_is_filed tariff from to ind fare on amount e in
      let below = form filed.number filed.fare filed.filed in
      let same = filed.costs in
      fare_up_to amount (subst (λ m. m < 10 ^ 9) same below))

  between_up_to : (fare : FareRecord) (back : Bool) (on : Day) (i j : ℕ)
      → UpTo greatest_fare (reference_between tariff trip fare back on i j)
  between_up_to fare true on i j = reference_up_to (point trip j) (point trip i) (indicator tariff trip i j) fare on
  between_up_to fare false on i j = reference_up_to (point trip i) (point trip j) (indicator tariff trip i j) fare on

  compared_up_to : (a b : ℕ) (fare : FareRecord) (back : Bool) (i j : ℕ)
      → UpTo greatest_fare (compared_reference tariff trip a b fare back i j)
  compared_up_to a b fare back i j =
      elim (is_compared trip a b i j) as (λ t. UpTo greatest_fare (cond t (reference_between tariff trip fare back (first_day trip a) i j) None)) [
        | true ↦ between_up_to fare back (first_day trip a) i j
        | false ↦ tt
      ]

  pairs_from_up_to : (a b : ℕ) (fare : FareRecord) (back : Bool) (i : ℕ) (js : List ℕ)
      → FoundUpTo greatest_fare (filter_map (compared_pair tariff trip a b fare back i) js)
  pairs_from_up_to a b fare back i [] = tt
  pairs_from_up_to a b fare back i (j ∷ js) =
      found_cons greatest_fare i j (compared_reference tariff trip a b fare back i j) (filter_map (compared_pair tariff trip a b fare back i) js) (compared_up_to a b fare back i j) (pairs_from_up_to a b fare back i js)

  pairs_up_to : (a b : ℕ) (fare : FareRecord) (back : Bool) (is : List ℕ)
      → FoundUpTo greatest_fare (flat_map (compared_from tariff trip a b fare back) is)
  pairs_up_to a b fare back [] = tt
  pairs_up_to a b fare back (i ∷ is) =
      found_append greatest_fare (compared_from tariff trip a b fare back i) (flat_map (compared_from tariff trip a b fare back) is) (pairs_from_up_to a b fare back i (numbers (i + 1) (b + 1))) (pairs_up_to a b fare back is)

  pub base_up_to : (a b : ℕ) (fare : FareRecord) (back : Bool) → fare.amount ≤ greatest_fare
      → base tariff trip a b fare back ≤ greatest_fare
  unfolding base compared_pairs
  base_up_to a b fare back h = greatest_amount_up_to greatest_fare fare.amount (compared_pairs tariff trip a b fare back) h (pairs_up_to a b fare back (numbers a b))

  pub greatest_reference_up_to : (a b : ℕ) (fare : FareRecord)
      → UpTo greatest_fare (greatest_reference tariff trip a b fare)
  unfolding greatest_reference
  greatest_reference_up_to a b fare = greatest_up_to greatest_fare (reference_to tariff trip a fare) (stopovers trip a b) (λ j. reference_up_to (point trip a) (point trip j) (indicator tariff trip a j) fare (first_day trip a))

  pub backhaul_up_to : (a b : ℕ) (fare : FareRecord) → UpTo 2_000_000_000 (backhaul tariff trip a b fare)
  unfolding backhaul
  backhaul_up_to a b fare = minimum_up_to fare.amount (greatest_reference tariff trip a b fare) (greatest_reference_up_to a b fare)

  -- the cost of a number's fare for a span
  cost_up_to : (a b : ℕ) (back : Bool) (number : ℕ) (found : Option FareRecord) → fare_at tariff number ≡ found
      → hundredths_of (option_and_then (fare_amount tariff trip a b back) found) ≤ 1_250_000_000
  unfolding fare_amount span_surcharge
  cost_up_to a b back number None e = omega arith
  cost_up_to a b back number (Some fare) e =
      elim (is_applicable tariff trip a b back fare) as (λ t. hundredths_of (cond t (option_map (amount_from (base tariff trip a b fare back)) (surcharge_of (mileage tariff trip a b (indicator tariff trip a b)))) None) ≤ 1_250_000_000) [
        | true ↦ raised_up_to (base tariff trip a b fare back) (surcharge_of (mileage tariff trip a b (indicator tariff trip a b))) (base_up_to a b fare back (fare_up_to fare.amount (form number fare e))) (mileage_up_to tariff trip a b (indicator tariff trip a b))
        | false ↦ omega arith
      ]

  pub component_up_to : (a b number : ℕ) (back : Bool)
      → hundredths_of (component_amount tariff trip a b number back) ≤ 1_250_000_000
  unfolding component_amount
  component_up_to a b number back = cost_up_to a b back number (fare_at tariff number) refl
