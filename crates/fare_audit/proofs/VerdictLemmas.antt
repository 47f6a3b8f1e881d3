-- Verdicts: the price of Best is the least one, and a line has one verdict.
use Rattle.std.proofs.Common.{◌≡◌, ◌≤◌, ◌+◌, ◌-◌, ◌∙◌, inl, inr, ℕ, Bool, true, false, ◌||◌, ◌&&◌, List, nat_lt, None, Some, Option, Result, Ok, Err, arith, refl, ap, sym}
use Rattle.std.specs.Prelude.{◌==◌, MatchOption, MatchResult}
use Rattle.std.proofs.lemmas.Bool.{ltb-false}
use Rattle.fare_trip.specs.Itinerary.{Itinerary}
use Rattle.fare_tariff.specs.Tariff.{Tariff}
use Rattle.fare_rules.specs.declared.broken.Broken.{Broken}
use Rattle.fare_rules.specs.declared.part.Part.{Part}
use Rattle.fare_rules.specs.Best.{IsBest, IsLawful, NoneIsLawful}
use Rattle.fare_rules.specs.Lawful.{lawful_price}
use Rattle.fare_rules.specs.Order.{is_before, is_less, tie}
use Rattle.fare_line.specs.Line.{CalculationLine}
use Rattle.fare_calc.specs.LineOf.{line_of}
use Rattle.fare_audit.specs.declared.verdict.Verdict.{Verdict}
use Rattle.fare_audit.specs.declared.verdict.Verdict.TheVariants.{OtherTrip, NoRecord, Broken as BrokenRule, Figures, Lawful}
use Rattle.fare_audit.specs.Filing.{unrecorded, construction_of}
use Rattle.fare_audit.specs.Figures.{first_figure}
use Rattle.fare_audit.specs.Legs.{difference}
use Rattle.fare_audit.specs.Verdict.{IsFiguresVerdict, IsLeastPrice, IsOver, IsPriceVerdict, IsRecordsVerdict, IsRulesVerdict, IsVerdict}

first_fails : (a b : Bool) → (a || b) ≡ false → a ≡ false
first_fails false b h = refl
first_fails true b h = cc

-- what isn't before another construction is no cheaper
no_cheaper : (xs ys : List Part) (px py : ℕ) → is_before xs px ys py ≡ false → py ≤ px
unfolding is_before
no_cheaper xs ys px py h = ltb-false px py (first_fails (nat_lt px py) ((px == py) && is_less (tie xs ys)) h)

-- the price of Best is at most that of a lawful construction
pub best_at_most : (tariff : Tariff) (trip : Itinerary) (parts best : List Part) (price least : ℕ)
    → IsLawful tariff trip parts price → IsBest tariff trip best least → least ≤ price
best_at_most tariff trip parts best price least lawful is = no_cheaper parts best price least (is.first parts price lawful)

best_is_least : (tariff : Tariff) (trip : Itinerary) (best : List Part) (least : ℕ) → IsBest tariff trip best least → IsLeastPrice tariff trip least
best_is_least tariff trip best least is = record {
  parts = best;
  lawful = is.lawful;
  lowest = λ other price lawful. best_at_most tariff trip other best price least lawful is;
}

-- a lawful construction has its price over that of Best
pub priced : (tariff : Tariff) (trip : Itinerary) (parts best : List Part) (price least : ℕ)
    → IsLawful tariff trip parts price → IsBest tariff trip best least → IsPriceVerdict tariff trip price (Lawful price (price - least))
priced tariff trip parts best price least lawful is =
    let low = best_at_most tariff trip parts best price least lawful is in
    (price - least, record { least = least; is_least = best_is_least tariff trip best least is; over_least = omega (arith, low) }, refl)

-- where a construction is lawful there is a best one
pub some_is_best : (tariff : Tariff) (trip : Itinerary) (parts : List Part) (price : ℕ) (verdict : Verdict)
    → IsLawful tariff trip parts price → NoneIsLawful tariff trip → IsPriceVerdict tariff trip price verdict
some_is_best tariff trip parts price verdict lawful none = absurd (none parts price lawful)

least_is_one : (tariff : Tariff) (trip : Itinerary) (a b : ℕ) → IsLeastPrice tariff trip a → IsLeastPrice tariff trip b → a ≡ b
least_is_one tariff trip a b one other =
    let below : a ≤ b = one.lowest other.parts b other.lawful in
    let above : b ≤ a = other.lowest one.parts a one.lawful in
    omega arith

over_is_one : (tariff : Tariff) (trip : Itinerary) (price a b : ℕ) → IsOver tariff trip price a → IsOver tariff trip price b → a ≡ b
over_is_one tariff trip price a b one other =
    let same = least_is_one tariff trip one.least other.least one.is_least other.is_least in
    let first : one.least + a ≡ price = one.over_least in
    let second : other.least + b ≡ price = other.over_least in
    omega (arith, same)

price_one : (tariff : Tariff) (trip : Itinerary) (price : ℕ) (one other : Verdict)
    → IsPriceVerdict tariff trip price one → IsPriceVerdict tariff trip price other → one ≡ other
price_one tariff trip price one other p q =
    p.2 ∙ ap (Lawful price) (over_is_one tariff trip price p.0 q.0 p.1 q.1) ∙ sym q.2

figures_one : (tariff : Tariff) (trip : Itinerary) (line made : CalculationLine) (price : ℕ) (one other : Verdict)
    → IsFiguresVerdict tariff trip line made price one → IsFiguresVerdict tariff trip line made price other → one ≡ other
figures_one tariff trip line made price one other p q =
    elim p [
      | inl same ↦ elim q [
        | inl again ↦ price_one tariff trip price one other same.1 again.1
        | inr differs ↦ absurd (differs.0 same.0)
      ]
      | inr differs ↦ elim q [
        | inl same ↦ absurd (differs.0 same.0)
        | inr again ↦ differs.1 ∙ sym again.1
      ]
    ]

rules_one : (tariff : Tariff) (trip : Itinerary) (line made : CalculationLine) (answer : Result ℕ Broken) (one other : Verdict)
    → MatchResult answer (λ price. IsFiguresVerdict tariff trip line made price one) (λ broken. one ≡ BrokenRule broken)
    → MatchResult answer (λ price. IsFiguresVerdict tariff trip line made price other) (λ broken. other ≡ BrokenRule broken) → one ≡ other
rules_one tariff trip line made (Ok price) one other p q = figures_one tariff trip line made price one other p q
rules_one tariff trip line made (Err broken) one other p q = p ∙ sym q

records_one : (tariff : Tariff) (trip : Itinerary) (line : CalculationLine) (found : Option ℕ) (one other : Verdict)
    → MatchOption found (IsRulesVerdict tariff trip line (construction_of tariff trip line) one) (λ place. one ≡ NoRecord place)
    → MatchOption found (IsRulesVerdict tariff trip line (construction_of tariff trip line) other) (λ place. other ≡ NoRecord place) → one ≡ other
records_one tariff trip line None one other p q =
    rules_one tariff trip line (line_of tariff trip (construction_of tariff trip line)) (lawful_price tariff trip (construction_of tariff trip line)) one other p q
records_one tariff trip line (Some place) one other p q = p ∙ sym q

trips_one : (tariff : Tariff) (trip : Itinerary) (line : CalculationLine) (found : Option ℕ) (one other : Verdict)
    → MatchOption found (IsRecordsVerdict tariff trip line one) (λ number. one ≡ OtherTrip number)
    → MatchOption found (IsRecordsVerdict tariff trip line other) (λ number. other ≡ OtherTrip number) → one ≡ other
trips_one tariff trip line None one other p q = records_one tariff trip line (unrecorded tariff trip line) one other p q
trips_one tariff trip line (Some number) one other p q = p ∙ sym q

-- a line has one verdict
pub verdict_one : (tariff : Tariff) (trip : Itinerary) (line : CalculationLine) (one other : Verdict)
    → IsVerdict tariff trip line one → IsVerdict tariff trip line other → one ≡ other
verdict_one tariff trip line one other p q = trips_one tariff trip line (difference trip line) one other p q

-- ---- nothing over the least price

-- a price is so much over that of Best
OverBest : Tariff → Itinerary → ℕ → ℕ → Type 0
OverBest tariff trip price over = (parts : List Part) (best : ℕ) → IsBest tariff trip parts best → best + over ≡ price

over_best : (tariff : Tariff) (trip : Itinerary) (cost price over : ℕ) → IsPriceVerdict tariff trip cost (Lawful price over) → OverBest tariff trip price over
unfolding OverBest
over_best tariff trip cost price over p parts best is =
    let same_price : price ≡ cost = cc (p.2) in
    let same_over : over ≡ p.0 = cc (p.2) in
    let same_least : p.1.least ≡ best = least_is_one tariff trip p.1.least best p.1.is_least (best_is_least tariff trip parts best is) in
    let whole : p.1.least + p.0 ≡ cost = p.1.over_least in
    omega (arith, same_price, same_over, same_least, whole)

by_figures : (tariff : Tariff) (trip : Itinerary) (line made : CalculationLine) (cost price over : ℕ)
    → IsFiguresVerdict tariff trip line made cost (Lawful price over) → OverBest tariff trip price over
by_figures tariff trip line made cost price over p =
    elim p [
      | inl same ↦ over_best tariff trip cost price over same.1
      | inr differs ↦ absurd (let no : Lawful price over ≡ Figures (first_figure line.parts made.parts) = differs.1 in cc)
    ]

by_rules : (tariff : Tariff) (trip : Itinerary) (line made : CalculationLine) (answer : Result ℕ Broken) (price over : ℕ)
    → MatchResult answer (λ cost. IsFiguresVerdict tariff trip line made cost (Lawful price over)) (λ broken. Lawful price over ≡ BrokenRule broken)
    → OverBest tariff trip price over
by_rules tariff trip line made (Ok cost) price over p = by_figures tariff trip line made cost price over p
by_rules tariff trip line made (Err broken) price over p = absurd (cc p)

by_records : (tariff : Tariff) (trip : Itinerary) (line : CalculationLine) (found : Option ℕ) (price over : ℕ)
    → MatchOption found (IsRulesVerdict tariff trip line (construction_of tariff trip line) (Lawful price over)) (λ place. Lawful price over ≡ NoRecord place)
    → OverBest tariff trip price over
by_records tariff trip line None price over p =
    by_rules tariff trip line (line_of tariff trip (construction_of tariff trip line)) (lawful_price tariff trip (construction_of tariff trip line)) price over p
by_records tariff trip line (Some place) price over p = absurd (cc p)

by_trips : (tariff : Tariff) (trip : Itinerary) (line : CalculationLine) (found : Option ℕ) (price over : ℕ)
    → MatchOption found (IsRecordsVerdict tariff trip line (Lawful price over)) (λ number. Lawful price over ≡ OtherTrip number)
    → OverBest tariff trip price over
by_trips tariff trip line None price over p = by_records tariff trip line (unrecorded tariff trip line) price over p
by_trips tariff trip line (Some number) price over p = absurd (cc p)

-- a lawful line's price is that of Best and what it is over
pub lawful_over_best : (tariff : Tariff) (trip : Itinerary) (line : CalculationLine) (price over best : ℕ) (parts : List Part)
    → IsVerdict tariff trip line (Lawful price over) → IsBest tariff trip parts best → best + over ≡ price
unfolding OverBest
lawful_over_best tariff trip line price over best parts p is = by_trips tariff trip line (difference trip line) price over p parts best is
