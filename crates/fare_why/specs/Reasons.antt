-- Reasons: the kinds of condition without which a trip is cheaper, each with its first least-priced construction.
use Rattle.std.specs.Prelude.{◌≡◌, ℕ, ◌-◌, Bool, true, List, Option, Some, None, option_map, nat_lt, filter_map}
use Rattle.std.specs.Prelude.{IsSomeAnd, MatchBool}
use Rattle.std.specs.List.{AllZip}
use Rattle.fare_trip.specs.Itinerary.{Itinerary}
use Rattle.fare_tariff.specs.Tariff.{Tariff}
use Rattle.fare_rules.specs.declared.part.Part.{Part}
use Rattle.fare_rules.specs.Best.{IsBestAnswer}
use Rattle.fare_rules.specs.Lawful.{first_broken}
use Rattle.fare_line.specs.LineText.{line_text}
use Rattle.fare_calc.specs.LineOf.{line_of}
use Rattle.fare_relaxed.specs.declared.term.Term.{Term}
use Rattle.fare_relaxed.specs.Terms.{all_terms}
use Rattle.fare_relaxed.specs.Relax.{relax}
use Rattle.fare_why.specs.Explanation.{Alternative, Explanation}

-- a construction with its price
abbrev pub Priced : Type 0
Priced = List Part × ℕ

-- the price of a construction that has one
abbrev pub price_of : Priced → ℕ
price_of best = best.1

-- a price is less than a total, or is there where no total is
abbrev pub is_cheaper : Option ℕ → ℕ → Bool
is_cheaper None price = true
is_cheaper (Some total) price = nat_lt price total

-- what a price saves of a total
abbrev pub saved_of : ℕ → ℕ → ℕ
saved_of price total = total - price

-- what a price saves of a total, where there is one
abbrev pub saved_by : Option ℕ → ℕ → Option ℕ
saved_by total price = option_map (saved_of price) total

-- an alternative shows a construction of the edition without a kind of condition: its line and its price there, what it
-- saves, and the first rule that it breaks in the edition itself
pub record Shows (tariff : Tariff) (trip : Itinerary) (total : Option ℕ) (term : Term) (best : Priced)
    (shown : Alternative) : Type 0 where
  pub kind : shown.term ≡ term
  pub construction : shown.parts ≡ best.0
  pub line : shown.line ≡ line_text (line_of (relax term tariff) trip best.0)
  pub price : shown.total ≡ best.1
  pub saves : shown.saves ≡ saved_by total best.1
  pub barred : first_broken tariff trip best.0 ≡ Some shown.broken

-- the best construction without a kind of condition is shown where it is cheaper, and else nothing is
abbrev pub ShowsIfCheaper : Tariff → Itinerary → Option ℕ → Term → Option Priced → Option Alternative → Type 0
ShowsIfCheaper tariff trip total term None shown = shown ≡ None
ShowsIfCheaper tariff trip total term (Some best) shown =
    MatchBool (is_cheaper total best.1) (IsSomeAnd shown (Shows tariff trip total term best)) (shown ≡ None)

-- what is shown for a kind of condition, by the first least-priced lawful construction of the edition without that kind
-- alone
unfoldable pub IsShownFor : Tariff → Itinerary → Option ℕ → Term → Option Alternative → Type 0
IsShownFor tariff trip total term shown =
    (best : Option Priced) × IsBestAnswer (relax term tariff) trip best
    × ShowsIfCheaper tariff trip total term best shown

-- those that are there, in their order
abbrev pub those_there : {A : Type 0} → List (Option A) → List A
those_there each = filter_map (λ one. one) each

-- the reasons are what is shown for the kinds, in their order
abbrev pub AreReasons : Tariff → Itinerary → Option ℕ → List Alternative → Type 0
AreReasons tariff trip total reasons =
    (each : List (Option Alternative)) × AllZip (IsShownFor tariff trip total) all_terms each
    × (reasons ≡ those_there each)

-- an explanation has the price of the best construction of the edition, where one is lawful, and the reasons
unfoldable pub Explains : Tariff → Itinerary → Explanation → Type 0
Explains tariff trip why =
    (best : Option Priced) × IsBestAnswer tariff trip best × (why.total ≡ option_map price_of best)
    × AreReasons tariff trip why.total why.reasons
