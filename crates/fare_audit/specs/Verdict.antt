-- The verdict on a line that is presented for a trip: five steps, of which the first that applies decides. Each
-- definition takes the step before it as passed.
use Rattle.std.specs.Prelude.{◌≡◌, ◌≢◌, ◌≤◌, ◌⊎◌, ℕ, ◌+◌, List, MatchOption, MatchResult}
use Rattle.fare_trip.specs.Itinerary.{Itinerary}
use Rattle.fare_tariff.specs.Tariff.{Tariff}
use Rattle.fare_rules.specs.declared.part.Part.{Part}
use Rattle.fare_rules.specs.Best.{IsLawful}
use Rattle.fare_rules.specs.Lawful.{lawful_price}
use Rattle.fare_line.specs.Line.{CalculationLine}
use Rattle.fare_calc.specs.LineOf.{line_of}
use Rattle.fare_audit.specs.declared.verdict.Verdict.{Verdict}
use Rattle.fare_audit.specs.declared.verdict.Verdict.TheVariants.{OtherTrip, NoRecord, Broken, Figures, Lawful}
use Rattle.fare_audit.specs.Legs.{difference}
use Rattle.fare_audit.specs.Filing.{unrecorded, construction_of}
use Rattle.fare_audit.specs.Figures.{first_figure}

-- some lawful construction has a price, and none has a lower one
pub record IsLeastPrice (tariff : Tariff) (trip : Itinerary) (least : ℕ) : Type 0 where
  pub parts : List Part
  pub lawful : IsLawful tariff trip parts least
  pub lowest : (other : List Part) (price : ℕ) → IsLawful tariff trip other price → least ≤ price

-- a price is so much over the least price
pub record IsOver (tariff : Tariff) (trip : Itinerary) (price over : ℕ) : Type 0 where
  pub least : ℕ
  pub is_least : IsLeastPrice tariff trip least
  pub over_least : least + over ≡ price

-- the fifth step: the line is lawful, with its price and what that is over the least price
abbrev pub IsPriceVerdict : Tariff → Itinerary → ℕ → Verdict → Type 0
IsPriceVerdict tariff trip price verdict =
    (over : ℕ) × IsOver tariff trip price over × (verdict ≡ Lawful price over)

-- the fourth step: the line is that of its construction, or it isn't, and then the first part with other figures
abbrev pub IsFiguresVerdict : Tariff → Itinerary → CalculationLine → CalculationLine → ℕ → Verdict → Type 0
IsFiguresVerdict tariff trip line made price verdict =
    ((line ≡ made) × IsPriceVerdict tariff trip price verdict)
    ⊎ ((line ≢ made) × (verdict ≡ Figures (first_figure line.parts made.parts)))

-- the third step: where the construction isn't lawful, the first rule that it breaks
abbrev pub IsRulesVerdict : Tariff → Itinerary → CalculationLine → List Part → Verdict → Type 0
IsRulesVerdict tariff trip line parts verdict =
    MatchResult (lawful_price tariff trip parts)
    (λ price. IsFiguresVerdict tariff trip line (line_of tariff trip parts) price verdict)
    (λ broken. verdict ≡ Broken broken)

-- the second step: where a part has no FARE record, the first such part
abbrev pub IsRecordsVerdict : Tariff → Itinerary → CalculationLine → Verdict → Type 0
IsRecordsVerdict tariff trip line verdict =
    MatchOption (unrecorded tariff trip line)
    (IsRulesVerdict tariff trip line (construction_of tariff trip line) verdict)
    (λ place. verdict ≡ NoRecord place)

-- the first step: where line and trip differ, the first sector at which they do
abbrev pub IsVerdict : Tariff → Itinerary → CalculationLine → Verdict → Type 0
IsVerdict tariff trip line verdict =
    MatchOption (difference trip line) (IsRecordsVerdict tariff trip line verdict)
    (λ number. verdict ≡ OtherTrip number)
