-- Own rule: what a construction breaks that only one kind of condition bars.
use Rattle.std.specs.Prelude.{◌≡◌, ℕ, ◌+◌, ◌≢◌, List, Option, Some, None, slice_get}
use Rattle.fare_trip.specs.Itinerary.{Itinerary}
use Rattle.fare_tariff.specs.Tariff.{Tariff}
use Rattle.fare_rules.specs.declared.broken.Broken.{Broken}
use Rattle.fare_rules.specs.declared.part.Part.{Part}
use Rattle.fare_rules.specs.Lawful.{breaks, first_broken}

-- of the 22 rules, those of other numbers than this one are broken nowhere
abbrev pub BreaksNoOther : Tariff → Itinerary → List Part → ℕ → Type 0
BreaksNoOther tariff trip parts rule = (place : ℕ) (found : Option Broken) →
    slice_get (breaks tariff trip parts) place ≡ Some found → place + 1 ≢ rule → found ≡ None

-- just one of the 22 rules is broken: it is the first broken one, of this number, and none of another number is broken
pub record BreaksJust (tariff : Tariff) (trip : Itinerary) (parts : List Part) (rule : ℕ) : Type 0 where
  pub found : Broken
  pub first : first_broken tariff trip parts ≡ Some found
  pub number : found.rule ≡ rule
  pub no_other : BreaksNoOther tariff trip parts rule
