-- What is known of the price of the best construction while alternatives are looked for, and of what was found.
use Rattle.std.specs.Prelude.{◌≡◌, ℕ, ◌<◌, false, List, map, Option, Some, None, IfSome, length, slice_index_or}
use Rattle.fare_trip.specs.Itinerary.{Itinerary}
use Rattle.fare_tariff.specs.Tariff.{Tariff}
use Rattle.fare_rules.specs.declared.part.Part.{Part}
use Rattle.fare_rules.specs.Best.{IsLawful}
use Rattle.fare_relaxed.specs.declared.term.Term.{Term}
use Rattle.fare_why.specs.Explanation.{Alternative}
use Rattle.fare_why.specs.Reasons.{is_cheaper, IsShownFor, those_there}

-- no lawful construction of an edition is cheaper than a total
abbrev pub NoneIsCheaper : Tariff → Itinerary → Option ℕ → Type 0
NoneIsCheaper tariff trip total = (parts : List Part) (price : ℕ) → IsLawful tariff trip parts price
    → is_cheaper total price ≡ false

-- what a search found for a kind: nothing where memory was wanting, else what is shown, if anything is
abbrev pub Slot : Type 0
Slot = Option (Option Alternative)

-- what is shown, or nothing
abbrev pub shown_in : Slot → Option Alternative
shown_in None = None
shown_in (Some shown) = shown

-- at each place stands what is shown for the kind at that place, or memory was wanting
pub record AreSearched (tariff : Tariff) (trip : Itinerary) (total : Option ℕ) (terms : List Term) (slots : List Slot)
    : Type 0 where
  pub count : length slots ≡ length terms
  pub each : (i : ℕ) (slot : Slot) (term : Term) → i < length slots →
      IfSome (slice_index_or slots i slot) (IsShownFor tariff trip total (slice_index_or terms i term))

-- what is shown at some places, in their order
abbrev pub shown_at : List Slot → List Alternative
shown_at slots = those_there (map shown_in slots)
