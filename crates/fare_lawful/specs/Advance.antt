-- Lists of parts that go on from part to part within a trip.
use Rattle.std.specs.Prelude.{ℕ, ◌<◌, ◌≤◌, List, length}
use Rattle.std.specs.Result.{ForErr}
use Rattle.fare_trip.specs.Itinerary.{Itinerary, count}
use Rattle.fare_tariff.specs.Tariff.{Tariff}
use Rattle.fare_rules.specs.declared.part.Part.{Part}
use Rattle.fare_rules.specs.declared.rule.Rule.TheVariants.{Record}
use Rattle.fare_rules.specs.Rule.{number_of}
use Rattle.fare_rules.specs.Construction.{start_of, end_of}
use Rattle.fare_rules.specs.Lawful.{lawful_price}

-- no part ends behind the trip
abbrev pub EndsWithin : Itinerary → List Part → Type 0
EndsWithin trip parts = (k : ℕ) → end_of parts k ≤ count trip

-- no part ends behind the trip, and each ends above its start
pub record Advances (trip : Itinerary) (parts : List Part) : Type 0 where
  pub ends : EndsWithin trip parts
  pub rises : (k : ℕ) → 1 ≤ k → k ≤ length parts → start_of trip parts k < end_of parts k

-- a list of parts meets the first three rules, Cover, Numbering and Record: the first rule that it breaks, if any, is a
-- later one
abbrev pub MeetsFirstThree : Tariff → Itinerary → List Part → Type 0
MeetsFirstThree tariff trip parts = ForErr (lawful_price tariff trip parts) (λ broken. number_of Record < broken.rule)
