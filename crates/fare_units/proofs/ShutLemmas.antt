-- A unit that is shut has a part.
use Rattle.std.proofs.Common.{◌≡◌, ℕ, ◌≤◌, true, false, List, [], ◌∷◌, length, sym, arith}
use Rattle.fare_trip.specs.Itinerary.{Itinerary}
use Rattle.fare_tariff.specs.Tariff.{Tariff}
use Rattle.fare_rules.specs.declared.part.Part.{Part}
use Rattle.fare_rules.specs.Shape.{closes}
use Rattle.fare_lawful.specs.Shut.{is_shut}

true_false : true ≡ false → ⊥
true_false e = cc

pub shut_has_parts : (tariff : Tariff) (trip : Itinerary) (parts : List Part) (own : List ℕ) → is_shut tariff trip parts own ≡ true → 1 ≤ length own
unfolding is_shut closes
shut_has_parts tariff trip parts [] h = absurd (true_false (sym h))
shut_has_parts tariff trip parts (k ∷ rest) h = omega arith
