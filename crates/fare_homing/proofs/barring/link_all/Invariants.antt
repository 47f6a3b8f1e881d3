-- what was there before is kept
use Rattle.std.proofs.Common.{ℕ, Option}
use Rattle.fare_trip.specs.Itinerary.{Itinerary}
use Rattle.fare_homing.specs.Onward.{AreOnwards}
use Rattle.fare_homing.proofs.barring.link_all.Given as goal

abbrev pub invariant-loop-set : goal.invariant-loop-set
invariant-loop-set l = (trip : Itinerary) (begun jaw : ℕ → ℕ → ℕ → Option ℕ) → AreOnwards l.edition trip begun jaw l.fn.onwards → AreOnwards l.edition trip begun jaw l.onwards
