use Rattle.std.proofs.Common.{◌≡◌, ◌+◌, length, drop, false}
use Rattle.fare_trip.specs.Trip.{sectors_fault}
use Rattle.fare_trip.proofs.place.first_fault.Given as goal

-- the sectors that are left have the first fault of all
abbrev pub invariant-loop-sector : goal.invariant-loop-sector
invariant-loop-sector l = record { number : l.place.number ≡ l.sector-index + 1; left : sectors_fault (length l.sectors) l.place.number l.place.city l.place.day l.place.behind_surface (drop l.sector-index l.sectors) ≡ sectors_fault (length l.sectors) 1 l.fn.from l.fn.sale false l.sectors }
