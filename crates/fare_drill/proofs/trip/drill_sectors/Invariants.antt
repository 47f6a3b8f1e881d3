-- the sector that reaches each point up to this one
use Rattle.std.proofs.Common.{◌≡◌, ◌-◌, map}
use Rattle.std.specs.List.{range_with_len}
use Rattle.arrayvec.specs.ArrayVec.{array_vec_len}
use Rattle.fare_drill.specs.Drill.{drill_sector}
use Rattle.fare_drill.proofs.trip.drill_sectors.Given as goal

abbrev pub invariant-loop-i : goal.invariant-loop-i
invariant-loop-i l =
    (l.flown.items ≡ map (drill_sector l.sectors) (range_with_len 1 (l.i - 1))) × (array_vec_len l.flown ≡ l.i - 1)
