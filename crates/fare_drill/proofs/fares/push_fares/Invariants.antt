-- the fare of each way up to this one, with the draw of its number
use Rattle.std.proofs.Common.{◌≡◌, ◌++◌, map, take}
use Rattle.std.specs.List.{enumerate_from}
use Rattle.fare_drill.specs.Draws.{state}
use Rattle.fare_drill.specs.Fares.{drawn_fare}
use Rattle.fare_drill.proofs.fares.push_fares.Given as goal

abbrev pub invariant-loop-way : goal.invariant-loop-way
invariant-loop-way l =
    (l.records.items ≡ l.initial.records.items ++ map (drawn_fare l.seed) (enumerate_from 0 (take l.way-index l.ways)))
    × (l.x ≡ state l.seed l.way-index)
