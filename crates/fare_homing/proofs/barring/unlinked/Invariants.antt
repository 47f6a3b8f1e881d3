-- the numbers so far are what is behind each point
use Rattle.fare_homing.specs.Barring.{AreUnlinked}
use Rattle.fare_homing.specs.Rows.{begun_from, jaw_from}
use Rattle.fare_homing.proofs.barring.unlinked.Given as goal

abbrev pub invariant-loop-set : goal.invariant-loop-set
invariant-loop-set l = AreUnlinked l.table.edition l.table.trip (begun_from l.homing) (jaw_from l.homing) l.onwards
