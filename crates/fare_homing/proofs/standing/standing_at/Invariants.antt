-- the rows are known from this point on
use Rattle.std.proofs.Common.{◌≡◌, ℕ, ◌<◌, ◌≤◌, length}
use Rattle.fare_trip.specs.Itinerary.{count}
use Rattle.fare_homing.specs.HomingRows.{AreClosings, AreJaws, IsLast, IsSecond}
use Rattle.fare_homing.specs.Rows.{cell, closing_from}
use Rattle.fare_homing.proofs.standing.standing_at.Given as goal

abbrev pub invariant-loop-i : goal.invariant-loop-i
invariant-loop-i l = record {
  long_begun : length l.standing.begun ≡ 17;
  long_closing : length l.standing.closing ≡ 17;
  long_jaw : length l.standing.jaw ≡ 17;
  begins : (i : ℕ) → l.i ≤ i → i < count l.table.trip → AreClosings l.table.edition l.table.trip l.homing.unit_ceiling (IsSecond l.table.edition l.table.trip l.stand i) (λ b. closing_from l.homing b b) (cell l.homing.whole i) (cell l.standing.begun) l.stand i (cell l.standing.begun i);
  closes : (i : ℕ) → l.i ≤ i → i < count l.table.trip → AreClosings l.table.edition l.table.trip l.homing.unit_ceiling (IsLast l.table.edition l.table.trip l.stand i) (λ b. closing_from l.homing b b) (cell l.homing.whole i) (cell l.standing.closing) l.stand i (cell l.standing.closing i);
  ends : (i : ℕ) → l.i ≤ i → i < count l.table.trip → AreJaws l.table.edition l.table.trip (cell l.homing.whole i) (cell l.standing.jaw) l.stand i (cell l.standing.jaw i);
}
