-- the rows are known of the points before this one
use Rattle.std.proofs.Common.{◌≡◌, ℕ, ◌<◌, length}
use Rattle.std.specs.Prelude.{slice_index_or}
use Rattle.fare_rules.specs.Construction.{begin_after}
use Rattle.fare_legs.specs.Legs.{AreLegsOf, no_legs}
use Rattle.fare_legs.proofs.legs.legs_behind.Given as goal

abbrev pub invariant-loop-i : goal.invariant-loop-i
invariant-loop-i l = record {
  long : length l.rows ≡ 17;
  known : (i : ℕ) → i < l.i → AreLegsOf l.table.edition l.table.trip l.barred (begin_after l.table.trip i) (slice_index_or l.rows i no_legs);
}
