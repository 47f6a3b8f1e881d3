-- the numbers are known from this point on
use Rattle.std.proofs.Common.{◌≡◌, ℕ, Option, length}
use Rattle.fare_homing.specs.Rows.{begun_from, jaw_from}
use Rattle.fare_homing.proofs.RestLemmas.{AreRestsFrom}
use Rattle.fare_homing.proofs.rests.rests_without.Given as goal

abbrev pub invariant-loop-c : goal.invariant-loop-c
invariant-loop-c l = record {
  long : length l.rest ≡ 17;
  known : (whole : ℕ → ℕ → Option ℕ) × AreRestsFrom l.table.edition l.table.trip l.barred (begun_from l.homing) (jaw_from l.homing) l.c whole l.rest;
}
