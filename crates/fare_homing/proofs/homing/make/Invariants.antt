-- the numbers are known from this point on
use Rattle.std.proofs.Common.{◌≡◌, ℕ, ◌<◌, ◌≤◌, length}
use Rattle.std.specs.Prelude.{IfSome, Some}
use Rattle.fare_legs.specs.Ceiling.{IsCeiling}
use Rattle.fare_legs.specs.Lonely.{AreLonely}
use Rattle.fare_legs.specs.Countries.{AreCountries}
use Rattle.fare_legs.specs.Threes.{AreOfTwo}
use Rattle.fare_trip.specs.Itinerary.{count}
use Rattle.fare_homing.specs.HomingRows.{AreBetweens}
use Rattle.fare_homing.specs.Rows.{cell, closing_from}
use Rattle.fare_homing.specs.Units.{IsBar, IsUnitCeiling}
use Rattle.fare_homing.proofs.HomingLemmas.{AreHomingsFrom}
use Rattle.fare_homing.proofs.homing.make.Given as goal

abbrev pub invariant-loop-c : goal.invariant-loop-c
invariant-loop-c l = record {
  long_standing : length l.homing.standing ≡ 17;
  long_whole : length l.homing.whole ≡ 17;
  long_rest : length l.homing.rest ≡ 17;
  long_betweens : length l.betweens ≡ 17;
  known : AreHomingsFrom l.table.edition l.table.trip l.c l.homing;
  betweens : (i : ℕ) → l.c ≤ i → i < count l.table.trip → AreBetweens l.table.edition l.table.trip l.homing.unit_ceiling (λ b. closing_from l.homing b b) i (cell l.betweens i);
  countries : AreCountries l.table.edition l.table.trip l.homing.countries;
  lonely : AreLonely l.table.edition l.homing.lonely;
  of_two : AreOfTwo l.table.edition l.table.trip l.homing.of_two;
  ceiling : IsCeiling l.table.edition l.table.trip l.homing.ceiling;
  bar : IfSome l.homing.bar (IsBar l.table.edition l.table.trip);
  unit_ceiling : IsUnitCeiling l.table.edition l.table.trip l.homing.ceiling l.homing.unit_ceiling;
  price : IfSome l.homing.ceiling (λ known. l.fn.price ≡ Some known.price);
}
