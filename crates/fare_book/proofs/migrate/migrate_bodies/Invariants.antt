use Rattle.std.proofs.Common.{◌≡◌, ◌≤◌, IsTrue}
use Rattle.fare_ports.specs.Keeper.{ToldAfter}
use Rattle.fare_book.proofs.Migrations.{HasCome}
use Rattle.fare_book.proofs.migrate.migrate_bodies.Given as goal

-- the bodies of the editions before this one are in canonical spelling, and so many of them weren't
abbrev pub invariant-loop-index : goal.invariant-loop-index
invariant-loop-index g l = record {
  come : ToldAfter (g.P.Keeper.bodies l.initial.keeper) (g.P.Keeper.bodies l.keeper) (HasCome l.index l.count);
  few : l.count ≤ l.index;
  ready : IsTrue (g.P.Keeper.ready l.keeper);
  name : g.P.Keeper.opened_as l.keeper ≡ g.P.Keeper.opened_as l.initial.keeper;
  never_falls : g.P.Keeper.faults l.initial.keeper ≤ g.P.Keeper.faults l.keeper;
}
