use Rattle.std.proofs.Common.{◌≡◌, ◌≤◌, [], drop, length, IfSome, IsTrue, true}
use Rattle.fare_ports.specs.Keeper.{ToldAfter, BodiesStay}
use Rattle.fare_book.specs.Editions.{with_bodies}
use Rattle.fare_book.proofs.book.Book.of_bodies.Given as goal

-- the book with what is left of the bodies is what all stand for
abbrev pub invariant-loop-index : goal.invariant-loop-index
invariant-loop-index g l = record {
  whole : IfSome (g.P.Keeper.bodies l.keeper) (λ bodies. with_bodies l.book.editions (drop l.index bodies) ≡ with_bodies [] bodies);
  count : IfSome (g.P.Keeper.bodies l.keeper) (λ bodies. length bodies ≡ l.count);
  stay : ToldAfter (g.P.Keeper.bodies l.initial.keeper) (g.P.Keeper.bodies l.keeper) BodiesStay;
  length : length l.book.editions ≡ l.index;
  settled : l.book.settled ≡ true;
  ready : IsTrue (g.P.Keeper.ready l.keeper);
  name : g.P.Keeper.opened_as l.keeper ≡ g.P.Keeper.opened_as l.initial.keeper;
  never_falls : g.P.Keeper.faults l.initial.keeper ≤ g.P.Keeper.faults l.keeper;
}
