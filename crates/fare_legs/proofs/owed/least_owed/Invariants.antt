-- what is owed at least behind a first part of the entries so far
use Rattle.std.proofs.Common.{take}
use Rattle.fare_legs.specs.Least.{IsUnderEach}
use Rattle.fare_legs.specs.Owed.{owed_by}
use Rattle.fare_legs.proofs.owed.least_owed.Given as goal

abbrev pub invariant-loop-entry : goal.invariant-loop-entry
invariant-loop-entry l = IsUnderEach (owed_by l.table.edition l.table.trip l.a l.b) (take l.entry-index l.entry-items) l.least
