-- the least of the covers whose first leg ends before this point
use Rattle.std.proofs.Common.{◌≤◌, ◌-◌, ◌*◌}
use Rattle.std.specs.Prelude.{IfSome}
use Rattle.fare_bounds.specs.declared.limits.TheConstants.{COST_LIMIT}
use Rattle.fare_codes.specs.declared.limits.TheConstants.{MOST_SECTORS}
use Rattle.fare_bounds.specs.Covers.{IsLeast}
use Rattle.fare_bounds.specs.Search.{GoesOn, IsBefore}
use Rattle.fare_bounds.proofs.rest.rest_from.Given as goal

abbrev pub invariant-loop-b : goal.invariant-loop-b
invariant-loop-b l = record {
  least : IsLeast (GoesOn l.table.edition l.table.trip l.i (IsBefore l.b)) l.least;
  bound : IfSome l.least (λ rest. rest ≤ (MOST_SECTORS - l.i) * COST_LIMIT);
}
