use Rattle.std.proofs.Common.{◌≡◌, true, take}
use Rattle.std.specs.List.{list_all}
use Rattle.fare_csv.specs.ReadBack.{is_name}
use Rattle.fare_csv.proofs.laws.list_law.Given as goal

-- the names so far are in their form
abbrev pub invariant-loop-i : goal.invariant-loop-i
invariant-loop-i l = list_all is_name (take l.i l.names) ≡ true
