-- whether one of the places that are left lacks an amount
use Rattle.std.proofs.Common.{◌≡◌, drop}
use Rattle.std.specs.List.{list_any}
use Rattle.fare_lawful.specs.Shut.{has_no_amount}
use Rattle.fare_units.proofs.prices.price.lacks_amount.Given as goal

abbrev pub invariant-loop-i : goal.invariant-loop-i
invariant-loop-i l = list_any (has_no_amount l.edition l.trip l.parts l.own) (drop l.i l.own) ≡ list_any (has_no_amount l.edition l.trip l.parts l.own) l.own
