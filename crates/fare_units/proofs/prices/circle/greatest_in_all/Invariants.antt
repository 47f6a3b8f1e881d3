-- the greatest so far and of what is left is the greatest of all
use Rattle.std.proofs.Common.{◌≡◌, ◌<◌, ◌^◌, drop}
use Rattle.std.specs.Prelude.{IfSome}
use Rattle.fare_codes.specs.Amounts.{greater}
use Rattle.fare_rules.specs.Numbers.{greatest_of}
use Rattle.fare_units.specs.Turning.{greatest_without}
use Rattle.fare_units.proofs.prices.circle.greatest_in_all.Given as goal

abbrev pub invariant-loop-i : goal.invariant-loop-i
invariant-loop-i l = (greater l.found (greatest_of (greatest_without l.unit.edition.now l.unit.trip.now l.unit.parts.now l.unit.own.now l.left_out) (drop l.i l.unit.own.now)) ≡ greatest_of (greatest_without l.unit.edition.now l.unit.trip.now l.unit.parts.now l.unit.own.now l.left_out) l.unit.own.now) × IfSome l.found (λ amount. amount < 10 ^ 9)
