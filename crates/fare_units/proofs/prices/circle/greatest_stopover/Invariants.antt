-- the greatest so far and of what is left is the greatest of all
use Rattle.std.proofs.Common.{◌≡◌, ◌+◌, ◌<◌, ◌^◌, filter}
use Rattle.std.specs.Prelude.{IfSome}
use Rattle.fare_codes.specs.Amounts.{greater}
use Rattle.fare_rules.specs.Numbers.{numbers, greatest_of}
use Rattle.fare_rules.specs.Span.{is_stopover}
use Rattle.fare_rules.specs.Circle.{circle_reference}
use Rattle.fare_units.proofs.prices.circle.greatest_stopover.Given as goal

abbrev pub invariant-loop-i : goal.invariant-loop-i
invariant-loop-i l = (greater l.found (greatest_of (circle_reference l.unit.edition.now l.unit.trip.now l.unit.parts.now l.unit.own.now l.k) (filter (is_stopover l.unit.trip.now) (numbers l.i l.b))) ≡ greatest_of (circle_reference l.unit.edition.now l.unit.trip.now l.unit.parts.now l.unit.own.now l.k) (filter (is_stopover l.unit.trip.now) (numbers (l.a + 1) l.b))) × IfSome l.found (λ amount. amount < 10 ^ 9)
