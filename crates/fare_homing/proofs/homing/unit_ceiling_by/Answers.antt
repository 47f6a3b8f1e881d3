use Rattle.std.proofs.Common.{arith}
use Rattle.fare_homing.proofs.UnitLemmas.{units_by_all, units_by_bar}
use Rattle.fare_homing.proofs.homing.unit_ceiling_by.Goals as goal

pub returns-then-bar-known : goal.returns-then-bar-known
returns-then-bar-known c tariff trip alike bar = units_by_all tariff trip c.args.known alike

pub returns-then-known-bar : goal.returns-then-known-bar
returns-then-known-bar c tariff trip alike bar = units_by_all tariff trip c.args.known alike

pub returns : goal.returns
returns c tariff trip alike bar = units_by_bar tariff trip c.args.known c.args.bar bar (omega (arith, c.if-bar-known.false))
