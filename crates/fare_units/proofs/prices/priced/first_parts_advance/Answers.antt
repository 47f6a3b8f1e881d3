use Rattle.std.proofs.Common.{arith}
use Rattle.fare_units.proofs.FirstParts.{first_advance, first_few}
use Rattle.fare_units.proofs.prices.priced.first_parts_advance.Goals as goal

pub returns-clause-few : goal.returns-clause-few
returns-clause-few c = first_few c.args.edition.now c.args.trip.now c.args.parts.now c.args.m c.requires.three (omega arith)

pub returns-clause-advances : goal.returns-clause-advances
returns-clause-advances c = first_advance c.args.edition.now c.args.trip.now c.args.parts.now c.args.m c.requires.three
