use Rattle.fare_units.proofs.PricedLemmas.{unbroken_of_price, advances_of_price}
use Rattle.fare_units.proofs.prices.priced.price_is_of_unbroken.Goals as goal

pub returns-clause-unbroken : goal.returns-clause-unbroken
returns-clause-unbroken c = unbroken_of_price c.args.edition.now c.args.trip.now c.args.c.now c.args.price c.requires

pub returns-clause-advances : goal.returns-clause-advances
returns-clause-advances c = advances_of_price c.args.edition.now c.args.trip.now c.args.c.now c.args.price c.requires
