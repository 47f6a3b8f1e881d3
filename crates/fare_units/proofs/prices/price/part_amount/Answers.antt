use Rattle.fare_rules.specs.UnitPrice.{part_amount}
use Rattle.fare_units.proofs.prices.price.part_amount.Goals as goal

pub returns-clause-value : goal.returns-clause-value
unfolding part_amount
returns-clause-value c = rw (c.start_of.ensures.value, c.end_of.ensures.value, c.is_back_in.ensures, c.part_at.ensures) at c.amount_of.ensures.value
