use Rattle.fare_rules.specs.Direction.{priced_back}
use Rattle.fare_lawful.proofs.parts.direction.priced_back.Goals as goal

pub returns : goal.returns
unfolding priced_back
returns c = rw (c.as_slice.ensures.value, c.own-own.ensures.own, c.unit_of.ensures.value) at c.is_back_if.ensures
