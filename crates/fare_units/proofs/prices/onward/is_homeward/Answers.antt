use Rattle.fare_units.proofs.prices.onward.is_homeward.Goals as goal

pub returns : goal.returns
returns c = rw (c.as_slice.ensures.value, c.own-own.ensures.own, c.unit_of.ensures.value) at c.heads_home.ensures
