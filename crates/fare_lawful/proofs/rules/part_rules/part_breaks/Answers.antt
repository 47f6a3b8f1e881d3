use Rattle.fare_lawful.proofs.rules.part_rules.part_breaks.Goals as goal

pub returns : goal.returns
returns c = rw (c.start_of-a.ensures.value, c.end_of-b.ensures.value, c.fare_of.ensures) at c.span_breaks.ensures
