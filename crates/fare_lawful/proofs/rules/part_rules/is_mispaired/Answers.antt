use Rattle.fare_lawful.proofs.rules.part_rules.is_mispaired.Goals as goal

pub returns : goal.returns
returns c = rw (c.start_of-a.ensures.value, c.end_of-b.ensures.value, c.is_back-back.ensures, c.fare_of.ensures) at c.is_mispaired_span.ensures
