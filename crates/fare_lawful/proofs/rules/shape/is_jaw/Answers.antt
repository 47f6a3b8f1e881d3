use Rattle.fare_lawful.proofs.rules.shape.is_jaw.Goals as goal

pub returns : goal.returns
returns c =
    rw (c.start_city-away.ensures, c.end_city-reached.ensures, c.start_city-left.ensures, c.end_city-home.ensures)
    at c.has_one_gap.ensures
