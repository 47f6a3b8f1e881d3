use Rattle.fare_lawful.proofs.parts.direction.heads_home.Goals as goal

pub returns : goal.returns
returns c = rw (c.start_city-from.ensures, c.end_city-to.ensures, c.origin.ensures) at c.comes_to_country.ensures
