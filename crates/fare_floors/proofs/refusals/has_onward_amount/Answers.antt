use Rattle.fare_floors.proofs.refusals.has_onward_amount.Goals as goal

pub returns : goal.returns
returns c =
    rw (c.start_of.ensures.value, c.part_at-part.ensures, c.is_homeward-back.ensures, c.parts-parts.ensures.parts, c.trip-trip.ensures, c.edition.ensures)
    at c.has_amount.ensures
