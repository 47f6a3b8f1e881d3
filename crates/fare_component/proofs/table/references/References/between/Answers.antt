use Rattle.fare_component.proofs.table.references.References.between.Goals as goal

pub put-requires-clause-found : goal.put-requires-clause-found
put-requires-clause-found c =
    record { value = c.looked_up-found.ensures.value; bound = c.looked_up-found.ensures.bound }
