use Rattle.fare_sentences.proofs.refusals.push_desk_text.Goals as goal

pub returns-in-UnknownPlace : goal.returns-in-UnknownPlace
returns-in-UnknownPlace c = rw c.in-UnknownPlace.is c.push_city.ensures
