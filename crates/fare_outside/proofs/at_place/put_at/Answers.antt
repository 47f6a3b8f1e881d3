use Rattle.fare_outside.proofs.Rooms.{taken_into-may_put}
use Rattle.fare_outside.proofs.at_place.put_at.Goals as goal

pub returns-in-Some-clause-taken : goal.returns-in-Some-clause-taken
returns-in-Some-clause-taken c =
    taken_into-may_put c.put.result c.args.place c.in-Some.place c.args.rooms.now c.index-rooms-place.result
    c.put.new.self c.args.bytes.now c.put.ensures.answer c.in-Some.is c.if-place-rooms.true c.put.ensures.room
