use Rattle.std.proofs.Common.{◌≡◌, replicate}
use Rattle.fare_outside.specs.ListedDoor.{empty_room}
use Rattle.fare_outside.proofs.mem_door.rooms.Given as goal

abbrev pub invariant-loop : goal.invariant-loop
invariant-loop l = l.rooms.items ≡ replicate l.counter (empty_room l.room)
