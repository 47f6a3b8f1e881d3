use Rattle.std.proofs.Common.{List, ℕ, subst, sym, ◌∙◌}
use Rattle.std.specs.Io.KnownBytes.{ReadConsumes}
use Rattle.fare_outside.specs.ListedDoor.{at_place}
use Rattle.fare_outside.proofs.Places.{refilled}
use Rattle.fare_outside.proofs.mem_door.MemDoorDoor.read.Goals as goal

pub returns-clause-bytes : goal.returns-clause-bytes
returns-clause-bytes c =
    let size = c.read_at.auto.sources ∙ c.deref_mut.ensures.len in
    let kept = refilled c.self.inside.left.len c.self.inside.left.items c.read_at.new.sources size in
    let read = rw c.deref_mut.ensures.value at c.read_at.ensures.bytes in
    let Reads : List (List ℕ) → Type 0 = λ left. ReadConsumes (at_place c.self.inside.current c.self.inside.left.items)
    (at_place c.self.inside.current left) c.read_at.result c.read_at.new.buf in
    rw (← c.self.view_is) (subst Reads (sym kept) read)
