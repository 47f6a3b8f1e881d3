use Rattle.std.proofs.Common.{◌≡◌, sym, ◌∙◌, refl}
use Rattle.fare_rounds.specs.Taking.{gathering}
use Rattle.fare_rounds.proofs.GatherLemmas.{gathers-one}
use Rattle.fare_rounds.proofs.taking.take_next.Goals as goal
use Rattle.fare_rounds.proofs.taking.take_next.Goals.{else-not-is_first-via-then-not-is_first+else-not-more, else-not-is_first-via-else-not-is_first}

pub returns-in-Ok-true-clause-taken : goal.returns-in-Ok-true-clause-taken
returns-in-Ok-true-clause-taken g c =
    let first = c.args.door.now in
    let door = c.else-not-is_first.door in
    let same : (g.D.Door.waiting door ≡ g.D.Door.waiting first) × (g.D.Door.sent door ≡ g.D.Door.sent first)
    × (g.D.Door.held door ≡ g.D.Door.held first) × (g.D.Door.cuts door ≡ g.D.Door.cuts first) =
    elim c.else-not-is_first.branch [
      | else-not-is_first-via-then-not-is_first+else-not-more w ↦ (
        rw w.door-is w.more.ensures.waiting,
        rw w.door-is w.more.ensures.sent,
        rw w.door-is w.more.ensures.held,
        rw w.door-is w.more.ensures.cuts,
      )
      | else-not-is_first-via-else-not-is_first w ↦
          (rw w.door-is refl, rw w.door-is refl, rw w.door-is refl, rw w.door-is refl)
    ] in
    let next = c.in-Ok-true.ensures in
    let true-is = c.in-Ok-true.field-0-test in
    let gathered = c.gather.ensures in
    let one = rw (next.held, next.cuts, same.2, same.3) at gathered.taken in
    let took = rw (true-is) at next.waiting in
    let grew = rw (true-is) at next.sent in
    let placed = rw (true-is) at next.place in
    let old = gathering (g.D.Door.waiting first) (g.D.Door.sent first) (g.D.Door.held first) (g.D.Door.cuts first) c.args.round.now in
    let last = c.gather.new.door in
    let new = gathering (g.D.Door.waiting last) (g.D.Door.sent last) (g.D.Door.held last) (g.D.Door.cuts last) c.gather.new.self in
    let took-first = rw (same.0, sym gathered.waiting) at took in
    let grown = gathered.sent ∙ rw same.1 at grew in
    let place = rw same.1 at placed in
    (one.arrival, gathers-one old new _ _ took-first grown (next.current ∙ true-is) place one)
