use Rattle.std.proofs.Common.{◌≡◌, ◌≤◌, [], inl, inr, refl, ap, ◌∙◌, subst, arith, ◌+◌}
use Rattle.fare_ports.specs.Door.{NoneWaits}
use Rattle.fare_rounds.specs.Entries.{connection_count}
use Rattle.fare_rounds.specs.Taking.{Gathering, TakesNone, gathering}
use Rattle.fare_rounds.proofs.GatherLemmas.{all-taken, counts-next, gathers-next, gathers-none, none-waited}
use Rattle.std.proofs.Common.{◌≢◌, Err}
use Rattle.std.proofs.lemmas.Bool.Decides.{nat_tests}
use Rattle.fare_rounds.specs.declared.door_end.DoorEnd.TheVariants.{Failed}
use Rattle.fare_rounds.proofs.taking.take_round.Goals as goal

pub connections-init : goal.connections-init
connections-init g c =
    let door = c.args.door.now in
    record {
      gathered = rw (c.requires.none_held, c.new-round.ensures)
          ([], gathers-none (g.D.Door.waiting door) (g.D.Door.sent door) (g.D.Door.cuts door));
      count = rw c.new-round.ensures refl;
      none_current = λ no. absurd (omega (arith, no));
      never_falls = omega arith;
      port = refl;
      faults = omega arith;
    }

-- where no connection was taken, none waits before if none does after
waits-none : (old new : Gathering) → TakesNone old new → NoneWaits new.waiting → NoneWaits old.waiting
waits-none old new stays none = subst (λ (gathering : Gathering). NoneWaits gathering.waiting) stays none

-- and the count is as before
count-stays : (old new : Gathering) → TakesNone old new → connection_count new.row ≡ connection_count old.row
count-stays old new stays = ap (λ (gathering : Gathering). connection_count gathering.row) stays

pub returns-in-Err-clause-all : goal.returns-in-Err-clause-all
returns-in-Err-clause-all g c = λ not-failed.
    let door = c.connections.door in
    let first = c.args.door.now in
    let before = c.connections.invariant in
    let between = gathering (g.D.Door.waiting door) (g.D.Door.sent door) (g.D.Door.held door) (g.D.Door.cuts door) c.connections.round in
    let now = c.take_next.new.door in
    let new = gathering (g.D.Door.waiting now) (g.D.Door.sent now) (g.D.Door.held now) (g.D.Door.cuts now) c.take_next.new.round in
    let stays = c.in-Err.ensures.ended in
    let none : NoneWaits (g.D.Door.waiting door) = waits-none between new stays (c.in-Err.ensures.none_waits not-failed) in
    let count = count-stays between new stays in
    let few : connection_count c.connections.round ≤ c.args.most = omega (arith, before.count, c.connections-test.true) in
    rw count
    (all-taken (g.D.Door.waiting first) (g.D.Door.sent first) (g.D.Door.cuts first) between c.args.most before.gathered few (inl none))

pub returns-in-Err-clause-none_waited : goal.returns-in-Err-clause-none_waited
returns-in-Err-clause-none_waited g c = λ no-more.
    let door = c.connections.door in
    let first = c.args.door.now in
    let before = c.connections.invariant in
    let ended = c.in-Err.ensures in
    let between = gathering (g.D.Door.waiting door) (g.D.Door.sent door) (g.D.Door.held door) (g.D.Door.cuts door) c.connections.round in
    let now = c.take_next.new.door in
    let new = gathering (g.D.Door.waiting now) (g.D.Door.sent now) (g.D.Door.held now) (g.D.Door.cuts now) c.take_next.new.round in
    let not-failed : c.in-Err.end ≢ Failed = λ failed. cc in
    let none : NoneWaits (g.D.Door.waiting door) = waits-none between new ended.ended (ended.none_waits not-failed) in
    none-waited (g.D.Door.waiting first) (g.D.Door.sent first) (g.D.Door.cuts first) between before.gathered
    (λ some. ended.asked (ap Err no-more) (grind (arith, nat_tests, before.count))) none

pub connections-preserved : goal.connections-preserved
connections-preserved g c =
    let door = c.connections.door in
    let first = c.args.door.now in
    let now = c.take_next.new.door in
    let before = c.connections.invariant in
    let next = c.in_default.ensures in
    let between = gathering (g.D.Door.waiting door) (g.D.Door.sent door) (g.D.Door.held door) (g.D.Door.cuts door) c.connections.round in
    let new = gathering (g.D.Door.waiting now) (g.D.Door.sent now) (g.D.Door.held now) (g.D.Door.cuts now) c.take_next.new.round in
    let count = counts-next between new next.taken in
    record {
      gathered = gathers-next (g.D.Door.waiting first) (g.D.Door.sent first) (g.D.Door.cuts first) between new
          before.gathered next.taken;
      count = count ∙ ap (λ n. n + 1) before.count;
      none_current = λ some. next.none_current (λ same. cc);
      never_falls = omega (arith, before.never_falls, next.never_falls);
      port = next.port ∙ before.port;
      faults = omega (arith, before.faults, next.faults);
    }

pub returns-clause-all : goal.returns-clause-all
returns-clause-all g c = λ not-failed.
    let door = c.connections.door in
    let first = c.args.door.now in
    let now = c.connections.invariant in
    let new = gathering (g.D.Door.waiting door) (g.D.Door.sent door) (g.D.Door.held door) (g.D.Door.cuts door) c.connections.round in
    let count : connection_count c.connections.round ≡ c.args.most = omega (arith, now.count, c.connections-test.false, c.connections.auto.taken-end) in
    let few : connection_count c.connections.round ≤ c.args.most = omega (arith, count) in
    all-taken (g.D.Door.waiting first) (g.D.Door.sent first) (g.D.Door.cuts first) new c.args.most now.gathered few (inr count)
