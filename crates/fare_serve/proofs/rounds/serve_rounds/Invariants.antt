use Rattle.std.proofs.Common.{◌≡◌, ◌≤◌, ◌+◌, ◌-◌, [], List}
use Rattle.fare_rounds.specs.Rounds.{Exchanged}
use Rattle.fare_serve.specs.Service.{AreRounds, door_state, standing}
use Rattle.fare_serve.proofs.rounds.serve_rounds.Given as goal

abbrev pub invariant-rounds : goal.invariant-rounds
invariant-rounds g l = record {
  rounds : (rounds : List (List Exchanged))
      × AreRounds g.H.Handler.step l.service.count l.service.round
      (standing l.initial.handler (door_state (g.D.Door.waiting l.initial.door) (g.D.Door.sent l.initial.door)
      (g.D.Door.listens_at l.initial.door) (g.D.Door.faults l.initial.door) (g.D.Door.cuts l.initial.door)) 0 0)
      rounds
      (standing l.handler (door_state (g.D.Door.waiting l.door) (g.D.Door.sent l.door)
      (g.D.Door.listens_at l.door) (g.D.Door.faults l.door) (g.D.Door.cuts l.door)) l.counts.served l.counts.cut);
  within : l.counts.served + l.counts.cut ≤ l.service.count;
  none_held : g.D.Door.held l.door ≡ [];
  port : g.D.Door.listens_at l.door ≡ g.D.Door.listens_at l.initial.door;
  faults : g.D.Door.faults l.initial.door ≤ g.D.Door.faults l.door;
  cuts : g.D.Door.cuts l.initial.door ≤ g.D.Door.cuts l.door;
}

abbrev pub decreases-rounds : goal.decreases-rounds
decreases-rounds g l = l.service.count - (l.counts.served + l.counts.cut)
