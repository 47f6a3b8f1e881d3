use Rattle.std.proofs.Common.{◌≡◌, ◌≤◌, map, take, None}
use Rattle.fare_rounds.proofs.AnswerLemmas.{Answering}
use Rattle.fare_rounds.proofs.finishing.send_each.Given as goal

-- the entries before this one were sent
abbrev pub invariant-entries : goal.invariant-entries
invariant-entries g l = record {
  done : Answering (g.D.Door.cuts l.initial.door) (g.D.Door.cuts l.door) (g.D.Door.held l.initial.door)
      (g.D.Door.held l.door) (g.D.Door.sent l.initial.door) (g.D.Door.sent l.door)
      (map (λ entry. entry.reply) (take l.entry-index l.entries)) l.counts.served l.cut l.counts.cut;
  none_current : g.D.Door.current l.initial.door ≡ None → g.D.Door.current l.door ≡ None;
  waiting : g.D.Door.waiting l.door ≡ g.D.Door.waiting l.initial.door;
  port : g.D.Door.listens_at l.door ≡ g.D.Door.listens_at l.initial.door;
  faults : g.D.Door.faults l.door ≡ g.D.Door.faults l.initial.door;
  never_falls : g.D.Door.cuts l.initial.door ≤ g.D.Door.cuts l.door;
}
