use Rattle.std.proofs.Common.{◌≡◌, map, take, drop}
use Rattle.fare_rounds.specs.Finishing.{InTurn}
use Rattle.fare_rounds.proofs.finishing.publish_each.Given as goal

-- the entries before this one were answered, and the others are as before
abbrev pub invariant-entries : goal.invariant-entries
invariant-entries g l = record {
  turn : InTurn g.H.Handler.step (take l.entry-index l.fn.entries) l.initial.handler
      (map (λ entry. entry.reply) (take l.entry-index l.entries)) l.handler;
  rest : drop l.entry-index l.entries ≡ drop l.entry-index l.fn.entries;
}
