use Rattle.std.proofs.Common.{◌<◌, length, arith, subst, sym}
use Rattle.fare_rounds.specs.declared.entry.Entry.{Entry}
use Rattle.fare_rounds.specs.Finishing.{IsReplied}
use Rattle.fare_rounds.proofs.AnswerLemmas.{in-turn-next}
use Rattle.fare_rounds.proofs.finishing.publish_each.Goals as goal

pub entries-preserved : goal.entries-preserved
entries-preserved g c =
    let before = c.entries.invariant in
    let handler = c.entries.handler in
    let now = c.publish.new.handler in
    let reply = c.publish.new.self.reply in
    let below : c.entries.entry-index < length c.entries.entries = omega (arith, c.entries-test.true, c.entries.auto.entries) in
    let replied = subst (λ (e : Entry). IsReplied g.H.Handler.step e.request e.reply handler reply now) (sym c.entry-item.is)
    c.publish.ensures.reply in
    let next = in-turn-next g.H.Handler.step c.args.entries.now c.entries.entries c.entries.entry-index c.entry-item.result
    c.publish.new.self c.args.handler.now handler now below c.entries.auto.entries c.entry-item.is before.rest before.turn replied in
    record { turn = next.0; rest = next.1 }
