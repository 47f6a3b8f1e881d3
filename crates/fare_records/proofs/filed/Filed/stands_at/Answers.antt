-- the record that is there has the key
use Rattle.std.proofs.Common.{sym, ◌∙◌}
use Rattle.fare_records.proofs.Chain.{has_key_at}
use Rattle.fare_records.proofs.filed.Filed.stands_at.Goals as goal

pub returns-in-Some : goal.returns-in-Some
returns-in-Some c = λ told.
    let there = c.in-Some.ensures.lookup.3 in
    has_key_at c.records.result.now c.args.self.now c.args.place c.in-Some.one.now c.args.key.now c.records.ensures.records there.0 there.1 (sym c.has.ensures ∙ told)
