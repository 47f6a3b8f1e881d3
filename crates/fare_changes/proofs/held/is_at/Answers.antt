use Rattle.std.proofs.Common.{◌∙◌, sym}
use Rattle.fare_changes.proofs.HeldLemmas.{is_in_at}
use Rattle.fare_changes.proofs.held.is_at.Goals as goal

pub returns-in-Some : goal.returns-in-Some
returns-in-Some c = λ h.
    let found = c.in-Some.ensures.lookup in
    is_in_at c.args.records.now c.args.place c.args.one.now c.in-Some.other.now found.3.0 found.1
    (sym c.same_record.ensures ∙ h)
