use Rattle.std.proofs.Common.{inl, inr, refl}
use Rattle.fare_run.specs.Refusal.{no_memory}
use Rattle.fare_run.proofs.ProgramLemmas.{appends_nothing, ends_in, memory_in}
use Rattle.fare_run.proofs.OpenedLemmas.{run_named_as}
use Rattle.fare_run.proofs.program.run.Goals as goal

pub returns-in-Err-clause-answer : goal.returns-in-Err-clause-answer
returns-in-Err-clause-answer g c = memory_in _ _ _ _ _ _

pub returns-in-Err-clause-unread : goal.returns-in-Err-clause-unread
returns-in-Err-clause-unread g c left = (no_memory, inr (inr refl), inl (refl, appends_nothing _))

pub returns-clause-answer : goal.returns-clause-answer
returns-clause-answer g c =
    ends_in _ _ _ _ _ _ c.outcome-outcome.result _ _ _ c.in-Ok.ensures.taken c.outcome-outcome.ensures.comes
    c.written.ensures.writes

pub returns-clause-name : goal.returns-clause-name
returns-clause-name g c =
    run_named_as _ _ c.outcome-outcome.result _ (g.P.Keeper.opened_as c.args.store.now)
    (g.P.Keeper.opened_as c.outcome-outcome.new.store) _ _ c.in-Ok.ensures.taken c.outcome-outcome.ensures.name
    c.outcome-outcome.ensures.silent c.written.ensures.writes
