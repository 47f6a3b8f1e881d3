use Rattle.std.proofs.Common.{◌≡◌, ◌∙◌, Err, ap, rules}
use Rattle.fare_commands.specs.Answer.{done, restore_end}
use Rattle.fare_commands.proofs.MigrationLemmas.{answers_count, answers_fault, may_migrate}
use Rattle.fare_commands.proofs.migration.migrate_in.Goals as goal

pub returns-clause-answer : goal.returns-clause-answer
returns-clause-answer g c =
    answers_count _ _ c.args.book _ _ _ c.in_ok-count.ensures.answer
    (c.done.ensures ∙ ap done c.in_ok-numbered_line.ensures)

pub returns-clause-bodies : goal.returns-clause-bodies
returns-clause-bodies g c = may_migrate _ _ _ _ _ c.migrate.ensures.answer c.migrate.ensures.editions

pub returns-in_err-numbered_line-clause-bodies : goal.returns-in_err-numbered_line-clause-bodies
returns-in_err-numbered_line-clause-bodies g c =
    may_migrate _ _ _ _ _ c.migrate.ensures.answer c.migrate.ensures.editions

pub returns-in_err-count-clause-answer : goal.returns-in_err-count-clause-answer
returns-in_err-count-clause-answer g c =
    let out : c.from_residual.result ≡ Err (restore_end c.in_err-count.field-0.0) = search rules in
    rw out (answers_fault _ _ _ _ c.in_err-count.field-0.0 c.in_err-count.ensures.answer)
