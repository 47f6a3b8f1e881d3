use Rattle.std.proofs.Common.{sym, ◌∙◌}
use Rattle.fare_homing.proofs.BarringLemmas.{step_of_all}
use Rattle.fare_homing.proofs.steps.is_step.Goals as goal

pub returns : goal.returns
returns c told = step_of_all c.args.edition.now c.args.before.now c.args.rule c.args.after.now (sym c.may_bar_all.ensures ∙ told)
