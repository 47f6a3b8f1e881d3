use Rattle.fare_audit.proofs.VerdictLemmas.{best_at_most, priced}
use Rattle.fare_audit.proofs.auditing.verdict_beside.Goals as goal

pub overflow_sub-over : goal.overflow_sub-over
overflow_sub-over c = best_at_most _ _ _ _ _ _ c.requires.lawful c.requires.best

pub returns : goal.returns
returns c = priced _ _ _ _ _ _ c.requires.lawful c.requires.best
