use Rattle.fare_audit.proofs.VerdictLemmas.{verdict_one}
use Rattle.fare_audit.proofs.laws.verdict_is_one.Goals as goal

pub returns : goal.returns
returns c = verdict_one
