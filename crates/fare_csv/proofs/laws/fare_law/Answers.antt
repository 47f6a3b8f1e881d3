use Rattle.fare_csv.proofs.RecordsReadBack.{fare_reads_back}
use Rattle.fare_csv.proofs.laws.fare_law.Goals as goal

pub returns : goal.returns
returns c =
    rw (← c.fare.view_is) (fare_reads_back _ c.text-from.ensures.form c.text-to.ensures.form c.text-ind.ensures.read_back c.text-carrier.ensures.form c.text-class.ensures.read_back c.text-kind.ensures.read_back c.fare_rule_text-rule.ensures.plain c.fare_rule_text-rule.ensures.read_back c.text-first.ensures.form c.text-last.ensures.form c.fare.invariant c.text-amount.ensures.read_back)
