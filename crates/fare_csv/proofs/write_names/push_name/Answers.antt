use Rattle.fare_csv.proofs.PlainFields.{rule_id-plain}
use Rattle.fare_csv.proofs.write_names.push_name.Goals as goal

pub returns-in-Some-clause-plain : goal.returns-in-Some-clause-plain
returns-in-Some-clause-plain c = rw c.in-Some.is (rule_id-plain c.in-Some.id c.text.ensures.form)
