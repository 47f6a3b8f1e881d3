use Rattle.fare_csv.specs.RecordText.{read_fare_rule}
use Rattle.std.proofs.Common.{refl}
use Rattle.fare_csv.proofs.PlainFields.{rule_id-plain}
use Rattle.fare_csv.proofs.RecordsReadBack.{rule_field_reads_back}
use Rattle.fare_csv.proofs.write_record.fare_rule_text.Goals as goal

pub returns-in-Some-clause-plain : goal.returns-in-Some-clause-plain
returns-in-Some-clause-plain c = rw c.in-Some.is (rule_id-plain c.in-Some.id c.text.ensures.form)

pub returns-in-Some-clause-read_back : goal.returns-in-Some-clause-read_back
returns-in-Some-clause-read_back c = rw c.in-Some.is (rule_field_reads_back c.in-Some.id c.text.ensures.form)

pub returns-in-None-clause-read_back : goal.returns-in-None-clause-read_back
unfolding read_fare_rule
returns-in-None-clause-read_back c = rw c.in-None.is refl
