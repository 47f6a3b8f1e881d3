use Rattle.fare_csv.specs.RecordText.{read_via}
use Rattle.std.proofs.Common.{refl}
use Rattle.fare_csv.proofs.RecordsReadBack.{via_reads_back}
use Rattle.fare_csv.proofs.write_record.via_text.Goals as goal

pub returns-in-Some-clause-read_back : goal.returns-in-Some-clause-read_back
returns-in-Some-clause-read_back c = rw c.in-Some.is (via_reads_back c.in-Some.city c.text.ensures.form)

pub returns-in-None-clause-read_back : goal.returns-in-None-clause-read_back
unfolding read_via
returns-in-None-clause-read_back c = rw c.in-None.is refl
