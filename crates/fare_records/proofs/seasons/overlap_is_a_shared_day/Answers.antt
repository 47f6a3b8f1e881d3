-- both first days are days of the year
use Rattle.fare_records.proofs.SharedDays.{shared, found}
use Rattle.fare_records.proofs.seasons.overlap_is_a_shared_day.Goals as goal

pub returns-clause-shared : goal.returns-clause-shared
returns-clause-shared c = shared c.args.a c.args.b c.text.ensures.form c.text-2.ensures.form

pub returns-clause-found : goal.returns-clause-found
returns-clause-found c = found c.args.a c.args.b
