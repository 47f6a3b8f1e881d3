use Rattle.fare_csv.proofs.RecordsReadBack.{city_reads_back}
use Rattle.fare_csv.proofs.laws.city_law.Goals as goal

pub returns : goal.returns
returns c = city_reads_back c.args.city.now c.text-code.ensures.form c.text-country.ensures.form
