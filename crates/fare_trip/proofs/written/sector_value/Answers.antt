use Rattle.fare_trip.proofs.WrittenLemmas.{sector_reads_back}
use Rattle.fare_trip.proofs.written.sector_value.Goals as goal

pub returns-in-Ok-json-14-clause-read_back : goal.returns-in-Ok-json-14-clause-read_back
returns-in-Ok-json-14-clause-read_back c = sector_reads_back c.args.sector.now c.text-to.ensures.read_back c.text-carrier.ensures.read_back c.text-day.ensures.read_back c.text-cabin.ensures.read_back c.text-over.ensures.read_back
