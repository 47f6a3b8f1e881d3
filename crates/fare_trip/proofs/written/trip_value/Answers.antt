use Rattle.std.specs.List.{All}
use Rattle.std.proofs.Common.{subst}
use Rattle.fare_trip.specs.Written.{ReadsBack}
use Rattle.fare_trip.proofs.WrittenLemmas.{trip_reads_back}
use Rattle.fare_trip.proofs.written.trip_value.Goals as goal

pub returns-in-Ok-json-6-clause-read_back : goal.returns-in-Ok-json-6-clause-read_back
returns-in-Ok-json-6-clause-read_back c =
    trip_reads_back c.args.trip.now (rw c.from.ensures at c.text-from.ensures.read_back) (rw c.sale.ensures at c.text-sale.ensures.read_back) (subst (All ReadsBack) c.sectors.ensures c.in_ok-values.ensures.read_back) c.law.ensures.makes
