use Rattle.fare_trip.proofs.WrittenLemmas.{written_text, text_reads_back}
use Rattle.fare_trip.proofs.written.trip_text.Goals as goal

pub returns-clause-text : goal.returns-clause-text
returns-clause-text c = written_text _ _ _ c.in_ok-value.ensures.value c.in_ok-to_vec.ensures.text

pub returns-clause-read_back : goal.returns-clause-read_back
returns-clause-read_back c = text_reads_back _ _ _ c.in_ok-value.ensures.value c.in_ok-value.ensures.read_back c.in_ok-to_vec.ensures.utf8 c.in_ok-to_vec.ensures.reads_back
