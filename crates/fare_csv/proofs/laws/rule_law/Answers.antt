use Rattle.fare_csv.proofs.RecordsReadBack.{rule_reads_back}
use Rattle.fare_csv.proofs.laws.rule_law.Goals as goal

pub returns : goal.returns
returns c =
    let is = c.rule.invariant in
    rw (← c.rule.view_is) (rule_reads_back _ is c.text-id.ensures.form
    (record {
      stops = c.number_text-stops.ensures.read_back 16 is.stops;
      transfers = c.number_text-transfers.ensures.read_back 16 is.transfers;
      advance = c.number_text-advance.ensures.read_back 999 is.advance;
      min_stay = c.number_text-min_stay.ensures.read_back 999 is.min_stay;
      max_stay = c.number_text-max_stay.ensures.read_back 999 is.max_stay;
    }) c.names_law.ensures c.names_law-2.ensures)
