use Rattle.fare_json.proofs.ReadLemmas.{is_read_back_within}
use Rattle.fare_json.proofs.ReadQuotation.{none_readable}
use Rattle.fare_json.proofs.reading_back.no_fare_is_read_back.Goals as goal

pub returns : goal.returns
returns c =
    let fits = c.edition_is_counted.ensures.0 in
    record {
      readable = λ trip. none_readable c.args.edition.now trip fits;
      back = λ trip. is_read_back_within _ (none_readable c.args.edition.now trip fits);
    }
