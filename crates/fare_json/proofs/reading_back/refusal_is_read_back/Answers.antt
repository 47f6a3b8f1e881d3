use Rattle.fare_json.proofs.ReadLemmas.{is_read_back_within, refusal_readable}
use Rattle.fare_json.proofs.reading_back.refusal_is_read_back.Goals as goal

pub returns : goal.returns
returns c = record {
  readable = λ text words. refusal_readable text words;
  back = λ text words. is_read_back_within _ (refusal_readable text words);
}
