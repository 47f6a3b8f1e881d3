use Rattle.fare_book.proofs.Repeats.{run_again, run_keeps, run_once}
use Rattle.fare_book.proofs.laws.repeat_is_already.Goals as goal

pub returns : goal.returns
returns c = record {
  once = λ book last bodies left calls made edition. run_once book last bodies left calls made edition;
  already = λ book last later bodies left more calls made again edition. run_again book last later bodies left more calls made again edition;
  kept = λ book last bodies left calls edition. run_keeps book last bodies left calls edition;
}
