use Rattle.std.proofs.Common.{◌≡◌, ◌<◌, ℕ, arith}
use Rattle.fare_split.specs.PriceWord.{floor_of}
use Rattle.fare_split.proofs.WordLemmas.{copies}
use Rattle.fare_split.proofs.tests.told_at.Goals as goal

pub split_seat-second-requires : goal.split_seat-second-requires
split_seat-second-requires c =
    let one : c.in_ok-word.word.shared.table_id.words ≡ 1 = c.in_ok-word.ensures.one_word in (
      c.in_ok-word.ensures.at,
      omega arith,
      copies (floor_of c.in_ok-word.word.shared.key) c.in_ok-word.first.id c.in_ok-word.first.me.0,
    )
