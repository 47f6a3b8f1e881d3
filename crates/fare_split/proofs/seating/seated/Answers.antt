use Rattle.std.proofs.Common.{◌≡◌, arith}
use Rattle.fare_split.specs.PriceWord.{floor_of}
use Rattle.fare_split.proofs.WordLemmas.{copies}
use Rattle.fare_split.proofs.seating.seated.Goals as goal

pub split_seat-own-requires : goal.split_seat-own-requires
split_seat-own-requires c =
    let one : c.args.word.now.shared.table_id.words ≡ 1 = c.requires.one_word in (
      c.loop-worker.invariant.at,
      omega arith,
      copies (floor_of c.args.word.now.shared.key) c.loop-worker.seat.id c.loop-worker.seat.me.0,
    )
