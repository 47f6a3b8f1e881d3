use Rattle.std.proofs.Common.{◌≡◌, sym, ap, ◌∙◌, arith}
use Rattle.atomic_table.specs.Seated.{TableId}
use Rattle.fare_split.specs.PriceWord.{floor_of}
use Rattle.fare_split.proofs.WordLemmas.{looks}
use Rattle.fare_split.proofs.lane.LaneBound.seen.Goals as goal

pub load-requires : goal.load-requires
load-requires g c =
    let lane = c.args.self.now in
    let one : lane.word.now.shared.table_id.words ≡ 1 = ap (λ (id : TableId). id.words) lane.word_is ∙ lane.one_word in (
      lane.seat_is ∙ sym lane.word_is,
      omega arith,
      looks (floor_of lane.word.now.shared.key) lane.word.now.shared.table_id.slots lane.seat.id lane.seat.me,
    )
