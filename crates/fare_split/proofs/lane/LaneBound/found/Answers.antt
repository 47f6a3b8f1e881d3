use Rattle.std.proofs.Common.{◌≡◌, sym, ap, ◌∙◌, arith}
use Rattle.atomic_table.specs.Seated.{TableId}
use Rattle.fare_split.specs.PriceWord.{floor_of}
use Rattle.fare_split.proofs.WordLemmas.{tells}
use Rattle.fare_split.proofs.lane.LaneBound.found.Goals as goal

pub fetch_min-requires : goal.fetch_min-requires
fetch_min-requires g c =
    let lane = c.args.self.now in
    let one : lane.word.now.shared.table_id.words ≡ 1 = ap (λ (id : TableId). id.words) lane.word_is ∙ lane.one_word in (
      lane.seat_is ∙ sym lane.word_is,
      omega arith,
      tells (floor_of lane.word.now.shared.key) lane.word.now.shared.table_id.slots lane.seat.id c.args.price lane.seat.me c.requires,
    )
