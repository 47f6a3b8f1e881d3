use Rattle.std.proofs.Common.{◌≡◌, Some, map, take}
use Rattle.fare_csv.specs.NameList.{names_of}
use Rattle.fare_csv.proofs.name_list.names_of.Given as goal

abbrev pub invariant-loop-piece : goal.invariant-loop-piece
invariant-loop-piece l = names_of (map (λ piece. piece.now) (take l.piece-index l.pieces)) ≡ Some l.list
