use Rattle.std.proofs.Common.{◌≡◌, ◌++◌, map}
use Rattle.std.specs.List.{concat}
use Rattle.fare_csv.proofs.pieces.many_pieces.Given as goal

abbrev pub invariant-loop : goal.invariant-loop
invariant-loop l = concat (map (λ piece. piece.now) l.pieces.items) ++ l.left ≡ l.text
