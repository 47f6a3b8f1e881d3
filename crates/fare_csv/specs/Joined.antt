-- The records of all pieces of a text in one list.
use Rattle.std.specs.Prelude.{List, [], ◌∷◌, ◌++◌, Result, Ok}
use Rattle.std.specs.Global.{Vec}
use Rattle.fare_ports.specs.Memory.{◌>>=◌}
use Rattle.fare_records.specs.declared.record.Record.{Record}
use Rattle.fare_csv.specs.declared.pieces.NotInPieces.{NotInPieces}

-- the records of each piece behind those of the pieces before it, if each was read
unfoldable pub joined : List (Result (Vec Record) NotInPieces) → Result (List Record) NotInPieces
joined [] = Ok []
joined (found ∷ others) = do
  records ← found
  more ← joined others
  Ok (records.items ++ more)
