-- What a file and its log hold as they are found.
use Rattle.std.specs.Prelude.{◌≡◌, ℕ, List, Some}
use Rattle.sqlite_wal.specs.Recovery.{Image}
use Rattle.sqlite.specs.Effect.{Database, IsDatabase}
use Rattle.sqlite.specs.Files.{HoldsDatabase}
use Rattle.fare_sqlite.specs.Kept.{bodies_of}

-- a file and its log hold a database, and it keeps these bodies
pub record HoldsBodies (image : Image) (bodies : List (List ℕ)) : Type 0 where
  pub db : Database
  pub sound : IsDatabase db
  pub holds : HoldsDatabase image db.trees
  pub are : bodies_of db ≡ Some bodies
