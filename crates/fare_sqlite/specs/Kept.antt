-- The bodies that a connection keeps.
use Rattle.std.specs.Prelude.{◌≡◌, ◌⊎◌, ℕ, true, false, not, ◌&&◌, if◌then◌else◌, List, [], Option, Some, None, IsTrue}
use Rattle.sqlite_value.specs.Order.{Row}
use Rattle.sqlite_trees.specs.Tree.{Trees}
use Rattle.sqlite.specs.Effect.{Database}
use Rattle.sqlite.specs.State.{HasCleanDisk, State}
use Rattle.fare_sqlite.specs.Bodies.{bodies_in}
use Rattle.fare_sqlite.specs.Ours.{is_blank, is_ours}

-- the rows of the table of editions
abbrev pub rows_of : State → List Row
rows_of s = s.now.trees 0

-- the bodies of a database, by place: those of its table of editions, and none where there is nothing yet
abbrev pub bodies_of : Database → Option (List (List ℕ))
bodies_of db = if is_blank db.schema then Some [] else (if is_ours db.schema then bodies_in (db.trees 0) else None)

-- the bodies that a connection keeps, while it is open and outside a transaction
unfoldable pub kept : State → Option (List (List ℕ))
kept s = if s.is_open && not s.in_transaction then bodies_of s.now else None

-- a connection is outside a transaction, and what it shows is committed
pub record IsSettled (s : State) : Type 0 where
  pub outside : s.in_transaction ≡ false
  pub settled : s.now ≡ s.committed

-- an open connection is settled, and its database is that of editions
pub record HasTable (s : State) : Type 0 where
  pub settled : IsSettled s
  pub ours : is_ours s.now.schema ≡ true

-- an open connection is settled, and keeps bodies in the table of editions
pub record HasBodies (s : State) : Type 0 where
  pub table : HasTable s
  pub bodies : List (List ℕ)
  pub are : bodies_in (s.now.trees 0) ≡ Some bodies

-- an open connection keeps bodies in the table of editions
abbrev pub Speaks : State → Type 0
Speaks s = IsTrue s.is_open → HasBodies s

-- where a connection is still open after a call, it was open, and shows what it showed, settled
pub record Stays (old new : State) : Type 0 where
  pub was_open : IsTrue new.is_open → IsTrue old.is_open
  pub same : IsTrue new.is_open → new.now ≡ old.now
  pub settled : IsTrue new.is_open → IsSettled new

-- where the disk returned what was written, it had before, and what an open finds after a crash is what it could find
pub record LeavesAsBefore (old new : State) : Type 0 where
  pub was_clean : HasCleanDisk new → HasCleanDisk old
  pub crash : HasCleanDisk new → IsTrue old.is_open → (db : Trees) → new.may_leave db → old.may_leave db

-- what an open finds after a crash at this moment has just these bodies
abbrev pub LeavesJust : State → List (List ℕ) → Type 0
LeavesJust s bodies = (db : Trees) → s.may_leave db → bodies_in (db 0) ≡ Some bodies

-- what an open finds after a crash at this moment is what it could find before, or has these bodies
abbrev pub LeavesOr : State → State → List (List ℕ) → Type 0
LeavesOr old new bodies = (db : Trees) → new.may_leave db → old.may_leave db ⊎ (bodies_in (db 0) ≡ Some bodies)
