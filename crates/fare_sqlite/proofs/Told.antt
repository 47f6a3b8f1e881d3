-- What a keeper over a name tells while its database is as it was found.
use Rattle.std.proofs.Common.{◌≡◌, ℕ, List, true, Some, refl, subst}
use Rattle.std.specs.Option.{ForSome}
use Rattle.sqlite_trees.specs.declared.store.Store.{Ghosts}
use Rattle.sqlite.specs.Held.{state}
use Rattle.fare_sqlite.specs.Kept.{kept}
use Rattle.fare_sqlite.specs.Named.{NamedState, Told, told_of}
use Rattle.fare_sqlite.specs.State.{KeeperState}

-- what holds of the bodies that a keeper tells holds of those of its table
pub told_found : {A : Type 0} (g : Ghosts A) (first : Told) (keeper : NamedState A) (table : KeeperState A) {P : List (List ℕ) → Type 0} → keeper.is_as_found ≡ true → keeper.table ≡ Some table → ForSome (told_of g first keeper) P → ForSome (kept (state g table.conn)) P
told_found g first keeper table {P} found is holds = subst (λ told. ForSome told P) tells holds
  where
    tells : told_of g first keeper ≡ kept (state g table.conn)
    tells = rw (found, is) refl
