-- What is known of a keeper over the database of a name.
use Rattle.std.specs.Prelude.{ℕ, Bool, if◌then◌else◌, List, Option, Some, None, ⊤, refl}
use Rattle.std.specs.Option.{ForSome}
use Rattle.std.specs.Coded.{Coded, code_by, coded×, coded_ℕ, coded_bool, coded_list, coded_option}
use Rattle.sqlite_trees.specs.declared.store.Store.{Ghosts}
use Rattle.sqlite.specs.Held.{state}
use Rattle.sqlite.specs.State.{HasCleanDisk}
use Rattle.fare_sqlite.specs.Kept.{LeavesJust, LeavesOr, kept}
use Rattle.fare_sqlite.specs.State.{KeeperState, keeper_code}

-- of a keeper over the database of a name: the name, its table, while that is open, whether the database is still as its
-- first opening finds it but for what the keeper did, whether it was opened, and how many of its calls have failed
pub record NamedState (A : Type 0) : Type 0 where
  pub name : List ℕ
  pub table : Option (KeeperState A)
  pub is_as_found : Bool
  pub is_ready : Bool
  pub faults : ℕ

abbrev pub named_code : {A : Type 0} → Coded A → Coded (NamedState A)
named_code {A} store =
    code_by (List ℕ × (Option (KeeperState A) × (Bool × (Bool × ℕ))))
    (coded× (coded_list coded_ℕ) (coded× (coded_option (keeper_code store))
    (coded× coded_bool (coded× coded_bool coded_ℕ))))
    (λ k. (k.name, (k.table, (k.is_as_found, (k.is_ready, k.faults)))))
    (λ p. record { name = p.0; table = p.1.0; is_as_found = p.1.1.0; is_ready = p.1.1.1.0; faults = p.1.1.1.1 })
    (λ _. refl)

-- the name by which a keeper was opened first, if it was
abbrev pub opened_of : {A : Type 0} → NamedState A → Option (List ℕ)
opened_of keeper = if keeper.is_ready then Some keeper.name else None

-- a list of bodies, where it is told
abbrev pub Told : Type 0
Told = Option (List (List ℕ))

-- the table of a keeper, while the database is as it was found
abbrev pub found_in : {A : Type 0} → NamedState A → Option (KeeperState A)
found_in keeper = if keeper.is_as_found then keeper.table else None

module _ {A : Type 0} (g : Ghosts A) where
  -- the bodies that a table tells, and these where none is open yet
  abbrev pub told_in : Told → Option (KeeperState A) → Told
  told_in first None = first
  told_in first (Some table) = kept (state g table.conn)

  -- the bodies that a keeper tells: before its database was opened those that are told of it, then those of the table
  -- that was found, and none once it was opened anew
  abbrev pub told_of : Told → NamedState A → Told
  told_of first keeper = if keeper.is_as_found then told_in first keeper.table else None

  -- where the disk returned what was written, a crash leaves just the bodies of a table after this change
  abbrev pub LeavesChanged : Option (KeeperState A) → Option (KeeperState A) → (List (List ℕ) → List (List ℕ)) → Type 0
  LeavesChanged None new change = ⊤
  LeavesChanged (Some old) None change = ⊥
  LeavesChanged (Some old) (Some new) change = HasCleanDisk (state g new.conn) →
      ForSome (kept (state g old.conn)) (λ bodies. LeavesJust (state g new.conn) (change bodies))

  -- where the disk returned what was written, a crash leaves what it could leave before, or the bodies of a table after
  -- this change
  abbrev pub MayLeaveChanged : Option (KeeperState A) → Option (KeeperState A)
      → (List (List ℕ) → List (List ℕ)) → Type 0
  MayLeaveChanged None new change = ⊤
  MayLeaveChanged (Some old) None change = ⊥
  MayLeaveChanged (Some old) (Some new) change = HasCleanDisk (state g new.conn) →
      ForSome (kept (state g old.conn)) (λ bodies. LeavesOr (state g old.conn) (state g new.conn) (change bodies))
