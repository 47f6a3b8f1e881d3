-- What an answer says that the connection is closed.
use Rattle.std.proofs.Common.{◌≡◌, inl, inr, ℕ, List, [], false, Some, None, Result, Ok, Err, IfOk, IfErr, IsTrue, refl, subst}
use Rattle.sqlite_value.specs.Order.{Row}
use Rattle.sqlite_trees.specs.declared.error.StoreError.{StoreError}
use Rattle.sqlite_trees.specs.declared.error.StoreError.TheVariants.{OutOfMemory, Io, Corrupt, Full, Broken, Unstorable}
use Rattle.sqlite.specs.declared.error.Error.{Error}
use Rattle.sqlite.specs.declared.error.Error.TheVariants.{SqliteFailure}
use Rattle.sqlite.specs.declared.error.ErrorCode.TheVariants as code
use Rattle.sqlite.specs.State.{HasCause, HasCleanDisk, IsNoStatement, IsNotRun, IsUnchanged, State, store_error}
use Rattle.fare_sqlite.specs.Kept.{IsSettled, Stays, kept}
use Rattle.fare_sqlite.proofs.States.{Told, IsQuiet, not_run_quiet, open_is_clean, stays_quiet, tells}

-- the error of a connection that is shut
abbrev pub closed : Error
closed = SqliteFailure code.Closed

no_statement : (s : State) (sql : List ℕ) (params : Row) → IsNoStatement s sql params closed → ⊥
no_statement s sql params (inl h) = let e = h.2 in cc
no_statement s sql params (inr (c, is, inl h)) = let e = h.1 in cc
no_statement s sql params (inr (c, is, inr (inl h))) = let e = h.1 in cc
no_statement s sql params (inr (c, is, inr (inr h))) = let e = h.1 in cc

only_broken : (old new : State) (cause : StoreError) → closed ≡ store_error cause → HasCause old new ⊥ cause → old.is_open ≡ false
only_broken old new OutOfMemory e why = absurd cc
only_broken old new Io e why = absurd cc
only_broken old new Corrupt e why = absurd cc
only_broken old new Full e why = absurd cc
only_broken old new Broken e why = why
only_broken old new Unstorable e why = absurd cc

was_shut : (old new : State) (sql : List ℕ) (params : Row) → IsNotRun old new sql params closed → IsTrue new.is_open → ⊥
unfolding IsNotRun
was_shut old new sql params (inl h) up = no_statement old sql params h.0
was_shut old new sql params (inr h) up =
    let down = only_broken old new h.0 h.1 h.2 in
    let was = h.3.was_open up in cc

-- a connection that isn't open keeps nothing
keeps_nothing : (s : State) → (IsTrue s.is_open → ⊥) → kept s ≡ None
keeps_nothing s shut = at (kept s) refl
  where
    at : (o : Told) → kept s ≡ o → o ≡ None
    at None e = refl
    at (Some bodies) e = absurd (shut (tells s bodies e).is_open)

-- where a statement is answered that the connection is closed, it keeps nothing
pub closed_keeps_nothing : {A : Type 0} (answer : Result A Error) (old new : State) (sql : List ℕ) → (new.is_clean ≡ false → new.is_open ≡ false) → (HasCleanDisk new → IfErr answer (λ e. (params : Row) → IsNotRun old new sql params e)) → answer ≡ Err closed → kept new ≡ None
closed_keeps_nothing answer old new sql shut said is = keeps_nothing new (λ up.
    let not_run = subst (λ r. IfErr r (λ e. (params : Row) → IsNotRun old new sql params e)) is (said (open_is_clean new shut up)) in
    was_shut old new sql [] (not_run []) up)

-- a statement that is compiled and not run leaves a connection
prepared_quiet : {A : Type 0} (answer : Result A Error) (old new : State) (sql : List ℕ) (P : A → Type 0) → IfOk answer (λ s. P s × IsUnchanged old new) → IfErr answer (λ e. (params : Row) → IsNotRun old new sql params e) → IsQuiet old new
prepared_quiet (Ok value) old new sql P ok err = inl ok.1
prepared_quiet (Err e) old new sql P ok err = not_run_quiet old new sql [] e (err [])

pub prepared_stays : {A : Type 0} (answer : Result A Error) (old new : State) (sql : List ℕ) (P : A → Type 0) → (new.is_clean ≡ false → new.is_open ≡ false) → (IsTrue old.is_open → IsSettled old)
    → (HasCleanDisk new → IfOk answer (λ s. P s × IsUnchanged old new)) → (HasCleanDisk new → IfErr answer (λ e. (params : Row) → IsNotRun old new sql params e)) → Stays old new
prepared_stays answer old new sql P shut settled ok err = stays_quiet old new shut settled (λ clean. prepared_quiet answer old new sql P (ok clean) (err clean))
