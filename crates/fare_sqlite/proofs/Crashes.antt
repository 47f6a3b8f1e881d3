-- What a crash leaves behind a statement that writes.
use Rattle.std.proofs.Common.{◌≡◌, ◌⊎◌, ◌∙◌, ◌+◌, ◌-◌, inl, inr, ℕ, List, [], ◌∷◌, ◌++◌, length, Some, None, Result, Ok, Err, OnOk, IsTrue, refl, sym, ap, slice_set}
use Rattle.std.specs.Option.{ForSome}
use Rattle.sqlite_value.specs.Order.{Row}
use Rattle.sqlite_trees.specs.Tree.{Trees}
use Rattle.sqlite_schema.specs.declared.command.Command.TheVariants.{Insert, Update}
use Rattle.sqlite_schema.specs.declared.command.Source.{Source}
use Rattle.sqlite_schema.specs.declared.program.Program.{Program}
use Rattle.sqlite_schema.specs.declared.command.Source.TheVariants.{Values}
use Rattle.sqlite.specs.Effect.{Database}
use Rattle.sqlite.specs.Listing.{understood}
use Rattle.sqlite.specs.State.{CommitsBy, Executes, HasCleanDisk, MayCommit, MayWrite, State}
use Rattle.sqlite.proofs.Callers.{statement_of}
use Rattle.fare_sqlite.specs.Bodies.{bodies_in}
use Rattle.fare_sqlite.specs.EditionTable.{edition_schema}
use Rattle.fare_ports.specs.Keeper.{HasPlace}
use Rattle.fare_sqlite.specs.Kept.{LeavesAsBefore, LeavesJust, LeavesOr, Speaks, Stays, kept, rows_of}
use Rattle.fare_sqlite.proofs.Changes.{given}
use Rattle.fare_sqlite.proofs.Queries.{at_place, row_query}
use Rattle.fare_sqlite.proofs.Schemas.{ours_is}
use Rattle.fare_sqlite.proofs.States.{tells, tells_bodies, told_onwards}
use Rattle.fare_sqlite.proofs.StatementForms.{insert_is, insert_plain, insert_text, inserted_terms, update_is, update_plain, update_text, updated_terms}
use Rattle.fare_sqlite.proofs.Steps.{Changes, commits_as, insert_makes, insert_ran, update_command, update_makes, update_ran}

-- what a store may leave while it is open is its last commit
abbrev pub IsLastCommit : State → Type 0
IsLastCommit s = (db : Trees) → IsTrue s.is_open → s.may_leave db → db ≡ s.committed.trees

-- after a write that ran, a crash leaves what it made
just_made : (old new : State) (change : List (List ℕ) → List (List ℕ)) → Changes old new change → IsTrue new.is_open → IsLastCommit new → (bodies : List (List ℕ)) → kept old ≡ Some bodies → LeavesJust new (change bodies)
just_made old new change made up last bodies e = λ db left.
    let now = tells_bodies old made.was_open made.before in
    let same : made.before.bodies ≡ bodies = cc in
    let trees = last db up left ∙ sym (ap (λ (d : Database). d.trees) made.settled.settled) in
    ap (λ (t : Trees). bodies_in (t 0)) trees ∙ made.holds.are ∙ ap (λ (b : List (List ℕ)). Some (change b)) same

pub insert_just : (old new : State) (at : ℕ) (body : List ℕ) (n : ℕ) → Speaks old → (IsTrue old.is_open → at ≡ length (rows_of old) + 1) → Executes insert_text (given at body) old new (Ok n) → IsLastCommit new → ForSome (kept old) (λ bodies. LeavesJust new (bodies ++ body ∷ []))
insert_just old new at body n speaks next ran last = λ bodies e.
    let made = insert_ran old new at body n (tells old bodies e).is_open speaks next ran in
    just_made old new (λ b. b ++ body ∷ []) made.0 made.1 last bodies e

pub update_just : (old new : State) (place : ℕ) (body : List ℕ) (n : ℕ) → Speaks old → ForSome (kept old) (HasPlace place) → Executes update_text (given place body) old new (Ok n) → IsLastCommit new → ForSome (kept old) (λ bodies. LeavesJust new (slice_set bodies (place - 1) body))
update_just old new place body n speaks has ran last = λ bodies e.
    let made = update_ran old new place body n (tells old bodies e).is_open speaks has ran in
    just_made old new (λ b. slice_set b (place - 1) body) made.0 made.1 last bodies e

-- a write that isn't COMMIT or RELEASE commits nothing but its own change
writes_alone : (s : State) (at : ℕ) (from : Source) (text : List ℕ) (params : Row) (db : Trees) → MayCommit s None (Insert at from) text params db → MayWrite s None (Insert at from) text params db
writes_alone s at from text params db (inl ends) =
    elim ends.0 [ inl commit ↦ absurd cc | inr release ↦ (let e = release.2 in absurd cc) ]
writes_alone s at from text params db (inr may) = may

updates_alone : (s : State) (at : ℕ) (q : Program) (text : List ℕ) (params : Row) (db : Trees) → MayCommit s None (Update at q) text params db → MayWrite s None (Update at q) text params db
updates_alone s at q text params db (inl ends) =
    elim ends.0 [ inl commit ↦ absurd cc | inr release ↦ (let e = release.2 in absurd cc) ]
updates_alone s at q text params db (inr may) = may

-- what a crash leaves after the two writes
pub insert_leaves : (old new : State) (at : ℕ) (body : List ℕ) → Speaks old → (IsTrue old.is_open → at ≡ length (rows_of old) + 1) → ((db : Trees) → new.may_leave db → old.may_leave db ⊎ CommitsBy insert_text (given at body) old db) → ForSome (kept old) (λ bodies. LeavesOr old new (bodies ++ body ∷ []))
insert_leaves old new at body speaks next crash = λ bodies e db left.
    elim (crash db left) [
      | inl was ↦ inl was
      | inr ran ↦ (
          let up = (tells old bodies e).is_open in
          let it = speaks up in
          let now = tells_bodies old up it in
          let same : it.bodies ≡ bodies = cc in
          let place = length (rows_of old) + 1 in
          let commits : CommitsBy insert_text (given place body) old db = rw (next up) at ran in
          let text = statement_of insert_text (understood edition_schema insert_text) in
          let may = commits_as insert_text (given place body) old edition_schema (ours_is old.now.schema it.table.ours) (Insert 0 (Values inserted_terms 3)) insert_is insert_plain db commits in
          let wrote = writes_alone old 0 (Values inserted_terms 3) text (given place body) db may in
          let holds = insert_makes old it place body text wrote.1 wrote.2 refl wrote.3 in
          inr (ap (λ (t : Trees). bodies_in (t 0)) wrote.5 ∙ holds.are ∙ ap (λ (b : List (List ℕ)). Some (b ++ body ∷ [])) same)
          )
    ]

pub update_leaves : (old new : State) (place : ℕ) (body : List ℕ) → Speaks old → ForSome (kept old) (HasPlace place) → ((db : Trees) → new.may_leave db → old.may_leave db ⊎ CommitsBy update_text (given place body) old db) → ForSome (kept old) (λ bodies. LeavesOr old new (slice_set bodies (place - 1) body))
update_leaves old new place body speaks has crash = λ bodies e db left.
    elim (crash db left) [
      | inl was ↦ inl was
      | inr commits ↦ (
          let up = (tells old bodies e).is_open in
          let it = speaks up in
          let now = tells_bodies old up it in
          let same : it.bodies ≡ bodies = cc in
          let text = statement_of update_text (understood edition_schema update_text) in
          let may = commits_as update_text (given place body) old edition_schema (ours_is old.now.schema it.table.ours) update_command update_is update_plain db commits in
          let wrote = updates_alone old 0 (record { lets = []; body = row_query (at_place ∷ []) updated_terms }) text (given place body) db may in
          let holds = update_makes old it place body text wrote.1 wrote.2 (has it.bodies now) wrote.3 in
          inr (ap (λ (t : Trees). bodies_in (t 0)) wrote.5 ∙ holds.are ∙ ap (λ (b : List (List ℕ)). Some (slice_set b (place - 1) body)) same)
          )
    ]

-- a call that only read, and then one that wrote, over a crash
pub leaves_still : (old new : State) (change : List (List ℕ) → List (List ℕ)) → LeavesAsBefore old new → HasCleanDisk new → ForSome (kept old) (λ bodies. LeavesOr old new (change bodies))
leaves_still old new change leaves clean = λ bodies e db left. inl (leaves.crash clean (tells old bodies e).is_open db left)

pub leaves_then : (old middle new : State) (change : List (List ℕ) → List (List ℕ)) → Stays old middle → (HasCleanDisk middle → IsTrue middle.is_open) → LeavesAsBefore old middle → (HasCleanDisk new → HasCleanDisk middle)
    → (HasCleanDisk new → ForSome (kept middle) (λ bodies. LeavesOr middle new (change bodies))) → HasCleanDisk new → ForSome (kept old) (λ bodies. LeavesOr old new (change bodies))
leaves_then old middle new change stays opened leaves was crash clean = λ bodies e db left.
    let whole = was clean in
    let there = told_onwards old middle stays (opened whole) bodies e in
    elim (crash clean bodies there db left) [
      | inl before ↦ inl (leaves.crash whole (tells old bodies e).is_open db before)
      | inr made ↦ inr made
    ]

pub just_then : {T E : Type 0} (answer : Result T E) (old middle new : State) (change : List (List ℕ) → List (List ℕ)) → Stays old middle → (HasCleanDisk middle → IsTrue middle.is_open) → (HasCleanDisk new → HasCleanDisk middle)
    → OnOk answer (HasCleanDisk new → ForSome (kept middle) (λ bodies. LeavesJust new (change bodies))) → OnOk answer (HasCleanDisk new → ForSome (kept old) (λ bodies. LeavesJust new (change bodies)))
just_then (Err e) old middle new change stays opened was just = tt
just_then (Ok value) old middle new change stays opened was just = λ clean bodies e.
    just clean bodies (told_onwards old middle stays (opened (was clean)) bodies e)
