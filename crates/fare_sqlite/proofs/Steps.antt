-- What the statements make of the bodies of a connection that keeps some.
use Rattle.std.proofs.Common.{◌≡◌, ◌∙◌, ◌<◌, ◌+◌, ◌-◌, inl, inr, ℕ, ℤ, pos, List, [], ◌∷◌, ◌++◌, length, get_or, Bool, true, false, Option, Some, None, Ok, Err, MatchBool, IsTrue, refl, sym, ap, subst, subst₂, append-nil, arith, slice_set}
use Rattle.std.specs.List.{All, filter}
use Rattle.std.specs.Option.{ForSome}
use Rattle.std.proofs.lemmas.List.Elements.{filter_agree, filter_passes}
use Rattle.sqlite_value.specs.declared.value.Value.{Value}
use Rattle.sqlite_value.specs.declared.value.Value.TheVariants as value
use Rattle.sqlite_value.specs.declared.value.Value.TheVariants.{Int, Blob}
use Rattle.sqlite_value.specs.Order.{Row, column}
use Rattle.sqlite_trees.specs.Tree.{Trees, has_rowid, rowid, without_rowid}
use Rattle.sqlite_schema.specs.declared.command.Command.{Command}
use Rattle.sqlite_schema.specs.declared.command.Command.TheVariants as command
use Rattle.sqlite_schema.specs.declared.command.Command.TheVariants.{CreateTable, Insert, Update, Commit, Release}
use Rattle.sqlite_schema.specs.declared.command.Returning.{Returning}
use Rattle.sqlite_resolve.specs.declared.compiled.Compiled.{Compiled}
use Rattle.sqlite_schema.specs.declared.command.Source.TheVariants.{Values}
use Rattle.sqlite_schema.specs.declared.schema.Schema.{Schema}
use Rattle.sqlite_sql.specs.Aggregate.{count}
use Rattle.sqlite_sql.specs.Term.{col}
use Rattle.sqlite.specs.declared.error.Error.TheVariants.{ExecuteReturnedResults}
use Rattle.sqlite.specs.Does.{Does, Tally}
use Rattle.sqlite.specs.Effect.{Database}
use Rattle.sqlite.specs.Listing.{understood}
use Rattle.sqlite.specs.State.{CommitsBy, Executes, MayCommit, QueriesRow, State, Writes, mode_of, text_of, ExecutesIn, IsUnchanged, Runs, RunsCommand, shows_rows}
use Rattle.sqlite.proofs.Callers.{IsPlain, command_of, first_as, runs_as, statement_of}
use Rattle.fare_sqlite.specs.Bodies.{blob_of, bodies_in, body_of, has_no_body, placed_body, rows_at}
use Rattle.fare_sqlite.specs.EditionTable.{blank_schema, edition_schema}
use Rattle.fare_ports.specs.Keeper.{BodiesStay, HasPlace, ToldAfter}
use Rattle.fare_sqlite.specs.Kept.{HasBodies, HasTable, IsSettled, Speaks, bodies_of, kept, rows_of}
use Rattle.fare_sqlite.specs.Ours.{is_blank, is_ours}
use Rattle.fare_sqlite.proofs.Changes.{Puts, create_does, given, insert_does, stored, update_does}
use Rattle.fare_sqlite.proofs.Places.{appended, bodies_are, counted_out, replaced, row_there}
use Rattle.fare_sqlite.proofs.Queries.{at_place, counts, no_body, passes, passes_at, passes_no_body, picks, row_query}
use Rattle.fare_sqlite.proofs.Rows.{same_place}
use Rattle.fare_sqlite.proofs.Schemas.{blank_is, edition_is_ours, ours_is}
use Rattle.fare_sqlite.proofs.States.{Told, tells, tells_bodies, told, told_stays}
use Rattle.fare_sqlite.proofs.StatementForms.{body_name, count_at_is, count_at_plain, count_at_text, count_is, count_name, count_plain, count_text, create_is, create_plain, create_text, insert_is, insert_plain, insert_text, inserted_terms, others_is, others_plain, others_text, select_is, select_plain, select_text, update_is, update_plain, update_text, updated_terms}

-- a statement is understood alike under one schema
pub plain_under : (sql : List ℕ) (s : State) (schema : Schema) → s.now.schema ≡ schema → IsPlain (understood schema sql) → IsPlain (understood s.now.schema sql)
plain_under sql s schema has plain = subst (λ k. IsPlain (understood k sql)) (sym has) plain

-- the statements are plain over a table of editions
pub plain_table : (sql : List ℕ) (s : State) → IsPlain (understood edition_schema sql) → HasTable s → IsPlain (understood s.now.schema sql)
plain_table sql s plain table = plain_under sql s edition_schema (ours_is s.now.schema table.ours) plain

pub all_pass : (params : Row) (rows : List Row) → filter (passes [] params) rows ≡ rows
all_pass params [] = refl
all_pass params (row ∷ rows) = ap (λ (more : List Row). row ∷ more) (all_pass params rows)

-- what is counted
pub counted : (old new : State) (row : Row) → HasTable old → QueriesRow count_text [] old new (Ok row) → column row 0 ≡ count (length (filter (passes [] []) (rows_of old)))
counted old new row table h =
    counts [] count_name old.now [] row (first_as count_text [] old new edition_schema (ours_is old.now.schema table.ours) _ count_is.0 count_plain count_is.1 row h)

pub counted_others : (old new : State) (row : Row) → HasTable old → QueriesRow others_text [] old new (Ok row) → column row 0 ≡ count (length (filter has_no_body (rows_of old)))
counted_others old new row table h =
    let got = counts (no_body ∷ []) count_name old.now [] row (first_as others_text [] old new edition_schema (ours_is old.now.schema table.ours) _ others_is.0 others_plain others_is.1 row h) in
    let same = filter_agree (passes (no_body ∷ []) []) has_no_body (λ r. passes_no_body [] r) (rows_of old) in
    got ∙ ap (λ (rows : List Row). count (length rows)) same

pub counted_at : (old new : State) (place : ℕ) (row : Row) → HasTable old → QueriesRow count_at_text (Int (pos place) ∷ []) old new (Ok row) → column row 0 ≡ count (length (rows_at place (rows_of old)))
counted_at old new place row table h =
    let got = counts (at_place ∷ []) count_name old.now (Int (pos place) ∷ []) row (first_as count_at_text (Int (pos place) ∷ []) old new edition_schema (ours_is old.now.schema table.ours) _ count_at_is.0 count_at_plain count_at_is.1 row h) in
    let same = filter_agree (passes (at_place ∷ []) (Int (pos place) ∷ [])) (has_rowid (pos place)) (λ r. passes_at place [] r) (rows_of old) in
    got ∙ ap (λ (rows : List Row). count (length rows)) same

-- what is selected
pub selected : (old new : State) (place : ℕ) (row : Row) → (it : HasBodies old) → HasPlace place it.bodies → QueriesRow select_text (Int (pos place) ∷ []) old new (Ok row) → (found : Row) × (rows_at place (rows_of old) ≡ found ∷ []) × (body_of found ≡ Some (get_or it.bodies (place - 1) [])) × (row ≡ column found 2 ∷ [])
selected old new place row it has h =
    let there = row_there (rows_of old) it.bodies place it.are has.0 has.1 in
    let same = filter_agree (passes (at_place ∷ []) (Int (pos place) ∷ [])) (has_rowid (pos place)) (λ r. passes_at place [] r) (rows_of old) in
    let read = first_as select_text (Int (pos place) ∷ []) old new edition_schema (ours_is old.now.schema it.table.ours) _ select_is.0 select_plain select_is.1 row h in
    (there.0, there.1, there.2, picks (at_place ∷ []) (col 1 2 ∷ []) body_name old.now (Int (pos place) ∷ []) there.0 row (same ∙ there.1) read)

-- what a statement commits
module _ (sql : List ℕ) (params : Row) (s : State) (schema : Schema) (has : s.now.schema ≡ schema) (command : Command) (is : command_of (understood schema sql) ≡ command)
    (plain : IsPlain (understood schema sql)) where
  pub commits_as : (db : Trees) → CommitsBy sql params s db → MayCommit s None command (statement_of sql (understood schema sql)) params db
  unfolding CommitsBy
  commits_as db h =
      let known = sym h.1.is ∙ ap (λ k. understood k sql) has in
      let bare = subst IsPlain (sym known) plain in
      let may = rw (bare.0, bare.1, append-nil params) at h.2 in
      subst₂ (λ k t. MayCommit s None k t params db) (ap command_of known ∙ is) (ap (statement_of sql) known) may

-- the bodies after a write, in a database and in what is told
pub record Holds (db : Database) (bodies : List (List ℕ)) : Type 0 where
  pub ours : is_ours db.schema ≡ true
  pub are : bodies_in (db.trees 0) ≡ Some bodies

-- a body that counts has a whole number before it
int_there : (v : Value) (body : Option (List ℕ)) (bytes : List ℕ) → placed_body v body ≡ Some bytes → (n : ℤ) × (v ≡ Int n)
int_there value.Null body bytes e = absurd cc
int_there (Int n) body bytes e = (n, refl)
int_there (value.Real x) body bytes e = absurd cc
int_there (value.Text t) body bytes e = absurd cc
int_there (Blob b) body bytes e = absurd cc

-- the one row that an UPDATE changes
to_change : (s : State) (it : HasBodies s) (place : ℕ) (body : List ℕ) → HasPlace place it.bodies → (found : Row) × (filter (passes (at_place ∷ []) (given place body)) (rows_of s) ≡ found ∷ []) × (rowid found ≡ Int (pos place))
to_change s it place body has =
    let there = row_there (rows_of s) it.bodies place it.are has.0 has.1 in
    let same = filter_agree (passes (at_place ∷ []) (given place body)) (has_rowid (pos place)) (λ r. passes_at place (Blob body ∷ []) r) (rows_of s) in
    let each : All (λ r. has_rowid (pos place) r ≡ true) (there.0 ∷ []) = subst (All (λ r. has_rowid (pos place) r ≡ true)) there.1 (filter_passes (has_rowid (pos place)) (rows_of s)) in
    let here : has_rowid (pos place) there.0 ≡ true = each 0 there.0 (omega arith) in
    let int = int_there (column there.0 0) (blob_of (column there.0 2)) (get_or it.bodies (place - 1) []) there.2 in
    (there.0, same ∙ there.1, same_place there.0 int.0 place int.1 here)

-- the bodies after a row was put
inserted_holds : (s : State) (it : HasBodies s) (place : ℕ) (body : List ℕ) (after : Database) → place ≡ length (rows_of s) + 1 → Puts place body (rows_of s) after → Holds after (it.bodies ++ body ∷ [])
inserted_holds s it place body after next puts = record {
  ours = ap is_ours puts.schema ∙ edition_is_ours.0;
  are = ap bodies_in puts.rows_are ∙ appended (rows_of s) it.bodies (stored place body) body it.are (ap (λ (n : ℕ). Int (pos n)) next) refl puts.free;
}

updated_holds : (s : State) (it : HasBodies s) (place : ℕ) (body : List ℕ) (after : Database) → HasPlace place it.bodies → Puts place body (without_rowid (pos place) (rows_of s)) after → Holds after (slice_set it.bodies (place - 1) body)
updated_holds s it place body after has puts = record {
  ours = ap is_ours puts.schema ∙ edition_is_ours.0;
  are = ap bodies_in puts.rows_are ∙ replaced (rows_of s) it.bodies place (stored place body) body it.are has.0 has.1 refl refl puts.free;
}

-- what the two writes make of the database
pub insert_makes : (s : State) (it : HasBodies s) (place : ℕ) (body : List ℕ) (text : List ℕ) (tally : Tally) (after : Database) → place ≡ length (rows_of s) + 1 → Does s.step_limit (mode_of s) (given place body) s.now text None (Insert 0 (Values inserted_terms 3)) (Ok (tally, after)) → Holds after (it.bodies ++ body ∷ [])
insert_makes s it place body text tally after next does =
    let has = ours_is s.now.schema it.table.ours in
    let known = subst (λ k. Does s.step_limit (mode_of s) (given place body) (record s.now { schema = k }) text None (Insert 0 (Values inserted_terms 3)) (Ok (tally, after))) has does in
    inserted_holds s it place body after next (insert_does s.step_limit (mode_of s) s.now.trees text place body tally after known)

pub update_makes : (s : State) (it : HasBodies s) (place : ℕ) (body : List ℕ) (text : List ℕ) (tally : Tally) (after : Database) → HasPlace place it.bodies → Does s.step_limit (mode_of s) (given place body) s.now text None (Update 0 (record { lets = []; body = row_query (at_place ∷ []) updated_terms })) (Ok (tally, after)) → Holds after (slice_set it.bodies (place - 1) body)
update_makes s it place body text tally after place_is does =
    let has = ours_is s.now.schema it.table.ours in
    let row = to_change s it place body place_is in
    let known = subst (λ k. Does s.step_limit (mode_of s) (given place body) (record s.now { schema = k }) text None (Update 0 (record { lets = []; body = row_query (at_place ∷ []) updated_terms })) (Ok (tally, after))) has does in
    updated_holds s it place body after place_is (update_does s.step_limit (mode_of s) s.now.trees text place body row.0 tally after row.1 row.2 known)

-- a connection that is open after a command was open before it
runs_open : (old new : State) (returning : Option Returning) (command : Command) (text : List ℕ) (params : Row) (n : ℕ) → Runs old new returning command text params n → IsTrue new.is_open → IsTrue old.is_open
runs_open old new returning (command.Select q names) text params n h up = absurd h
runs_open old new returning (Insert at from) text params n h up = h.shown.was_open
runs_open old new returning (command.InsertOr at how from clauses) text params n h up = h.shown.was_open
runs_open old new returning (Update at q) text params n h up = h.shown.was_open
runs_open old new returning (command.Delete at q) text params n h up = h.shown.was_open
runs_open old new returning CreateTable text params n h up = h.shown.was_open
runs_open old new returning (command.CreateIndex at) text params n h up = h.shown.was_open
runs_open old new returning (command.DropTable at) text params n h up = h.shown.was_open
runs_open old new returning (command.DropIndex at) text params n h up = h.shown.was_open
runs_open old new returning command.Begin text params n h up = h.1.was_open
runs_open old new returning Commit text params n h up = h.1.was_open
runs_open old new returning command.Rollback text params n h up = h.1.was_open up
runs_open old new returning (command.Savepoint name) text params n h up = h.0.0.was_open
runs_open old new returning (Release name) text params n h up = elim h.2 [ inl ends ↦ ends.1.0.was_open | inr drops ↦ drops.1.0.was_open ]
runs_open old new returning (command.RollbackTo name) text params n h up = h.2.2.was_open
runs_open old new returning (command.Rows values width names) text params n h up = h.0.0.was_open
runs_open old new returning command.Nothing text params n h up = h.0.0.was_open
runs_open old new returning command.CreateView text params n h up = h.shown.was_open
runs_open old new returning (command.DropView at) text params n h up = h.shown.was_open

alone_open : (shows : Bool) (old new : State) (sql : List ℕ) (c : Compiled) (params : Row) (n : ℕ) → MatchBool shows ((Ok n ≡ Err ExecuteReturnedResults) × IsUnchanged old new) (RunsCommand old new sql c params (Ok n)) → IsTrue new.is_open → IsTrue old.is_open
alone_open true old new sql c params n h up = h.1.0.was_open
alone_open false old new sql c params n h up = runs_open old new c.returning c.command (text_of sql c) params n h up

pub executes_open : (sql : List ℕ) (params : Row) (old new : State) (n : ℕ) → Executes sql params old new (Ok n) → IsTrue new.is_open → IsTrue old.is_open
unfolding ExecutesIn
executes_open sql params old new n h up = alone_open (shows_rows false h.0) old new sql h.0 _ n h.2 up

-- a write outside a transaction is committed
written : (old new : State) (command : Command) (text : List ℕ) (params : Row) (n : ℕ) → Writes old new None command text params n → IsSettled old → IsSettled new
written old new command text params n w before =
    let committed : new.committed ≡ new.now = rw before.outside at w.shown.committed_is in
    record { outside = w.shown.mode ∙ before.outside; settled = sym committed }

abbrev pub has_bodies : (s : State) (bodies : List (List ℕ)) → IsSettled s → Holds s.now bodies → HasBodies s
has_bodies s bodies settled holds = record { table = record { settled = settled; ours = holds.ours }; bodies = bodies; are = holds.are }

-- what a write made of the bodies of a connection that was open, and is
pub record Changes (old new : State) (change : List (List ℕ) → List (List ℕ)) : Type 0 where
  pub before : HasBodies old
  pub was_open : IsTrue old.is_open
  pub settled : IsSettled new
  pub holds : Holds new.now (change before.bodies)

-- what an INSERT and an UPDATE that ran made
pub insert_ran : (old new : State) (at : ℕ) (body : List ℕ) (n : ℕ) → IsTrue old.is_open → Speaks old → (IsTrue old.is_open → at ≡ length (rows_of old) + 1) → Executes insert_text (given at body) old new (Ok n) → Changes old new (λ bodies. bodies ++ body ∷ []) × IsTrue new.is_open
insert_ran old new at body n was speaks next ran =
    let it = speaks was in
    let place = length (rows_of old) + 1 in
    let h : Executes insert_text (given place body) old new (Ok n) = rw (next was) at ran in
    let w = runs_as insert_text (given place body) old new edition_schema (ours_is old.now.schema it.table.ours) (Insert 0 (Values inserted_terms 3)) insert_is insert_plain n h in
    let text = statement_of insert_text (understood edition_schema insert_text) in
    let made : Changes old new (λ bodies. bodies ++ body ∷ []) = record {
      before = it;
      was_open = was;
      settled = written old new (Insert 0 (Values inserted_terms 3)) text (given place body) n w it.table.settled;
      holds = insert_makes old it place body text w.tally new.now refl w.changed;
    } in
    (made, w.shown.is_open)

pub insert_changes : (old new : State) (at : ℕ) (body : List ℕ) (n : ℕ) → Speaks old → (IsTrue old.is_open → at ≡ length (rows_of old) + 1) → Executes insert_text (given at body) old new (Ok n) → IsTrue new.is_open → Changes old new (λ bodies. bodies ++ body ∷ [])
insert_changes old new at body n speaks next ran up =
    (insert_ran old new at body n (executes_open insert_text (given at body) old new n ran up) speaks next ran).0

abbrev pub update_command : Command
update_command = Update 0 (record { lets = []; body = row_query (at_place ∷ []) updated_terms })

pub update_ran : (old new : State) (place : ℕ) (body : List ℕ) (n : ℕ) → IsTrue old.is_open → Speaks old → ForSome (kept old) (HasPlace place) → Executes update_text (given place body) old new (Ok n) → Changes old new (λ bodies. slice_set bodies (place - 1) body) × IsTrue new.is_open
update_ran old new place body n was speaks has h =
    let it = speaks was in
    let place_is = has it.bodies (tells_bodies old was it) in
    let w = runs_as update_text (given place body) old new edition_schema (ours_is old.now.schema it.table.ours) update_command update_is update_plain n h in
    let text = statement_of update_text (understood edition_schema update_text) in
    let made : Changes old new (λ bodies. slice_set bodies (place - 1) body) = record {
      before = it;
      was_open = was;
      settled = written old new update_command text (given place body) n w it.table.settled;
      holds = update_makes old it place body text w.tally new.now place_is w.changed;
    } in
    (made, w.shown.is_open)

pub update_changes : (old new : State) (place : ℕ) (body : List ℕ) (n : ℕ) → Speaks old → ForSome (kept old) (HasPlace place) → Executes update_text (given place body) old new (Ok n) → IsTrue new.is_open → Changes old new (λ bodies. slice_set bodies (place - 1) body)
update_changes old new place body n speaks has h up =
    (update_ran old new place body n (executes_open update_text (given place body) old new n h up) speaks has h).0

-- what a keeper tells after a write
told_by : (before after : Told) (change : List (List ℕ) → List (List ℕ) → Type 0) → ((bodies : List (List ℕ)) → after ≡ Some bodies → (old : List (List ℕ)) × (before ≡ Some old) × change old bodies) → ToldAfter before after change
told_by before None change back = tt
told_by None (Some new) change back = let e = (back new refl).1 in absurd cc
told_by (Some old) (Some new) change back =
    let it = back new refl in
    let same : it.0 ≡ old = cc in
    rw same at it.2

pub changed_told : (old new : State) (change : List (List ℕ) → List (List ℕ)) → (IsTrue new.is_open → Changes old new change) → ToldAfter (kept old) (kept new) (λ before after. after ≡ change before)
changed_told old new change made = told_by (kept old) (kept new) (λ before after. after ≡ change before) (λ bodies e.
    let up = (tells new bodies e).is_open in
    let it = made up in
    let now = tells_bodies new up (has_bodies new (change it.before.bodies) it.settled it.holds) in
    let same : bodies ≡ change it.before.bodies = cc in
    (it.before.bodies, tells_bodies old it.was_open it.before, same))

pub changed_speaks : (old new : State) (change : List (List ℕ) → List (List ℕ)) → (IsTrue new.is_open → Changes old new change) → Speaks new
changed_speaks old new change made = λ up. let it = made up in has_bodies new (change it.before.bodies) it.settled it.holds

-- the table that was made in a blank database
pub record Made (old new : State) : Type 0 where
  pub was_open : IsTrue old.is_open
  pub settled : IsSettled new
  pub holds : Holds new.now []

no_rows : (rows : List Row) → rows ≡ [] → bodies_in rows ≡ Some []
no_rows rows e = bodies_are rows [] (record { many = ap length (sym e); each = λ k within. absurd (omega arith) })

pub create_makes : (old new : State) (n : ℕ) → (IsTrue old.is_open → IsSettled old) → is_blank old.now.schema ≡ true → Executes create_text [] old new (Ok n) → Made old new
create_makes old new n settled blank h =
    let has = blank_is old.now.schema blank in
    let w = subst (λ t. Writes old new None CreateTable t [] n) create_is.1 (runs_as create_text [] old new blank_schema has CreateTable create_is.0 create_plain n h) in
    let known = subst (λ k. Does old.step_limit (mode_of old) [] (record old.now { schema = k }) create_text None CreateTable (Ok (w.tally, new.now))) has w.changed in
    let made = create_does old.step_limit (mode_of old) old.now.trees w.tally new.now known in
    record {
      was_open = w.shown.was_open;
      settled = written old new CreateTable create_text [] n w (settled w.shown.was_open);
      holds = record { ours = ap is_ours made.0 ∙ edition_is_ours.0; are = no_rows (new.now.trees 0) made.1 };
    }

-- a blank database keeps nothing, and neither does one in which the table was just made
pub made_told : (old new : State) → (IsTrue old.is_open → IsSettled old) → is_blank old.now.schema ≡ true → Made old new → ToldAfter (kept old) (kept new) BodiesStay
made_told old new settled blank made = told_stays (kept old) (kept new) (λ bodies k.
    let now = tells new bodies k in
    let keeps = tells_bodies new now.is_open (has_bodies new [] made.settled made.holds) in
    let none : bodies ≡ [] = cc in
    let empty : bodies_of old.now ≡ Some [] = rw blank refl in
    told old bodies (record { is_open = made.was_open; outside = (settled made.was_open).outside; are = empty ∙ ap (λ (b : List (List ℕ)). Some b) (sym none) }))

-- a database that is blank holds no table of editions
pub not_blank : (s : State) → is_blank s.now.schema ≡ true → HasTable s → ⊥
not_blank s blank table =
    let other : is_blank s.now.schema ≡ false = ap is_blank (ours_is s.now.schema table.ours) ∙ edition_is_ours.1 in
    let clash : true ≡ false = sym blank ∙ other in cc

-- rows that were counted out stand for bodies
pub counted_speaks : (s : State) → HasTable s → length (filter has_no_body (rows_of s)) ≡ 0 → ((k : ℕ) → k < length (rows_of s) → length (rows_at (k + 1) (rows_of s)) ≡ 1) → HasBodies s
counted_speaks s table none each =
    let found = counted_out (rows_of s) none each in
    record { table = table; bodies = found.0; are = found.1 }
