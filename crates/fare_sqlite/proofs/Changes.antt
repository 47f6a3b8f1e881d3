-- What the statements that write make of the table.
use Rattle.std.proofs.Common.{◌≡◌, ◌⊎◌, ◌∙◌, inl, inr, ℕ, ℤ, pos, List, [], ◌∷◌, Bool, true, false, not, ◌&&◌, cond, Option, None, Result, Ok, Err, refl, sym, ap, subst}
use Rattle.std.specs.List.{filter}
use Rattle.sqlite_value.specs.declared.value.Value.{Value}
use Rattle.sqlite_value.specs.declared.value.Value.TheVariants.{Null, Int, Blob}
use Rattle.sqlite_value.specs.Order.{Row}
use Rattle.sqlite_trees.specs.Tree.{Trees, put_row, rowid, without_rowid}
use Rattle.sqlite_sql.specs.Ops.{unary}
use Rattle.sqlite_schema.specs.declared.command.Command.TheVariants.{CreateTable, Insert, Update}
use Rattle.sqlite_schema.specs.declared.command.Source.TheVariants.{Values}
use Rattle.sqlite_schema.specs.declared.schema.Kind.TheVariants.{Integer}
use Rattle.sqlite_rules.specs.Cast.{cast}
use Rattle.sqlite_rules.specs.declared.error.Rowids.TheVariants.{Chosen, Given}
use Rattle.sqlite_rules.specs.Edit.{Edit, edit_of, edited, is_taken, are_fresh, left_by}
use Rattle.sqlite_rules.specs.Calls.{ids_of}
use Rattle.sqlite_catalog.specs.Change.{created}
use Rattle.sqlite.specs.declared.run.Mode.{Mode}
use Rattle.sqlite.specs.Does.{Does, Tally, lacks_sequence}
use Rattle.sqlite.specs.Effect.{Database}
use Rattle.sqlite.specs.Rows.{Written}
use Rattle.sqlite.proofs.Callers.{one_step}
use Rattle.fare_sqlite.specs.EditionTable.{blank_schema, edition_schema, edition_table}
use Rattle.fare_sqlite.proofs.Queries.{at_place, passes, row_query, shows}
use Rattle.fare_sqlite.proofs.StatementForms.{create_is, create_text, inserted_terms, updated_terms}

-- the row of a place with a body
abbrev pub stored : ℕ → List ℕ → Row
stored place body = Int (pos place) ∷ Null ∷ Blob body ∷ []

-- the parameters of an INSERT and of an UPDATE
abbrev pub given : ℕ → List ℕ → Row
given place body = Int (pos place) ∷ Blob body ∷ []

-- the database of editions with these trees
abbrev pub editions_with : Trees → Database
editions_with trees = record { schema = edition_schema; trees = trees }

either : (b : Bool) (x : Value) → cond b x x ≡ x
either true x = refl
either false x = refl

cast_null : cast Integer Null ≡ Null
unfolding unary
cast_null = either _ Null

cast_int : (n : ℤ) → cast Integer (Int n) ≡ Int n
unfolding unary
cast_int n = either _ (Int n)

-- a part that gave a value did not stop on the way
went : {B E R : Type 0} {b : B} {Stops : E → Type 0} → ((stop : E) × Stops stop × (Ok b ≡ Err stop)) ⊎ R → R
went (inl stopped) = absurd (let e = stopped.2 in cc)
went (inr on) = on

same_value : {B E : Type 0} {a b : B} → ◌≡◌ {A = Result B E} (Ok a) (Ok b) → a ≡ b
same_value e = cc

first_fresh : (a : Bool) → (not a && true) ≡ true → a ≡ false
first_fresh true e = absurd cc
first_fresh false e = refl

-- a table is made, and has no row
pub create_does : (limit : Option ℕ) (mode : Mode) (trees : Trees) (tally : Tally) (after : Database) → Does limit mode [] (record { schema = blank_schema; trees = trees }) create_text None CreateTable (Ok (tally, after)) → (after.schema ≡ edition_schema) × (after.trees 0 ≡ [])
create_does limit mode trees tally after does =
    let all = went does in
    let first = went all.1 in
    let made = first.1 in
    let both : Ok made.table ≡ Ok edition_table = sym made.defined ∙ create_is.2 in
    let same : made.table ≡ edition_table = cc in
    let schema : first.0.schema ≡ edition_schema = made.is ∙ ap (created blank_schema) same in
    let plain : lacks_sequence first.0.schema ≡ false = ap lacks_sequence schema in
    let now : after ≡ first.0 = ap (λ (p : Tally × Database). p.1) (same_value all.2) ∙ same_value (rw plain at first.2) in
    (ap (λ (d : Database). d.schema) now ∙ schema, ap (λ (d : Database). d.trees 0) now ∙ made.empty)

-- what a write of one row makes of the rows
pub record Puts (place : ℕ) (body : List ℕ) (rows : List Row) (after : Database) : Type 0 where
  pub schema : after.schema ≡ edition_schema
  pub rows_are : after.trees 0 ≡ put_row (stored place body) rows
  pub free : is_taken rows (stored place body) ≡ false

-- a row is added
pub insert_does : (limit : Option ℕ) (mode : Mode) (trees : Trees) (text : List ℕ) (place : ℕ) (body : List ℕ) (tally : Tally) (after : Database) → Does limit mode (given place body) (editions_with trees) text None (Insert 0 (Values inserted_terms 3)) (Ok (tally, after)) → Puts place body (trees 0) after
insert_does limit mode trees text place body tally after does =
    let done = went does in
    let now = ap (λ (p : Tally × Database). p.1) (same_value (went (went done.2).2).2) in
    let source = went done.1 in
    let written = went (went source.2).2 in
    let counted = went written.2 in
    let left : done.0.trees ≡ written.0 = ap (λ (it : Written). it.trees) (same_value counted.2) ∙ same_value counted.1 in
    let edit = edit_of trees edition_table [] Chosen 0 source.0 in
    let applied = one_step edition_schema _ trees written.0 edit refl written.1 in
    let news : edit.news ≡ stored place body ∷ [] = ap (λ (all : List Row). (edit_of trees edition_table [] Chosen 0 all).news) source.1.1 ∙ rw (cast_int (pos place), cast_null) refl in
    let rows = applied.rows ∙ ap (λ (all : List Row). edited trees (record { table = edition_table; gone = []; news = all })) news in
    let fresh = rw news at applied.fresh in
    record {
      schema = ap (λ (d : Database). d.schema) now;
      rows_are = ap (λ (d : Database). d.trees 0) now ∙ ap (λ (t : Trees). t 0) left ∙ rows;
      free = first_fresh (is_taken (trees 0) (stored place body)) fresh;
    }

-- the row of a place is replaced
pub update_does : (limit : Option ℕ) (mode : Mode) (trees : Trees) (text : List ℕ) (place : ℕ) (body : List ℕ) (found : Row) (tally : Tally) (after : Database) → filter (passes (at_place ∷ []) (given place body)) (trees 0) ≡ found ∷ [] → rowid found ≡ Int (pos place)
    → Does limit mode (given place body) (editions_with trees) text None (Update 0 (record { lets = []; body = row_query (at_place ∷ []) updated_terms })) (Ok (tally, after)) → Puts place body (without_rowid (pos place) (trees 0)) after
update_does limit mode trees text place body found tally after one id does =
    let done = went does in
    let now = ap (λ (p : Tally × Database). p.1) (same_value (went (went done.2).2).2) in
    let source = went done.1 in
    let written = went source.2 in
    let left : done.0.trees ≡ written.0 = ap (λ (it : Written). it.trees) (same_value written.2) in
    let shown = shows (at_place ∷ []) updated_terms trees (given place body) found source.0 one (source.1.answer Null) in
    let changed : List Row = (Int (pos place) ∷ Int (pos place) ∷ Null ∷ Blob body ∷ []) ∷ [] in
    let rows_are : source.0 ≡ changed = rw id at shown in
    let edit = edit_of trees edition_table (ids_of source.0) Given 1 source.0 in
    let made : Edit = record { table = edition_table; gone = pos place ∷ []; news = stored place body ∷ [] } in
    let casted : edit_of trees edition_table (ids_of changed) Given 1 changed ≡ made = rw (cast_int (pos place), cast_null) refl in
    let edit_is : edit ≡ made = ap (λ (all : List Row). edit_of trees edition_table (ids_of all) Given 1 all) rows_are ∙ casted in
    let applied = one_step edition_schema _ trees written.0 edit refl written.1 in
    let rows : written.0 0 ≡ edited trees made = applied.rows ∙ ap (edited trees) edit_is in
    let fresh : are_fresh (left_by trees made) made.news ≡ true = subst (λ (e : Edit). are_fresh (left_by trees e) e.news ≡ true) edit_is applied.fresh in
    record {
      schema = ap (λ (d : Database). d.schema) now;
      rows_are = ap (λ (d : Database). d.trees 0) now ∙ ap (λ (t : Trees). t 0) left ∙ rows;
      free = first_fresh (is_taken (without_rowid (pos place) (trees 0)) (stored place body)) fresh;
    }
