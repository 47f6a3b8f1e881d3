-- What the statements on the table are.
use Rattle.std.proofs.Common.{◌≡◌, refl, ℕ, List, [], ◌∷◌, codes, Ok, false}
use Rattle.sqlite_value.specs.declared.value.Value.TheVariants.{Null}
use Rattle.sqlite_schema.specs.declared.command.Command.TheVariants.{CreateTable, Insert, Select, Update}
use Rattle.sqlite_schema.specs.declared.command.Source.TheVariants.{Values}
use Rattle.sqlite_sql.specs.Term.{Term, col, lit}
use Rattle.sqlite_resolve.specs.Compile.{table_defined_by}
use Rattle.sqlite_tied.specs.Compute.{everything}
use Rattle.sqlite.specs.Listing.{understood, reads_listing}
use Rattle.sqlite.proofs.Callers.{IsPlain, command_of, statement_of}
use Rattle.fare_sqlite.specs.EditionTable.{edition_table, edition_schema, blank_schema}
use Rattle.fare_sqlite.proofs.Queries.{at_place, count_query, no_body, row_query}

abbrev pub create_text : List ℕ
create_text = codes "CREATE TABLE IF NOT EXISTS edition(place INTEGER PRIMARY KEY, body BLOB NOT NULL)"

abbrev pub count_text : List ℕ
count_text = codes "SELECT count(*) FROM edition"

abbrev pub others_text : List ℕ
others_text = codes "SELECT count(*) FROM edition WHERE typeof(place) <> 'integer' OR typeof(body) <> 'blob'"

abbrev pub count_at_text : List ℕ
count_at_text = codes "SELECT count(*) FROM edition WHERE place = ?1"

abbrev pub select_text : List ℕ
select_text = codes "SELECT body FROM edition WHERE place = ?1"

abbrev pub insert_text : List ℕ
insert_text = codes "INSERT INTO edition (place, body) VALUES (?1, ?2)"

abbrev pub update_text : List ℕ
update_text = codes "UPDATE edition SET body = ?2 WHERE place = ?1"

abbrev pub count_name : List (List ℕ)
count_name = codes "count(*)" ∷ []

abbrev pub body_name : List (List ℕ)
body_name = codes "body" ∷ []

-- the row of an INSERT, and the row of an UPDATE behind its old rowid
abbrev pub inserted_terms : List Term
inserted_terms = col 0 0 ∷ lit Null ∷ col 0 1 ∷ []

abbrev pub updated_terms : List Term
updated_terms = col 1 0 ∷ col 1 0 ∷ lit Null ∷ col 0 1 ∷ []

pub create_is : (command_of (understood blank_schema create_text) ≡ CreateTable) × (statement_of create_text (understood blank_schema create_text) ≡ create_text) × (table_defined_by create_text ≡ Ok edition_table)
unfolding understood everything
create_is = (refl, refl, refl)

pub create_plain : IsPlain (understood blank_schema create_text)
unfolding understood everything
create_plain = (refl, refl)

pub count_is : (command_of (understood edition_schema count_text) ≡ Select (record { lets = []; body = count_query [] }) count_name) × (reads_listing edition_schema count_text ≡ false)
unfolding understood everything
count_is = (refl, refl)

pub count_plain : IsPlain (understood edition_schema count_text)
unfolding understood everything
count_plain = (refl, refl)

pub others_is : (command_of (understood edition_schema others_text) ≡ Select (record { lets = []; body = count_query (no_body ∷ []) }) count_name) × (reads_listing edition_schema others_text ≡ false)
unfolding understood everything
others_is = (refl, refl)

pub others_plain : IsPlain (understood edition_schema others_text)
unfolding understood everything
others_plain = (refl, refl)

pub count_at_is : (command_of (understood edition_schema count_at_text) ≡ Select (record { lets = []; body = count_query (at_place ∷ []) }) count_name) × (reads_listing edition_schema count_at_text ≡ false)
unfolding understood everything
count_at_is = (refl, refl)

pub count_at_plain : IsPlain (understood edition_schema count_at_text)
unfolding understood everything
count_at_plain = (refl, refl)

pub select_is : (command_of (understood edition_schema select_text) ≡ Select (record { lets = []; body = row_query (at_place ∷ []) (col 1 2 ∷ []) }) body_name) × (reads_listing edition_schema select_text ≡ false)
unfolding understood everything
select_is = (refl, refl)

pub select_plain : IsPlain (understood edition_schema select_text)
unfolding understood everything
select_plain = (refl, refl)

pub insert_is : command_of (understood edition_schema insert_text) ≡ Insert 0 (Values inserted_terms 3)
unfolding understood everything
insert_is = refl

pub insert_plain : IsPlain (understood edition_schema insert_text)
unfolding understood everything
insert_plain = (refl, refl)

pub update_is : command_of (understood edition_schema update_text) ≡ Update 0 (record { lets = []; body = row_query (at_place ∷ []) updated_terms })
unfolding understood everything
update_is = refl

pub update_plain : IsPlain (understood edition_schema update_text)
unfolding understood everything
update_plain = (refl, refl)
