-- What a keeper tells of a file that it opens as it is found.
use Rattle.std.proofs.Common.{◌≡◌, ◌∙◌, ◌+◌, ◌∷◌, ℕ, pos, List, [], Bool, true, false, arith, Some, None, Ok, IfSome, refl, sym, ap, subst}
use Rattle.std.specs.List.{AllZip, filter}
use Rattle.sqlite_value.specs.declared.value.Value.TheVariants.{Int, Text}
use Rattle.sqlite_value.specs.Order.{Row}
use Rattle.sqlite_trees.specs.Tree.{Trees}
use Rattle.sqlite_trees.specs.Objects.{catalog_tree}
use Rattle.sqlite_schema.specs.declared.schema.Table.{Table}
use Rattle.sqlite_schema.specs.declared.schema.Schema.{Schema}
use Rattle.sqlite_catalog.specs.Listing.{AreListed, IsIndexRow, IsTableRow, IsViewRow, is_index_row, is_table_row, is_view_row}
use Rattle.sqlite_resolve.specs.Compile.{table_defined_by}
use Rattle.sqlite_wal.specs.Recovery.{Image}
use Rattle.sqlite.specs.Effect.{Database, IsDatabase}
use Rattle.sqlite.specs.Start.{FindsIn}
use Rattle.sqlite.specs.State.{HasCleanDisk, IsLive, Opens, State}
use Rattle.fare_ports.specs.Keeper.{BodiesStay, WhereTold}
use Rattle.fare_sqlite.specs.EditionTable.{edition_table}
use Rattle.fare_sqlite.specs.Found.{HoldsBodies}
use Rattle.fare_sqlite.specs.Kept.{bodies_of, kept}
use Rattle.fare_sqlite.specs.Ours.{is_blank, is_ours}
use Rattle.fare_sqlite.proofs.Schemas.{blank_is, ours_is}
use Rattle.fare_sqlite.proofs.States.{Told, open_is_clean, tells}

-- a row of the list of objects is that of one table
one_table : (row : Row) (one other : Table) → IsTableRow row one → IsTableRow row other → other ≡ one
one_table row one other first second =
    let ids : Int (pos (other.tree + 1)) ≡ Int (pos (one.tree + 1)) = sym second.described.id ∙ first.described.id in
    let next : other.tree + 1 ≡ one.tree + 1 = cc in
    let tree : other.tree ≡ one.tree = omega (arith, next) in
    let texts : Text second.sql ≡ Text first.sql = sym second.sql_is ∙ first.sql_is in
    let sql : second.sql ≡ first.sql = cc in
    let made : Ok second.defined.0 ≡ Ok first.defined.0 = sym second.defined.1 ∙ ap table_defined_by sql ∙ first.defined.1 in
    let same : second.defined.0 ≡ first.defined.0 = cc in
    second.defined.2 ∙ (λ i. record (same i) { tree = tree i }) ∙ sym first.defined.2

-- lists that go with one list of rows: both are empty, or neither
both_empty : {A B : Type 0} (R Q : A → B → Type 0) (rows : List A) (other : List B) → AllZip R rows [] → AllZip Q rows other → other ≡ []
both_empty R Q [] [] first second = refl
both_empty R Q [] (x ∷ xs) first second = absurd second
both_empty R Q (row ∷ rows) other first second = absurd first

-- one table goes with one row
both_sole : (rows : List Row) (table : Table) (other : List Table) → AllZip IsTableRow rows (table ∷ []) → AllZip IsTableRow rows other → other ≡ table ∷ []
both_sole [] table other first second = absurd first
both_sole (row ∷ []) table [] first second = absurd second
both_sole (row ∷ []) table (x ∷ []) first second = ap (λ (t : Table). t ∷ []) (one_table row table x first.0 second.0)
both_sole (row ∷ []) table (x ∷ y ∷ more) first second = absurd second.1
both_sole (row ∷ next ∷ rows) table other first second = absurd first.1

-- objects that list a schema with no index and no view, and another
same_schema : (objects : List Row) (one other : Schema) → AreListed objects one → AreListed objects other → other.tables ≡ one.tables → one.indexes ≡ [] → one.views ≡ [] → other ≡ one
same_schema objects one other first second tables none_indexed none_viewed =
    let indexes = both_empty (IsIndexRow one.tables) (IsIndexRow other.tables) (filter is_index_row objects) other.indexes (subst (λ xs. AllZip (IsIndexRow one.tables) (filter is_index_row objects) xs) none_indexed first.indexes) second.indexes ∙ sym none_indexed in
    let views = both_empty IsViewRow IsViewRow (filter is_view_row objects) other.views (subst (λ xs. AllZip IsViewRow (filter is_view_row objects) xs) none_viewed first.views) second.views ∙ sym none_viewed in
    λ i. record { tables = tables i; indexes = indexes i; views = views i }

-- what two databases of the same trees keep
same_blank : (one other : Database) → IsDatabase one → IsDatabase other → other.trees ≡ one.trees → is_blank one.schema ≡ true → other.schema ≡ one.schema
same_blank one other first second trees blank =
    let schema = blank_is one.schema blank in
    let before = first.lists.listed in
    let after = subst (λ (t : Trees). AreListed (t catalog_tree) other.schema) trees second.lists.listed in
    let tables = both_empty IsTableRow IsTableRow (filter is_table_row (one.trees catalog_tree)) other.schema.tables (subst (λ xs. AllZip IsTableRow (filter is_table_row (one.trees catalog_tree)) xs) (ap (λ (s : Schema). s.tables) schema) before.tables) after.tables in
    same_schema (one.trees catalog_tree) one.schema other.schema before after (tables ∙ sym (ap (λ (s : Schema). s.tables) schema)) (ap (λ (s : Schema). s.indexes) schema) (ap (λ (s : Schema). s.views) schema)

same_ours : (one other : Database) → IsDatabase one → IsDatabase other → other.trees ≡ one.trees → is_ours one.schema ≡ true → other.schema ≡ one.schema
same_ours one other first second trees ours =
    let schema = ours_is one.schema ours in
    let before = first.lists.listed in
    let after = subst (λ (t : Trees). AreListed (t catalog_tree) other.schema) trees second.lists.listed in
    let tables = both_sole (filter is_table_row (one.trees catalog_tree)) edition_table other.schema.tables (subst (λ xs. AllZip IsTableRow (filter is_table_row (one.trees catalog_tree)) xs) (ap (λ (s : Schema). s.tables) schema) before.tables) after.tables in
    same_schema (one.trees catalog_tree) one.schema other.schema before after (tables ∙ sym (ap (λ (s : Schema). s.tables) schema)) (ap (λ (s : Schema). s.indexes) schema) (ap (λ (s : Schema). s.views) schema)

same_kept : (one other : Database) (bodies : List (List ℕ)) (blank ours : Bool) → is_blank one.schema ≡ blank → is_ours one.schema ≡ ours → IsDatabase one → IsDatabase other → other.trees ≡ one.trees → bodies_of one ≡ Some bodies → bodies_of other ≡ Some bodies
same_kept one other bodies true ours is e first second trees are =
    let schema = same_blank one other first second trees is in
    ap bodies_of (λ i. record { schema = schema i; trees = trees i }) ∙ are
same_kept one other bodies false true is e first second trees are =
    let schema = same_ours one other first second trees e in
    ap bodies_of (λ i. record { schema = schema i; trees = trees i }) ∙ are
same_kept one other bodies false false is e first second trees are =
    let none : bodies_of one ≡ None = rw (is, e) refl in absurd cc

-- a connection that was opened over a file, and the bodies that the file is told to hold
found_bodies : (s : State) (image : Image) (bodies kept_now : List (List ℕ)) → HoldsBodies image bodies → Opens s × IsLive s → FindsIn image s → kept s ≡ Some kept_now → kept_now ≡ bodies
found_bodies s image bodies kept_now held opened found e =
    let it = tells s kept_now e in
    let now = (opened.1 it.is_open).0 in
    let trees : s.now.trees ≡ held.db.trees = ap (λ (d : Database). d.trees) opened.0.clean ∙ found.holds held.db.trees held.holds in
    let are = same_kept held.db s.now bodies _ _ refl refl held.sound now trees held.are in
    let same : Some kept_now ≡ Some bodies = sym it.are ∙ are in cc

pub found_told : (s : State) (first : Told) (image : Image) → IfSome first (HoldsBodies image) → (s.is_clean ≡ false → s.is_open ≡ false) → (HasCleanDisk s → Opens s × IsLive s) → (HasCleanDisk s → FindsIn image s) → WhereTold first (kept s) BodiesStay
found_told s None image held shut opened found = tt
found_told s (Some bodies) image held shut opened found = at (kept s) refl
  where
    at : (now : Told) → kept s ≡ now → WhereTold (Some bodies) now BodiesStay
    at None e = tt
    at (Some new) e =
        let clean = open_is_clean s shut (tells s new e).is_open in
        found_bodies s image bodies new held (opened clean) (found clean) e
