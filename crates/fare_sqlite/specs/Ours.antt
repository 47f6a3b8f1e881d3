-- Which schema a database of editions has.
use Rattle.std.specs.Prelude.{ℕ, Bool, true, false, not, ◌&&◌, ◌==◌, List, [], ◌∷◌, codes, bytes_eq, Option, Some, None}
use Rattle.sqlite_value.specs.declared.keys.Collation.{Collation}
use Rattle.sqlite_value.specs.declared.keys.Collation.TheVariants.{Binary, NoCase, RTrim}
use Rattle.sqlite_schema.specs.declared.schema.Column.{Column}
use Rattle.sqlite_schema.specs.declared.schema.Kind.{Kind}
use Rattle.sqlite_schema.specs.declared.schema.Kind.TheVariants.{Integer, Real, Text, Blob, Any}
use Rattle.sqlite_schema.specs.declared.schema.Schema.{Schema}
use Rattle.sqlite_schema.specs.declared.schema.Table.{Table}
use Rattle.sqlite_sql.specs.Ops.{is_null}

-- there is nothing in a list
abbrev pub is_empty : {A : Type 0} → List A → Bool
is_empty [] = true
is_empty (x ∷ xs) = false

-- texts are compared byte by byte
abbrev pub is_binary : Collation → Bool
is_binary Binary = true
is_binary NoCase = false
is_binary RTrim = false

-- a column of type INTEGER
abbrev pub is_integer : Kind → Bool
is_integer Integer = true
is_integer Real = false
is_integer Text = false
is_integer Blob = false
is_integer Any = false

-- a column of type BLOB in a table that isn't STRICT, which keeps what is put there
abbrev pub is_any : Kind → Bool
is_any Any = true
is_any Integer = false
is_any Real = false
is_any Text = false
is_any Blob = false

-- the column `place`
abbrev pub is_place : Column → Bool
is_place c =
    bytes_eq c.name (codes "place") && is_integer c.kind && not c.is_strict && not c.not_null
    && is_null c.default && is_binary c.collation

-- the column `body`
abbrev pub is_body : Column → Bool
is_body c =
    bytes_eq c.name (codes "body") && is_any c.kind && not c.is_strict && c.not_null
    && is_null c.default && is_binary c.collation

-- these two columns
abbrev pub are_columns : List Column → Bool
are_columns [] = false
are_columns (place ∷ []) = false
are_columns (place ∷ body ∷ []) = is_place place && is_body body
are_columns (place ∷ body ∷ other ∷ more) = false

-- the first column is the INTEGER PRIMARY KEY
abbrev pub is_first_key : Option ℕ → Bool
is_first_key None = false
is_first_key (Some at) = at == 0

-- a table has no rule beside its key
abbrev pub has_no_rules : Table → Bool
has_no_rules t =
    is_empty t.uniques && is_empty t.orders && is_empty t.checks && is_empty t.references && is_empty t.computed
    && is_empty t.stamps.places && is_empty t.stamps.terms && is_empty t.stamps.formats && not t.is_counted

-- the table of editions, as the first of a database
abbrev pub is_edition_table : Table → Bool
is_edition_table t =
    bytes_eq t.name (codes "edition") && (t.tree == 0) && are_columns t.columns && is_first_key t.key
    && bytes_eq t.primary (0 ∷ []) && has_no_rules t

-- the one table is that of editions
abbrev pub is_sole_table : List Table → Bool
is_sole_table [] = false
is_sole_table (t ∷ []) = is_edition_table t
is_sole_table (t ∷ other ∷ more) = false

-- a database holds the table of editions, and nothing else
unfoldable pub is_ours : Schema → Bool
is_ours schema = is_sole_table schema.tables && is_empty schema.indexes && is_empty schema.views

-- a database holds nothing
unfoldable pub is_blank : Schema → Bool
is_blank schema = is_empty schema.tables && is_empty schema.indexes && is_empty schema.views
