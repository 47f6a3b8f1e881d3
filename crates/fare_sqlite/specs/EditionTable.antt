-- The table of editions.
use Rattle.std.specs.Prelude.{true, false, [], ◌∷◌, Some, codes}
use Rattle.sqlite_value.specs.declared.keys.Collation.TheVariants.{Binary}
use Rattle.sqlite_value.specs.declared.value.Value.TheVariants.{Null}
use Rattle.sqlite_schema.specs.declared.schema.Table.{Table}
use Rattle.sqlite_schema.specs.declared.schema.Schema.{Schema}
use Rattle.sqlite_schema.specs.declared.schema.Kind.TheVariants.{Integer, Any}

-- the table that `create` makes
abbrev pub edition_table : Table
edition_table = record {
  name = codes "edition";
  tree = 0;
  columns = (record {
    name = codes "place";
    kind = Integer;
    is_strict = false;
    not_null = false;
    default = Null;
    collation = Binary;
  }) ∷ (record {
    name = codes "body";
    kind = Any;
    is_strict = false;
    not_null = true;
    default = Null;
    collation = Binary;
  }) ∷ [];
  key = Some 0;
  primary = 0 ∷ [];
  uniques = [];
  orders = [];
  checks = [];
  references = [];
  computed = [];
  stamps = record { places = []; terms = []; formats = [] };
  is_counted = false;
}

-- a database of that table alone
abbrev pub edition_schema : Schema
edition_schema = record { tables = edition_table ∷ []; indexes = []; views = [] }

-- a database of nothing
abbrev pub blank_schema : Schema
blank_schema = record { tables = []; indexes = []; views = [] }
