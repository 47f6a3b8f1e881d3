-- A schema that passes the tests is the one that the statements were read under.
use Rattle.std.proofs.Common.{◌≡◌, ℕ, List, [], ◌∷◌, codes, Bool, true, false, not, ◌&&◌, ◌==◌, Option, Some, None, refl, ap, arith}
use Rattle.std.proofs.lemmas.Slice.Eq.{bytes_eq-Decides}
use Rattle.std.proofs.lemmas.Bool.Decides.{nat_tests}
use Rattle.sqlite_value.specs.declared.value.Value.{Value}
use Rattle.sqlite_value.specs.declared.value.Value.TheVariants as value
use Rattle.sqlite_value.specs.declared.keys.Collation.{Collation}
use Rattle.sqlite_value.specs.declared.keys.Collation.TheVariants.{Binary, NoCase, RTrim}
use Rattle.sqlite_schema.specs.declared.schema.Column.{Column}
use Rattle.sqlite_schema.specs.declared.schema.Kind.{Kind}
use Rattle.sqlite_schema.specs.declared.schema.Kind.TheVariants.{Integer, Real, Text, Blob, Any}
use Rattle.sqlite_schema.specs.declared.schema.Schema.{Schema}
use Rattle.sqlite_schema.specs.declared.schema.Table.{Table}
use Rattle.sqlite_sql.specs.Ops.{is_null}
use Rattle.fare_sqlite.specs.EditionTable.{blank_schema, edition_schema, edition_table}
use Rattle.fare_sqlite.specs.Ours.{are_columns, has_no_rules, is_any, is_binary, is_blank, is_body, is_edition_table, is_empty, is_first_key, is_integer, is_ours, is_place, is_sole_table}

both : (a b : Bool) → (a && b) ≡ true → (a ≡ true) × (b ≡ true)
both true b e = (refl, e)
both false b e = absurd cc

none_in : {A : Type 0} (xs : List A) → is_empty xs ≡ true → xs ≡ []
none_in [] e = refl
none_in (x ∷ xs) e = absurd cc

off : (a : Bool) → not a ≡ true → a ≡ false
off true e = absurd cc
off false e = refl

null_is : (v : Value) → is_null v ≡ true → v ≡ value.Null
null_is value.Null e = refl
null_is (value.Int n) e = absurd cc
null_is (value.Real x) e = absurd cc
null_is (value.Text t) e = absurd cc
null_is (value.Blob b) e = absurd cc

binary_is : (c : Collation) → is_binary c ≡ true → c ≡ Binary
binary_is Binary e = refl
binary_is NoCase e = absurd cc
binary_is RTrim e = absurd cc

integer_is : (k : Kind) → is_integer k ≡ true → k ≡ Integer
integer_is Integer e = refl
integer_is Real e = absurd cc
integer_is Text e = absurd cc
integer_is Blob e = absurd cc
integer_is Any e = absurd cc

any_is : (k : Kind) → is_any k ≡ true → k ≡ Any
any_is Any e = refl
any_is Integer e = absurd cc
any_is Real e = absurd cc
any_is Text e = absurd cc
any_is Blob e = absurd cc

key_is : (key : Option ℕ) → is_first_key key ≡ true → key ≡ Some 0
key_is None e = absurd cc
key_is (Some at) e = let zero_at : at ≡ 0 = grind (arith, nat_tests) in ap (λ (n : ℕ). Some n) zero_at

place_is : (c : Column) → is_place c ≡ true → c ≡ record { name = codes "place"; kind = Integer; is_strict = false; not_null = false; default = value.Null; collation = Binary }
place_is c e =
    let a = both _ _ e in
    let b = both _ _ a.0 in
    let d = both _ _ b.0 in
    let f = both _ _ d.0 in
    let h = both _ _ f.0 in
    let name = (bytes_eq-Decides c.name (codes "place")).0 h.0 in
    let kind = integer_is c.kind h.1 in
    let loose = off c.is_strict f.1 in
    let may = off c.not_null d.1 in
    let default = null_is c.default b.1 in
    let collation = binary_is c.collation a.1 in
    λ i. record { name = name i; kind = kind i; is_strict = loose i; not_null = may i; default = default i; collation = collation i }

body_is : (c : Column) → is_body c ≡ true → c ≡ record { name = codes "body"; kind = Any; is_strict = false; not_null = true; default = value.Null; collation = Binary }
body_is c e =
    let a = both _ _ e in
    let b = both _ _ a.0 in
    let d = both _ _ b.0 in
    let f = both _ _ d.0 in
    let h = both _ _ f.0 in
    let name = (bytes_eq-Decides c.name (codes "body")).0 h.0 in
    let kind = any_is c.kind h.1 in
    let loose = off c.is_strict f.1 in
    let needed = d.1 in
    let default = null_is c.default b.1 in
    let collation = binary_is c.collation a.1 in
    λ i. record { name = name i; kind = kind i; is_strict = loose i; not_null = needed i; default = default i; collation = collation i }

columns_are : (columns : List Column) → are_columns columns ≡ true → columns ≡ edition_table.columns
columns_are [] e = absurd cc
columns_are (place ∷ []) e = absurd cc
columns_are (place ∷ body ∷ []) e =
    let two = both _ _ e in
    let first = place_is place two.0 in
    let second = body_is body two.1 in
    λ i. first i ∷ second i ∷ []
columns_are (place ∷ body ∷ other ∷ more) e = absurd cc

-- the parts of a table without rules
record HasNone (t : Table) : Type 0 where
  uniques : t.uniques ≡ []
  orders : t.orders ≡ []
  checks : t.checks ≡ []
  references : t.references ≡ []
  computed : t.computed ≡ []
  places : t.stamps.places ≡ []
  terms : t.stamps.terms ≡ []
  formats : t.stamps.formats ≡ []
  uncounted : t.is_counted ≡ false

has_none : (t : Table) → has_no_rules t ≡ true → HasNone t
has_none t e =
    let a = both _ _ e in
    let b = both _ _ a.0 in
    let c = both _ _ b.0 in
    let d = both _ _ c.0 in
    let f = both _ _ d.0 in
    let g = both _ _ f.0 in
    let h = both _ _ g.0 in
    let k = both _ _ h.0 in
    record {
      uniques = none_in t.uniques k.0;
      orders = none_in t.orders k.1;
      checks = none_in t.checks h.1;
      references = none_in t.references g.1;
      computed = none_in t.computed f.1;
      places = none_in t.stamps.places d.1;
      terms = none_in t.stamps.terms c.1;
      formats = none_in t.stamps.formats b.1;
      uncounted = off t.is_counted a.1;
    }

table_is : (t : Table) → is_edition_table t ≡ true → t ≡ edition_table
table_is t e =
    let a = both _ _ e in
    let b = both _ _ a.0 in
    let c = both _ _ b.0 in
    let d = both _ _ c.0 in
    let f = both _ _ d.0 in
    let none = has_none t a.1 in
    let name = (bytes_eq-Decides t.name (codes "edition")).0 f.0 in
    let first : (t.tree == 0) ≡ true = f.1 in
    let tree : t.tree ≡ 0 = grind (arith, nat_tests) in
    let columns = columns_are t.columns d.1 in
    let key = key_is t.key c.1 in
    let primary = (bytes_eq-Decides t.primary (0 ∷ [])).0 b.1 in
    λ i. record {
      name = name i;
      tree = tree i;
      columns = columns i;
      key = key i;
      primary = primary i;
      uniques = none.uniques i;
      orders = none.orders i;
      checks = none.checks i;
      references = none.references i;
      computed = none.computed i;
      stamps = record { places = none.places i; terms = none.terms i; formats = none.formats i };
      is_counted = none.uncounted i;
    }

sole_is : (tables : List Table) → is_sole_table tables ≡ true → tables ≡ edition_table ∷ []
sole_is [] e = absurd cc
sole_is (t ∷ []) e = ap (λ (one : Table). one ∷ []) (table_is t e)
sole_is (t ∷ other ∷ more) e = absurd cc

pub ours_is : (schema : Schema) → is_ours schema ≡ true → schema ≡ edition_schema
unfolding is_ours
ours_is schema e =
    let a = both _ _ e in
    let b = both _ _ a.0 in
    let tables = sole_is schema.tables b.0 in
    let indexes = none_in schema.indexes b.1 in
    let views = none_in schema.views a.1 in
    λ i. record { tables = tables i; indexes = indexes i; views = views i }

pub blank_is : (schema : Schema) → is_blank schema ≡ true → schema ≡ blank_schema
unfolding is_blank
blank_is schema e =
    let a = both _ _ e in
    let b = both _ _ a.0 in
    let tables = none_in schema.tables b.0 in
    let indexes = none_in schema.indexes b.1 in
    let views = none_in schema.views a.1 in
    λ i. record { tables = tables i; indexes = indexes i; views = views i }

-- the table of editions passes, and is no blank database
pub edition_is_ours : (is_ours edition_schema ≡ true) × (is_blank edition_schema ≡ false)
unfolding is_ours is_blank
edition_is_ours = (refl, refl)
