-- What the queries answer.
use Rattle.std.proofs.Common.{◌≡◌, ◌∙◌, ℕ, ℤ, pos, negsuc, List, [], ◌∷◌, ◌++◌, length, map, codes, Some, None, Bool, true, false, ◌&&◌, ◌||◌, cond, refl, sym, ap, subst}
use Rattle.std.specs.List.{filter, flat_map, list_all, AllZip}
use Rattle.std.specs.List.Sorted.{IsPermutation}
use Rattle.std.specs.Ordering.{is_eq}
use Rattle.std.proofs.lemmas.List.{length-map}
use Rattle.std.proofs.lemmas.List.Sorted.{length_permutation}
use Rattle.sqlite_value.specs.declared.value.Value.{Value}
use Rattle.sqlite_value.specs.declared.value.Value.TheVariants.{Null, Int, Real, Text, Blob}
use Rattle.sqlite_value.specs.Order.{Row, column, value_cmp}
use Rattle.sqlite_value.proofs.OrderLemmas.{value_cmp-Null, value_cmp-Text}
use Rattle.sqlite_trees.specs.Tree.{Trees, has_rowid}
use Rattle.sqlite_sql.specs.declared.ops.UnaryOp.TheVariants.{TypeOf}
use Rattle.sqlite_sql.specs.declared.ops.BinaryOp.TheVariants.{Compare, Or}
use Rattle.sqlite_sql.specs.declared.ops.CompareOp.TheVariants.{Eq, Ne}
use Rattle.sqlite_sql.specs.declared.aggregate.AggregateOp.TheVariants.{CountRows}
use Rattle.sqlite_value.specs.declared.keys.Collation.TheVariants.{Binary}
use Rattle.sqlite_sql.specs.Aggregate.{count}
use Rattle.sqlite_sql.specs.Group.{Aggregate, Grouping, IsSummary, Summarizes, value_over}
use Rattle.sqlite_sql.specs.Ops.{binary, from_truth, is_true, unary}
use Rattle.sqlite_sql.specs.Program.{overlay}
use Rattle.sqlite_sql.specs.Query.{IsAnswer, Output, Query, end, inner, matches_as, output, page}
use Rattle.sqlite_sql.specs.Term.{Env, Term, col, eval, eval_all, holds, lit, op1, op2}
use Rattle.sqlite_schema.specs.declared.command.Command.TheVariants.{Select}
use Rattle.sqlite.specs.Effect.{Database, ReadsFirst}
use Rattle.sqlite.proofs.Callers.{one_permutation}
use Rattle.fare_sqlite.specs.Bodies.{has_no_body, is_no_blob, is_no_int}

-- the rows are counted
abbrev pub rows_counted : Aggregate
rows_counted = record { op = CountRows; distinct = false; collation = Binary; argument = lit Null }

abbrev pub all_rows : Grouping
all_rows = record { keys = []; collations = []; aggregates = rows_counted ∷ []; having = [] }

-- SELECT count(*) of the rows that pass
abbrev pub count_query : List Term → Query
count_query terms = record {
  from = inner 0 end;
  filter = terms;
  group = Some all_rows;
  project = col 1 0 ∷ [];
  distinct = false;
  collations = [];
  order = [];
  limit = lit (Int (negsuc 0));
  offset = lit (Int (pos 0));
}

-- SELECT of these columns of the rows that pass
abbrev pub row_query : List Term → List Term → Query
row_query terms shown = record {
  from = inner 0 end;
  filter = terms;
  group = None;
  project = shown;
  distinct = false;
  collations = [];
  order = [];
  limit = lit (Int (negsuc 0));
  offset = lit (Int (pos 0));
}

-- place = ?1
abbrev pub at_place : Term
at_place = op2 (Compare Eq Binary) (col 1 0) (col 0 0)

-- typeof(place) <> 'integer' OR typeof(body) <> 'blob'
abbrev pub no_body : Term
no_body = op2 Or (op2 (Compare Ne Binary) (op1 TypeOf (col 1 0)) (lit (Text (codes "integer")))) (op2 (Compare Ne Binary) (op1 TypeOf (col 1 2)) (lit (Text (codes "blob"))))

-- a row passes every term, with these parameters
abbrev pub passes : List Term → Row → Row → Bool
passes terms params row = list_all (holds (params ∷ row ∷ [])) terms

shown_truth : (b : Bool) → is_true (from_truth (Some b)) ≡ b
shown_truth true = refl
shown_truth false = refl

and_true : (b : Bool) → (b && true) ≡ b
and_true true = refl
and_true false = refl

equals : (v : Value) (n : ℤ) → is_true (binary (Compare Eq Binary) v (Int n)) ≡ is_eq (value_cmp v (Int n))
unfolding binary
equals Null n = sym (ap is_eq (value_cmp-Null (Int n)))
equals (Int m) n = shown_truth (is_eq (value_cmp (Int m) (Int n)))
equals (Real x) n = shown_truth (is_eq (value_cmp (Real x) (Int n)))
equals (Text t) n = shown_truth (is_eq (value_cmp (Text t) (Int n)))
equals (Blob b) n = shown_truth (is_eq (value_cmp (Blob b) (Int n)))

pub passes_at : (place : ℕ) (rest row : Row) → passes (at_place ∷ []) (Int (pos place) ∷ rest) row ≡ has_rowid (pos place) row
passes_at place rest row = and_true (is_true (binary (Compare Eq Binary) (column row 0) (Int (pos place)))) ∙ equals (column row 0) (pos place)

-- NOT NULL of a test is a truth
differs : Value → List ℕ → Value
differs v word = binary (Compare Ne Binary) (unary TypeOf v) (Text word)

of_no_blob : (v : Value) → differs v (codes "blob") ≡ from_truth (Some (is_no_blob v))
unfolding binary unary differs
of_no_blob Null = rw (value_cmp-Text (codes "null") (codes "blob")) refl
of_no_blob (Int n) = rw (value_cmp-Text (codes "integer") (codes "blob")) refl
of_no_blob (Real x) = rw (value_cmp-Text (codes "real") (codes "blob")) refl
of_no_blob (Text t) = rw (value_cmp-Text (codes "text") (codes "blob")) refl
of_no_blob (Blob b) = rw (value_cmp-Text (codes "blob") (codes "blob")) refl

of_no_int : (v : Value) → differs v (codes "integer") ≡ from_truth (Some (is_no_int v))
unfolding binary unary differs
of_no_int Null = rw (value_cmp-Text (codes "null") (codes "integer")) refl
of_no_int (Int n) = rw (value_cmp-Text (codes "integer") (codes "integer")) refl
of_no_int (Real x) = rw (value_cmp-Text (codes "real") (codes "integer")) refl
of_no_int (Text t) = rw (value_cmp-Text (codes "text") (codes "integer")) refl
of_no_int (Blob b) = rw (value_cmp-Text (codes "blob") (codes "integer")) refl

either_truth : (a b : Bool) → is_true (binary Or (from_truth (Some a)) (from_truth (Some b))) ≡ (a || b)
unfolding binary
either_truth true true = refl
either_truth true false = refl
either_truth false true = refl
either_truth false false = refl

either_is : (v w : Value) → is_true (binary Or (differs v (codes "integer")) (differs w (codes "blob"))) ≡ (is_no_int v || is_no_blob w)
either_is v w = rw (of_no_int v, of_no_blob w) (either_truth (is_no_int v) (is_no_blob w))

pub passes_no_body : (params row : Row) → passes (no_body ∷ []) params row ≡ has_no_body row
unfolding differs
passes_no_body params row = and_true (is_true (binary Or (differs (column row 0) (codes "integer")) (differs (column row 2) (codes "blob")))) ∙ either_is (column row 0) (column row 2)

one_found : (params row : Row) (found : List Row) (a : Bool) → cond a ((params ∷ row ∷ []) ∷ []) [] ++ map (λ r. params ∷ r ∷ []) found ≡ map (λ r. params ∷ r ∷ []) (cond a (row ∷ found) found)
one_found params row found true = refl
one_found params row found false = refl

found_in : (terms : List Term) (params : Row) (rows : List Row) → flat_map (λ row. cond (passes terms params row) ((params ∷ row ∷ []) ∷ []) []) rows ≡ map (λ row. params ∷ row ∷ []) (filter (passes terms params) rows)
found_in terms params [] = refl
found_in terms params (row ∷ rows) =
    ap (λ (more : List Env). cond (passes terms params row) ((params ∷ row ∷ []) ∷ []) [] ++ more) (found_in terms params rows)
    ∙ one_found params row (filter (passes terms params) rows) (passes terms params row)

pub matches_are : (db : Trees) (terms : List Term) (params : Row) → matches_as Null (overlay db []) terms (inner 0 end) (params ∷ []) ≡ map (λ row. params ∷ row ∷ []) (filter (passes terms params) (db 0))
matches_are db terms params = found_in terms params (db 0)

one_value : (order : List Env) (values : Row) → AllZip (λ a v. value_over order a ≡ Some v) (rows_counted ∷ []) values → values ≡ count (length order) ∷ []
one_value order [] all = absurd all
one_value order (v ∷ []) all =
    let size : length (map (eval (lit Null)) order) ≡ length order = length-map order (eval (lit Null)) in
    let is : Some (count (length (map (eval (lit Null)) order))) ≡ Some v = all.0 in
    let counted : Some (count (length order)) ≡ Some v = rw size at is in
    let same : count (length order) ≡ v = cc in
    ap (λ (x : Value). x ∷ []) (sym same)
one_value order (v ∷ w ∷ more) all = absurd all.1

-- one group has one summary
one_summary : (order : List Env) (rows : List Row) → AllZip (IsSummary all_rows) (order ∷ []) rows → rows ≡ (count (length order) ∷ []) ∷ []
one_summary order [] all = absurd all
one_summary order (row ∷ []) all =
    let values = one_value order all.0.0 all.0.1 in
    ap (λ (r : Row). r ∷ []) (all.0.2 ∙ values)
one_summary order (row ∷ other ∷ more) all = absurd all.1

-- what count(*) answers
pub counts : (terms : List Term) (names : List (List ℕ)) (db : Database) (params row : Row) → ReadsFirst (Select (record { lets = []; body = count_query terms }) names) db params (row ∷ []) → column row 0 ≡ count (length (filter (passes terms params) (db.trees 0)))
counts terms names db params row read =
    let got = read.1 in
    let a : IsAnswer (count_query terms) (overlay db.trees []) params (row ∷ got.0) = got.1 Null in
    let all = matches_as Null (overlay db.trees []) terms (inner 0 end) (params ∷ []) in
    let s : Summarizes all_rows params all a.staged = a.grouped in
    let order = s.grouping.0 in
    let summaries : AllZip (IsSummary all_rows) (order ∷ []) s.rows = subst (λ groups. AllZip (IsSummary all_rows) groups s.rows) s.grouping.2 s.summaries in
    let rows = one_summary order s.rows summaries in
    let found = filter (passes terms params) (db.trees 0) in
    let size = length_permutation all order s.grouping.1 ∙ ap length (matches_are db.trees terms params) ∙ length-map found (λ r. params ∷ r ∷ []) in
    let env : List Env = (params ∷ (count (length order) ∷ []) ∷ []) ∷ [] in
    let staged : a.staged ≡ env = rw rows at s.having in
    let o : Output = ([], count (length order) ∷ []) in
    let kept : a.kept ≡ o ∷ [] = a.distinct ∙ ap (map (output (count_query terms))) staged in
    let ordered = one_permutation o a.ordered (subst (λ k. IsPermutation k a.ordered) kept a.same) in
    let shown : row ∷ got.0 ≡ (count (length order) ∷ []) ∷ [] = a.shown ∙ ap (λ xs. page (count_query terms) params (map (λ (p : Output). p.1) xs)) ordered in
    let first : row ≡ count (length order) ∷ [] = cc in
    ap (λ (r : Row). column r 0) first ∙ ap count size

-- what a query shows of the one row that passes
pub shows : (terms shown : List Term) (db : Trees) (params found : Row) (rows : List Row) → filter (passes terms params) (db 0) ≡ found ∷ [] → IsAnswer (row_query terms shown) (overlay db []) params rows → rows ≡ eval_all shown (params ∷ found ∷ []) ∷ []
shows terms shown db params found rows one a =
    let all = matches_are db terms params in
    let env : List Env = (params ∷ found ∷ []) ∷ [] in
    let staged : a.staged ≡ env = a.grouped ∙ all ∙ ap (map (λ (r : Row). params ∷ r ∷ [])) one in
    let o : Output = ([], eval_all shown (params ∷ found ∷ [])) in
    let kept : a.kept ≡ o ∷ [] = a.distinct ∙ ap (map (output (row_query terms shown))) staged in
    let ordered = one_permutation o a.ordered (subst (λ k. IsPermutation k a.ordered) kept a.same) in
    a.shown ∙ ap (λ xs. page (row_query terms shown) params (map (λ (p : Output). p.1) xs)) ordered

-- what a SELECT answers of the one row that passes
pub picks : (terms shown : List Term) (names : List (List ℕ)) (db : Database) (params found row : Row) → filter (passes terms params) (db.trees 0) ≡ found ∷ [] → ReadsFirst (Select (record { lets = []; body = row_query terms shown }) names) db params (row ∷ []) → row ≡ eval_all shown (params ∷ found ∷ [])
picks terms shown names db params found row one read =
    let got = read.1 in
    let rows : row ∷ got.0 ≡ eval_all shown (params ∷ found ∷ []) ∷ [] = shows terms shown db.trees params found (row ∷ got.0) one (got.1 Null) in
    cc
