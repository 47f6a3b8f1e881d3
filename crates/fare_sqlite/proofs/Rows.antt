-- Rows by their places, after a row is put or taken out.
use Rattle.std.proofs.Common.{◌≡◌, ◌≢◌, ◌∙◌, ℕ, ℤ, ◌+◌, pos, int_cmp, List, [], ◌∷◌, ◌++◌, length, Bool, true, false, not, ◌||◌, refl, sym, ap, arith, length-append, Ordering, Less, Equal, Greater}
use Rattle.std.specs.List.{filter}
use Rattle.std.specs.Ordering.{is_eq}
use Rattle.std.proofs.lemmas.List.Elements.{filter-append}
use Rattle.std.proofs.lemmas.List.Filters.{length-filter_both}
use Rattle.std.proofs.lemmas.Bool.Decides.{nat_tests}
use Rattle.std.proofs.lemmas.Int.{ints}
use Rattle.sqlite_value.specs.declared.value.Value.TheVariants.{Int}
use Rattle.sqlite_value.specs.Order.{Row, value_cmp}
use Rattle.sqlite_value.proofs.OrderLemmas.{value_cmp_total, value_cmp-Int}
use Rattle.sqlite_trees.specs.Tree.{rowid, has_rowid, put_row, without_rowid}
use Rattle.sqlite_rules.specs.Edit.{is_taken}
use Rattle.fare_sqlite.specs.Bodies.{rows_at}

equal_is : (o : Ordering) → is_eq o ≡ true → o ≡ Equal
equal_is Less e = absurd cc
equal_is Equal e = refl
equal_is Greater e = absurd cc

-- two places are apart
apart : (p q : ℕ) → p ≢ q → is_eq (value_cmp (Int (pos p)) (Int (pos q))) ≡ false
apart p q other = ap is_eq (value_cmp-Int (pos p) (pos q)) ∙ grind (arith, ints, nat_tests)

-- a row at one place isn't at another
pub elsewhere : (row : Row) (p q : ℕ) → p ≢ q → has_rowid (pos p) row ≡ true → has_rowid (pos q) row ≡ false
elsewhere row p q other here =
    let same = equal_is (value_cmp (rowid row) (Int (pos p))) here in
    ap is_eq (value_cmp_total.congr (rowid row) (Int (pos p)) (Int (pos q)) same) ∙ apart p q other

-- a row with the rowid of a place is there, and nowhere else
pub at_own : (row : Row) (p : ℕ) → rowid row ≡ Int (pos p) → has_rowid (pos p) row ≡ true
at_own row p e = rw e (ap is_eq (value_cmp-Int (pos p) (pos p)) ∙ grind (arith, ints, nat_tests))

pub at_other : (row : Row) (p q : ℕ) → rowid row ≡ Int (pos p) → p ≢ q → has_rowid (pos q) row ≡ false
at_other row p q e other = elsewhere row p q other (at_own row p e)

neither : (a b : Bool) → (a || b) ≡ false → (a ≡ false) × (b ≡ false)
neither true b e = absurd cc
neither false b e = (refl, e)

-- where a row is put, in front of some rows and behind others
pub record IsPut (new : Row) (rows : List Row) : Type 0 where
  pub front : List Row
  pub back : List Row
  pub before : rows ≡ front ++ back
  pub after : put_row new rows ≡ front ++ new ∷ back

behind : (new row : Row) (rows : List Row) (o : Ordering) → value_cmp (rowid row) (rowid new) ≡ o → is_eq o ≡ false → IsPut new rows → IsPut new (row ∷ rows)
behind new row rows Less e free put = record {
  front = row ∷ put.front;
  back = put.back;
  before = ap (λ (all : List Row). row ∷ all) put.before;
  after = rw e (ap (λ (all : List Row). row ∷ all) put.after);
}
behind new row rows Equal e free put = absurd cc
behind new row rows Greater e free put = record { front = []; back = row ∷ rows; before = refl; after = rw e refl }

pub put_is : (new : Row) (rows : List Row) → is_taken rows new ≡ false → IsPut new rows
put_is new [] free = record { front = []; back = []; before = refl; after = refl }
put_is new (row ∷ rows) free =
    let both = neither (is_eq (value_cmp (rowid row) (rowid new))) (is_taken rows new) free in
    behind new row rows (value_cmp (rowid row) (rowid new)) refl both.0 (put_is new rows both.1)

pub length_put : (new : Row) (rows : List Row) → is_taken rows new ≡ false → length (put_row new rows) ≡ length rows + 1
length_put new rows free =
    let put = put_is new rows free in
    let longer : length (new ∷ put.back) ≡ length put.back + 1 = omega arith in
    let after = ap length put.after ∙ length-append put.front (new ∷ put.back) in
    let before = ap length put.before ∙ length-append put.front put.back in
    omega (arith, after, before, longer)

-- rows that a test doesn't pass to are left
pub filter_put_other : (test : Row → Bool) (new : Row) (rows : List Row) → is_taken rows new ≡ false → test new ≡ false → filter test (put_row new rows) ≡ filter test rows
filter_put_other test new rows free fails =
    let put = put_is new rows free in
    let passed : filter test (new ∷ put.back) ≡ filter test put.back = rw fails refl in
    ap (filter test) put.after ∙ filter-append test put.front (new ∷ put.back) ∙ ap (λ (some : List Row). filter test put.front ++ some) passed
    ∙ sym (filter-append test put.front put.back) ∙ sym (ap (filter test) put.before)

none_of : (xs ys : List Row) → xs ++ ys ≡ [] → (xs ≡ []) × (ys ≡ [])
none_of [] ys e = (refl, e)
none_of (x ∷ xs) ys e = absurd cc

-- the row that is put is the only one where there was none
pub filter_put_own : (test : Row → Bool) (new : Row) (rows : List Row) → is_taken rows new ≡ false → test new ≡ true → filter test rows ≡ [] → filter test (put_row new rows) ≡ new ∷ []
filter_put_own test new rows free passes none =
    let put = put_is new rows free in
    let parts = none_of (filter test put.front) (filter test put.back) (sym (filter-append test put.front put.back) ∙ sym (ap (filter test) put.before) ∙ none) in
    let passed : filter test (new ∷ put.back) ≡ new ∷ filter test put.back = rw passes refl in
    ap (filter test) put.after ∙ filter-append test put.front (new ∷ put.back) ∙ rw (passed, parts.0, parts.1) refl

-- no row is where none is taken
pub none_at : (rows : List Row) (new : Row) (place : ℕ) → rowid new ≡ Int (pos place) → is_taken rows new ≡ false → rows_at place rows ≡ []
none_at [] new place e free = refl
none_at (row ∷ rows) new place e free =
    let both = neither (is_eq (value_cmp (rowid row) (rowid new))) (is_taken rows new) free in
    let fails : has_rowid (pos place) row ≡ false = rw e at both.0 in
    rw fails (none_at rows new place e both.1)

-- rows that pass one test, and so another
twice : (f g : Row → Bool) (row : Row) (rows : List Row) (a b : Bool) → (f row ≡ true → g row ≡ true) → filter f (filter g rows) ≡ filter f rows → f row ≡ a → g row ≡ b → filter f (filter g (row ∷ rows)) ≡ filter f (row ∷ rows)
twice f g row rows true true both rest e k = rw (k, e) (ap (λ (some : List Row). row ∷ some) rest)
twice f g row rows true false both rest e k = let passes = both e in absurd cc
twice f g row rows false true both rest e k = rw (k, e) rest
twice f g row rows false false both rest e k = rw (k, e) rest

pub filter_twice : (f g : Row → Bool) → ((row : Row) → f row ≡ true → g row ≡ true) → (rows : List Row) → filter f (filter g rows) ≡ filter f rows
filter_twice f g both [] = refl
filter_twice f g both (row ∷ rows) = twice f g row rows (f row) (g row) (both row) (filter_twice f g both rows) refl refl

-- no row passes a test among those that don't
none_more : (f : Row → Bool) (row : Row) (rows : List Row) (a : Bool) → filter f (filter (λ r. not (f r)) rows) ≡ [] → f row ≡ a → filter f (filter (λ r. not (f r)) (row ∷ rows)) ≡ []
none_more f row rows true rest e = rw e rest
none_more f row rows false rest e = rw (e, e) rest

pub filter_none : (f : Row → Bool) (rows : List Row) → filter f (filter (λ row. not (f row)) rows) ≡ []
filter_none f [] = refl
filter_none f (row ∷ rows) = none_more f row rows (f row) (filter_none f rows) refl

not_false : (a : Bool) → a ≡ false → not a ≡ true
not_false true e = absurd cc
not_false false e = refl

-- the rows at other places are left where those at a place are taken out
pub others_left : (place other : ℕ) → other ≢ place → (rows : List Row) → rows_at other (without_rowid (pos place) rows) ≡ rows_at other rows
others_left place other apart rows =
    filter_twice (has_rowid (pos other)) (λ row. not (has_rowid (pos place) row))
    (λ row here. not_false (has_rowid (pos place) row) (elsewhere row other place apart here)) rows

pub none_left : (place : ℕ) (rows : List Row) → rows_at place (without_rowid (pos place) rows) ≡ []
none_left place rows = filter_none (has_rowid (pos place)) rows

pub length_left : (place : ℕ) (rows : List Row) → length (rows_at place rows) + length (without_rowid (pos place) rows) ≡ length rows
length_left place rows = length-filter_both (has_rowid (pos place)) (λ row. not (has_rowid (pos place) row)) (λ row. refl) rows

-- a row at a place whose rowid is a whole number has that of the place
pub same_place : (row : Row) (n : ℤ) (p : ℕ) → rowid row ≡ Int n → has_rowid (pos p) row ≡ true → rowid row ≡ Int (pos p)
same_place row n p e here =
    let equal : value_cmp (Int n) (Int (pos p)) ≡ Equal = equal_is (value_cmp (Int n) (Int (pos p))) (rw e at here) in
    let ordered : int_cmp n (pos p) ≡ Equal = sym (value_cmp-Int n (pos p)) ∙ equal in
    let same : n ≡ pos p = grind (arith, ints, nat_tests) in
    e ∙ ap (λ (m : ℤ). Int m) same
