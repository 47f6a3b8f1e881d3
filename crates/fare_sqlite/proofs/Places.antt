-- The bodies of rows, place by place.
use Rattle.std.proofs.Common.{◌≡◌, ◌≢◌, ℕ, zero, suc, ◌+◌, ◌-◌, ◌<◌, ◌≤◌, pos, List, [], ◌∷◌, ◌++◌, length, get_or, slice_set, set, Option, Some, None, Bool, true, false, ◌||◌, inl, inr, refl, ap, arith, length-append, add-zero}
use Rattle.std.specs.List.{filter, All}
use Rattle.std.proofs.lemmas.List.{nil_from_length, length-set, get_or-set_same, get_or-set_other}
use Rattle.std.proofs.lemmas.List.Elements.{All-filter}
use Rattle.std.proofs.lemmas.Bool.{cases_eq}
use Rattle.std.proofs.Math.ListN.{get_or-append}
use Rattle.std.proofs.Math.Seq.{get_or-append_seam}
use Rattle.sqlite_value.specs.declared.value.Value.{Value}
use Rattle.sqlite_value.specs.declared.value.Value.TheVariants.{Null, Int, Real, Text, Blob}
use Rattle.sqlite_value.specs.Order.{Row, column}
use Rattle.sqlite_trees.specs.Tree.{rowid, has_rowid, put_row, without_rowid}
use Rattle.sqlite_rules.specs.Edit.{is_taken}
use Rattle.fare_sqlite.specs.Bodies.{blob_of, bodies_from, bodies_in, body_of, has_no_body, is_no_blob, is_no_int, led_by, placed_body, rows_at, sole_body}
use Rattle.fare_sqlite.proofs.Rows.{at_other, at_own, filter_put_other, filter_put_own, length_left, length_put, none_at, none_left, others_left}

-- rows stand for bodies: as many, and at each place one row with the body
pub record StandFor (rows : List Row) (bodies : List (List ℕ)) : Type 0 where
  pub many : length bodies ≡ length rows
  pub each : (k : ℕ) → k < length bodies → sole_body (rows_at (k + 1) rows) ≡ Some (get_or bodies k [])

led_is : (first : Option (List ℕ)) (rest : Option (List (List ℕ))) (bodies : List (List ℕ)) → led_by first rest ≡ Some bodies → (body : List ℕ) × (others : List (List ℕ)) × (first ≡ Some body) × (rest ≡ Some others) × (bodies ≡ body ∷ others)
led_is None rest bodies e = absurd cc
led_is (Some body) None bodies e = absurd cc
led_is (Some body) (Some others) bodies e = (body, others, refl, refl, cc)

from_many : (count place : ℕ) (rows : List Row) (bodies : List (List ℕ)) → bodies_from count place rows ≡ Some bodies → length bodies ≡ count
unfolding bodies_from
from_many zero place rows bodies e = let none : [] ≡ bodies = cc in rw (← none) refl
from_many (suc count) place rows bodies e =
    let parts = led_is (sole_body (rows_at place rows)) (bodies_from count (suc place) rows) bodies e in
    let rest = from_many count (suc place) rows parts.1 parts.3 in
    rw parts.4 (ap suc rest)

from_each : (count place : ℕ) (rows : List Row) (bodies : List (List ℕ)) → bodies_from count place rows ≡ Some bodies → (k : ℕ) → k < count → sole_body (rows_at (place + k) rows) ≡ Some (get_or bodies k [])
unfolding bodies_from
from_each zero place rows bodies e k within = absurd (omega arith)
from_each (suc count) place rows bodies e zero within =
    let parts = led_is (sole_body (rows_at place rows)) (bodies_from count (suc place) rows) bodies e in
    rw (add-zero place, parts.4) parts.2
from_each (suc count) place rows bodies e (suc k) within =
    let parts = led_is (sole_body (rows_at place rows)) (bodies_from count (suc place) rows) bodies e in
    let rest = from_each count (suc place) rows parts.1 parts.3 k (omega arith) in
    let same : place + suc k ≡ suc place + k = omega arith in
    rw (same, parts.4) rest

pub stand_for : (rows : List Row) (bodies : List (List ℕ)) → bodies_in rows ≡ Some bodies → StandFor rows bodies
unfolding bodies_in
stand_for rows bodies e =
    let many = from_many (length rows) 1 rows bodies e in
    record {
      many = many;
      each = λ k within.
          let same : k + 1 ≡ 1 + k = omega arith in
          rw same (from_each (length rows) 1 rows bodies e k (omega arith));
    }

back_from : (count place : ℕ) (rows : List Row) (bodies : List (List ℕ)) → length bodies ≡ count → ((k : ℕ) → k < count → sole_body (rows_at (place + k) rows) ≡ Some (get_or bodies k [])) → bodies_from count place rows ≡ Some bodies
unfolding bodies_from
back_from zero place rows [] many each = refl
back_from zero place rows (body ∷ bodies) many each = absurd (omega arith)
back_from (suc count) place rows [] many each = absurd (omega arith)
back_from (suc count) place rows (body ∷ bodies) many each =
    let first : sole_body (rows_at place rows) ≡ Some body = rw (add-zero place) at (each zero (omega arith)) in
    let others = back_from count (suc place) rows bodies (omega arith) (λ k within.
    let same : suc place + k ≡ place + suc k = omega arith in
    rw same (each (suc k) (omega arith))) in
    rw (first, others) refl

pub bodies_are : (rows : List Row) (bodies : List (List ℕ)) → StandFor rows bodies → bodies_in rows ≡ Some bodies
unfolding bodies_in
bodies_are rows bodies stand =
    let many = stand.many in
    back_from (length rows) 1 rows bodies many (λ k within.
    let same : 1 + k ≡ k + 1 = omega arith in
    rw same (stand.each k (omega arith)))

-- a row with the next rowid and a body puts the body at the end
module _ (rows : List Row) (bodies : List (List ℕ)) (new : Row) (body : List ℕ) (stand : StandFor rows bodies) (id : rowid new ≡ Int (pos (length rows + 1)))
    (holds : body_of new ≡ Some body) (free : is_taken rows new ≡ false) where
  earlier : (k : ℕ) → k < length bodies → sole_body (rows_at (k + 1) (put_row new rows)) ≡ Some (get_or (bodies ++ body ∷ []) k [])
  earlier k within =
      let many = stand.many in
      let other : length rows + 1 ≢ k + 1 = omega arith in
      let left = filter_put_other (has_rowid (pos (k + 1))) new rows free (at_other new (length rows + 1) (k + 1) id other) in
      rw (left, get_or-append bodies (body ∷ []) [] k within) (stand.each k within)

  last : sole_body (rows_at (length bodies + 1) (put_row new rows)) ≡ Some (get_or (bodies ++ body ∷ []) (length bodies) [])
  last =
      let many = stand.many in
      let none = none_at rows new (length rows + 1) id free in
      let own = filter_put_own (has_rowid (pos (length rows + 1))) new rows free (at_own new (length rows + 1) id) none in
      let here : sole_body (rows_at (length rows + 1) (put_row new rows)) ≡ Some body = rw own holds in
      let seam = get_or-append_seam bodies body [] [] in
      rw seam (rw (← many) at here)

  each_place : (k : ℕ) → k < length (bodies ++ body ∷ []) → sole_body (rows_at (k + 1) (put_row new rows)) ≡ Some (get_or (bodies ++ body ∷ []) k [])
  each_place k within =
      elim (cases_eq k (length bodies)) [
        | inl same ↦ rw same last
        | inr other ↦ earlier k (omega (arith, length-append bodies (body ∷ []), other))
      ]

  pub appended_at : StandFor (put_row new rows) (bodies ++ body ∷ [])
  appended_at =
      let many = stand.many in
      let longer = length_put new rows free in
      let size = length-append bodies (body ∷ []) in
      let one : length (body ∷ []) ≡ 1 = refl in
      record { many = omega arith; each = each_place }

pub appended : (rows : List Row) (bodies : List (List ℕ)) (new : Row) (body : List ℕ) → bodies_in rows ≡ Some bodies → rowid new ≡ Int (pos (length rows + 1)) → body_of new ≡ Some body → is_taken rows new ≡ false → bodies_in (put_row new rows) ≡ Some (bodies ++ body ∷ [])
appended rows bodies new body e id holds free = bodies_are (put_row new rows) (bodies ++ body ∷ []) (appended_at rows bodies new body (stand_for rows bodies e) id holds free)

sole_one : (rows : List Row) (body : List ℕ) → sole_body rows ≡ Some body → (row : Row) × (rows ≡ row ∷ []) × (body_of row ≡ Some body)
sole_one [] body e = absurd cc
sole_one (row ∷ []) body e = (row, refl, e)
sole_one (row ∷ other ∷ more) body e = absurd cc

-- the one row at a place
pub row_there : (rows : List Row) (bodies : List (List ℕ)) (place : ℕ) → bodies_in rows ≡ Some bodies → 1 ≤ place → place ≤ length bodies → (row : Row) × (rows_at place rows ≡ row ∷ []) × (body_of row ≡ Some (get_or bodies (place - 1) []))
row_there rows bodies place e low high =
    let stand = stand_for rows bodies e in
    let same : (place - 1) + 1 ≡ place = omega arith in
    sole_one (rows_at place rows) (get_or bodies (place - 1) []) (rw same at (stand.each (place - 1) (omega arith)))

-- a row that is put in the place of another puts its body there
module _ (rows : List Row) (bodies : List (List ℕ)) (place : ℕ) (new : Row) (body : List ℕ) (stand : StandFor rows bodies) (low : 1 ≤ place) (high : place ≤ length bodies)
    (one : length (rows_at place rows) ≡ 1) (id : rowid new ≡ Int (pos place)) (holds : body_of new ≡ Some body) (free : is_taken (without_rowid (pos place) rows) new ≡ false) where
  abbrev left : List Row
  left = without_rowid (pos place) rows

  others_stay : (k : ℕ) → k < length bodies → k ≢ place - 1 → sole_body (rows_at (k + 1) (put_row new left)) ≡ Some (get_or (set bodies (place - 1) body) k [])
  others_stay k within apart =
      let other : place ≢ k + 1 = omega arith in
      let away : k + 1 ≢ place = omega arith in
      let kept = filter_put_other (has_rowid (pos (k + 1))) new left free (at_other new place (k + 1) id other) in
      let same = get_or-set_other bodies (place - 1) k body [] apart in
      rw (kept, others_left place (k + 1) away rows, same) (stand.each k within)

  own_there : sole_body (rows_at place (put_row new left)) ≡ Some (get_or (set bodies (place - 1) body) (place - 1) [])
  own_there =
      let within : place - 1 < length bodies = omega arith in
      let own = filter_put_own (has_rowid (pos place)) new left free (at_own new place id) (none_left place rows) in
      rw (own, get_or-set_same bodies (place - 1) body [] within) holds

  replaced_each : (k : ℕ) → k < length (set bodies (place - 1) body) → sole_body (rows_at (k + 1) (put_row new left)) ≡ Some (get_or (set bodies (place - 1) body) k [])
  replaced_each k within =
      let inside : k < length bodies = omega (arith, length-set bodies (place - 1) body) in
      elim (cases_eq k (place - 1)) [
        | inl same ↦ (let here : (place - 1) + 1 ≡ place = omega arith in rw (same, here) own_there)
        | inr other ↦ others_stay k inside other
      ]

  pub replaced_at : StandFor (put_row new left) (set bodies (place - 1) body)
  replaced_at =
      let many = stand.many in
      let longer = length_put new left free in
      let rest = length_left place rows in
      let size = length-set bodies (place - 1) body in
      record { many = omega arith; each = replaced_each }

pub replaced : (rows : List Row) (bodies : List (List ℕ)) (place : ℕ) (new : Row) (body : List ℕ) → bodies_in rows ≡ Some bodies → 1 ≤ place → place ≤ length bodies → rowid new ≡ Int (pos place) → body_of new ≡ Some body → is_taken (without_rowid (pos place) rows) new ≡ false → bodies_in (put_row new (without_rowid (pos place) rows)) ≡ Some (slice_set bodies (place - 1) body)
replaced rows bodies place new body e low high id holds free =
    let there = row_there rows bodies place e low high in
    let one : length (rows_at place rows) ≡ 1 = rw (there.1) refl in
    bodies_are (put_row new (without_rowid (pos place) rows)) (set bodies (place - 1) body) (replaced_at rows bodies place new body (stand_for rows bodies e) low high one id holds free)

-- the bodies of rows that are so counted
bodies_up : (count place : ℕ) (rows : List Row) → ((k : ℕ) → k < count → (body : List ℕ) × (sole_body (rows_at (place + k) rows) ≡ Some body)) → (bodies : List (List ℕ)) × (bodies_from count place rows ≡ Some bodies)
unfolding bodies_from
bodies_up zero place rows each = ([], refl)
bodies_up (suc count) place rows each =
    let first = each zero (omega arith) in
    let here : sole_body (rows_at place rows) ≡ Some first.0 = rw (add-zero place) at first.1 in
    let rest = bodies_up count (suc place) rows (λ k within.
    let same : place + suc k ≡ suc place + k = omega arith in
    let more = each (suc k) (omega arith) in
    (more.0, rw same at more.1)) in
    (first.0 ∷ rest.0, rw (here, rest.1) refl)

blob_there : (v : Value) → is_no_blob v ≡ false → (body : List ℕ) × (blob_of v ≡ Some body)
blob_there Null e = absurd cc
blob_there (Int n) e = absurd cc
blob_there (Real x) e = absurd cc
blob_there (Text t) e = absurd cc
blob_there (Blob bytes) e = (bytes, refl)

body_there : (place body : Value) → (is_no_int place || is_no_blob body) ≡ false → (bytes : List ℕ) × (placed_body place (blob_of body) ≡ Some bytes)
body_there Null body e = absurd cc
body_there (Int n) body e = blob_there body e
body_there (Real x) body e = absurd cc
body_there (Text t) body e = absurd cc
body_there (Blob bytes) body e = absurd cc

one_blob : (rows : List Row) → length rows ≡ 1 → All (λ row. has_no_body row ≡ false) rows → (body : List ℕ) × (sole_body rows ≡ Some body)
one_blob [] e all = absurd (omega arith)
one_blob (row ∷ []) e all = body_there (column row 0) (column row 2) (all 0 row (omega arith))
one_blob (row ∷ other ∷ more) e all = absurd (omega arith)

passed_over : (test : Row → Bool) (row : Row) (rows : List Row) (a : Bool) → test row ≡ a → filter test (row ∷ rows) ≡ [] → (test row ≡ false) × (filter test rows ≡ [])
passed_over test row rows true k e = let gone : row ∷ filter test rows ≡ [] = rw k at e in absurd cc
passed_over test row rows false k e = (k, rw k at e)

none_fails : (test : Row → Bool) (rows : List Row) → filter test rows ≡ [] → (k : ℕ) (d : Row) → k < length rows → test (get_or rows k d) ≡ false
none_fails test [] e k d within = absurd (omega arith)
none_fails test (row ∷ rows) e zero d within = (passed_over test row rows (test row) refl e).0
none_fails test (row ∷ rows) e (suc k) d within = none_fails test rows (passed_over test row rows (test row) refl e).1 k d (omega arith)

-- rows of which none has no blob, and one stands at each place, stand for bodies
pub counted_out : (rows : List Row) → length (filter has_no_body rows) ≡ 0 → ((k : ℕ) → k < length rows → length (rows_at (k + 1) rows) ≡ 1) → (bodies : List (List ℕ)) × (bodies_in rows ≡ Some bodies)
unfolding bodies_in
counted_out rows none each =
    let test : Row → Bool = has_no_body in
    let all = none_fails test rows (nil_from_length (filter test rows) none) in
    bodies_up (length rows) 1 rows (λ k within.
    let same : k + 1 ≡ 1 + k = omega arith in
    let one : length (rows_at (1 + k) rows) ≡ 1 = rw same at (each k within) in
    one_blob (rows_at (1 + k) rows) one (All-filter (has_rowid (pos (1 + k))) (λ row. test row ≡ false) rows all))
