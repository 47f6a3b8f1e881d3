-- What the statements answer, in the words of their clauses.
use Rattle.std.proofs.Common.{◌≡◌, ◌∙◌, ◌<◌, ◌+◌, ◌-◌, ℕ, pos, min, List, [], ◌∷◌, length, get_or, false, Option, Some, None, Result, Ok, Err, IfSome, OnOk, IsTrue, refl, sym, ap, arith}
use Rattle.std.specs.List.{filter}
use Rattle.std.specs.Option.{ForSome}
use Rattle.std.proofs.lemmas.Option.{slice_get-get_or}
use Rattle.sqlite_value.specs.declared.value.Value.{Value}
use Rattle.sqlite_value.specs.declared.value.Value.TheVariants as value
use Rattle.sqlite_value.specs.declared.value.Value.TheVariants.{Int, Blob}
use Rattle.sqlite_value.specs.Order.{Row, column}
use Rattle.sqlite_sql.specs.Aggregate.{count}
use Rattle.sqlite.specs.Effect.{Database}
use Rattle.sqlite.specs.State.{HasCleanDisk, QueriesRow, State}
use Rattle.fare_sqlite.specs.Bodies.{blob_of, has_no_body, placed_body, rows_at}
use Rattle.fare_ports.specs.Keeper.{HasPlace, body_at}
use Rattle.fare_sqlite.specs.Kept.{HasTable, Speaks, Stays, kept, rows_of}
use Rattle.fare_sqlite.proofs.Places.{stand_for}
use Rattle.fare_sqlite.proofs.States.{Told, open_is_clean, still_table, tells, tells_bodies, told, told_stays_back}
use Rattle.fare_sqlite.proofs.StatementForms.{count_at_text, count_text, others_text, select_text}
use Rattle.fare_sqlite.proofs.Steps.{all_pass, counted, counted_at, counted_others, counted_speaks, selected}

-- a number below the greatest that is told is exact
exact : (n size : ℕ) → n < 9223372036854775807 → Int (pos n) ≡ count size → n ≡ size
exact n size low e =
    let same : n ≡ min size 9223372036854775807 = cc in omega (arith, same, low)

-- what count(*) tells of the rows of a connection that stays
told_count : (old new : State) (row : Row) (n : ℕ) (amount : List Row → ℕ) → Stays old new → IsTrue new.is_open → column row 0 ≡ Int (pos n) → n < 9223372036854775807 → column row 0 ≡ count (amount (rows_of old)) → n ≡ amount (rows_of new)
told_count old new row n amount stays up read low counted =
    exact n (amount (rows_of new)) low (sym read ∙ counted ∙ sym (ap (λ (db : Database). count (amount (db.trees 0))) (stays.same up)))

-- a number that was read of a row, and is told exactly
abbrev pub IsRead : Row → ℕ → Type 0
IsRead row n = (column row 0 ≡ Int (pos n)) × (n < 9223372036854775807)

pub rows_told : (old new : State) (row : Row) (n : ℕ) → Stays old new → (IsTrue old.is_open → HasTable old) → (HasCleanDisk new → QueriesRow count_text [] old new (Ok row)) → (new.is_clean ≡ false → new.is_open ≡ false) → IsRead row n → IsTrue new.is_open → n ≡ length (rows_of new)
rows_told old new row n stays table h shut read up =
    let all = counted old new row (table (stays.was_open up)) (h (open_is_clean new shut up)) in
    told_count old new row n length stays up read.0 read.1 (all ∙ ap (λ (rows : List Row). count (length rows)) (all_pass [] (rows_of old)))

pub others_told : (old new : State) (row : Row) (n : ℕ) → Stays old new → (IsTrue old.is_open → HasTable old) → (HasCleanDisk new → QueriesRow others_text [] old new (Ok row)) → (new.is_clean ≡ false → new.is_open ≡ false) → IsRead row n → IsTrue new.is_open → n ≡ length (filter has_no_body (rows_of new))
others_told old new row n stays table h shut read up =
    told_count old new row n (λ rows. length (filter has_no_body rows)) stays up read.0 read.1 (counted_others old new row (table (stays.was_open up)) (h (open_is_clean new shut up)))

pub at_told : (old new : State) (place : ℕ) (row : Row) (n : ℕ) → Stays old new → (IsTrue old.is_open → HasTable old) → (HasCleanDisk new → QueriesRow count_at_text (Int (pos place) ∷ []) old new (Ok row)) → (new.is_clean ≡ false → new.is_open ≡ false) → IsRead row n → IsTrue new.is_open → n ≡ length (rows_at place (rows_of new))
at_told old new place row n stays table h shut read up =
    told_count old new row n (λ rows. length (rows_at place rows)) stays up read.0 read.1 (counted_at old new place row (table (stays.was_open up)) (h (open_is_clean new shut up)))

blob_told : (v : Value) (body : Option (List ℕ)) (one two : List ℕ) → placed_body v body ≡ Some one → body ≡ Some two → one ≡ two
blob_told value.Null body one two e k = absurd cc
blob_told (Int n) body one two e k = cc
blob_told (value.Real x) body one two e k = absurd cc
blob_told (value.Text t) body one two e k = absurd cc
blob_told (Blob b) body one two e k = absurd cc

-- the body that is selected is that of the place
pub body_told : (old new : State) (place : ℕ) (row : Row) (bytes : List ℕ) → Stays old new → Speaks old → ForSome (kept old) (HasPlace place) → (HasCleanDisk new → QueriesRow select_text (Int (pos place) ∷ []) old new (Ok row)) → (new.is_clean ≡ false → new.is_open ≡ false) → column row 0 ≡ Blob bytes → IfSome (kept new) (λ bodies. body_at place bodies ≡ Some bytes)
body_told old new place row bytes stays speaks has h shut read = some_told (kept new) refl
  where
    some_told : (o : Told) → kept new ≡ o → IfSome o (λ bodies. body_at place bodies ≡ Some bytes)
    some_told None e = tt
    some_told (Some bodies) e =
        let up = (tells new bodies e).is_open in
        let was = stays.was_open up in
        let it = speaks was in
        let place_is = has it.bodies (tells_bodies old was it) in
        let found = selected old new place row it place_is (h (open_is_clean new shut up)) in
        let cell : column row 0 ≡ column found.0 2 = ap (λ (r : Row). column r 0) found.3 in
        let blob : blob_of (column found.0 2) ≡ Some bytes = ap blob_of (sym cell ∙ read) in
        let same : get_or it.bodies (place - 1) [] ≡ bytes = blob_told (column found.0 0) (blob_of (column found.0 2)) (get_or it.bodies (place - 1) []) bytes found.2 blob in
        let kept_before : kept old ≡ Some bodies =
        (let there = told_stays_back old new stays (λ w. (speaks w).table.settled) bodies e in there) in
        let both : Some it.bodies ≡ Some bodies = sym (tells_bodies old was it) ∙ kept_before in
        let is : it.bodies ≡ bodies = cc in
        let low = place_is.0 in
        let high = place_is.1 in
        let inside : place - 1 < length it.bodies = omega arith in
        rw (← is) (slice_get-get_or it.bodies (place - 1) [] inside ∙ ap (λ (b : List ℕ). Some b) same)

-- as many bodies as rows
pub many_told : (s : State) (n : ℕ) → Speaks s → (IsTrue s.is_open → n ≡ length (rows_of s)) → IfSome (kept s) (λ bodies. n ≡ length bodies)
many_told s n speaks told = some_told (kept s) refl
  where
    some_told : (o : Told) → kept s ≡ o → IfSome o (λ bodies. n ≡ length bodies)
    some_told None e = tt
    some_told (Some bodies) e =
        let up = (tells s bodies e).is_open in
        let it = speaks up in
        let now = tells_bodies s up it in
        let same : it.bodies ≡ bodies = cc in
        let many = (stand_for (rows_of s) it.bodies it.are).many in
        let size = ap length same in
        let rows = told up in
        omega arith

-- a table whose rows were counted out stands for bodies, in the connection that is left
pub places_speak : {T E : Type 0} (answer : Result T E) (first second last : State) (size others : ℕ) → (IsTrue first.is_open → size ≡ length (rows_of first)) → Stays first second
    → (IsTrue second.is_open → others ≡ length (filter has_no_body (rows_of second))) → others ≡ 0 → Stays second last → (IsTrue second.is_open → HasTable second)
    → OnOk answer (IsTrue last.is_open → (k : ℕ) → k < size → length (rows_at (k + 1) (rows_of last)) ≡ 1) → OnOk answer (Speaks last)
places_speak (Err e) first second last size others many one told zero two table each = tt
places_speak (Ok value) first second last size others many one told zero two table each = λ up.
    let middle = two.was_open up in
    let rows = ap (λ (db : Database). db.trees 0) (two.same up) in
    let before = ap (λ (db : Database). db.trees 0) (one.same middle) in
    let none : length (filter has_no_body (rows_of last)) ≡ 0 = ap (λ (all : List Row). length (filter has_no_body all)) rows ∙ sym (told middle) ∙ zero in
    let size_is : size ≡ length (rows_of last) = many (one.was_open middle) ∙ sym (ap length (rows ∙ before)) in
    counted_speaks last (still_table second last two table up) none (λ k within. each up k (omega (arith, size_is, within)))
