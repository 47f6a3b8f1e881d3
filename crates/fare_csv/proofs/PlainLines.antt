-- A row that needs no quotes is written as its line, and read back from it.
use Rattle.std.proofs.Common.{◌≡◌, ℕ, List, [], ◌∷◌, ◌++◌, length, Bool, true, false, Some, refl, ap, ◌∙◌, arith}
use Rattle.std.specs.Prelude.{◌==◌, ◌&&◌, not}
use Rattle.std.specs.List.{join_with_byte, list_all}
use Rattle.std.proofs.lemmas.Bool.{false≢true}
use Rattle.std.proofs.lemmas.List.{append-nil}
use Rattle.std.proofs.lemmas.Bool.Decides.{nat_tests}
use Rattle.csv.specs.Machine.{next_record}
use Rattle.csv.specs.Reading.{default_config, strip_bom}
use Rattle.csv.specs.Writing.{default_writer, field_text, fields_text, is_blank, needs_byte, needs_quotes, row_text, with_flexible}
use Rattle.csv.specs.declared.parser.State.TheVariants as st
use Rattle.csv.proofs.RoundTrip.{read-write}
use Rattle.fare_csv.specs.Lines.{is_plain_byte, is_plain_field, is_plain_row, line_of, lines_of}
use Rattle.fare_csv.specs.Rows.{Fields, rows_from, rows_of}
use Rattle.fare_csv.proofs.Streaming.{rows_from-end, rows_from-more, rows_of-from}

-- both of two tests
pub both : (a b : Bool) → (a && b) ≡ true → (a ≡ true) × (b ≡ true)
both true b e = (refl, e)
both false b e = absurd (false≢true e)

not-true : (b : Bool) → not b ≡ true → b ≡ false
not-true true e = absurd (false≢true e)
not-true false e = refl

-- a plain byte calls for no quotes
needs_byte-plain : (flexible : Bool) (b : ℕ) → is_plain_byte b ≡ true → needs_byte (with_flexible default_writer flexible) b ≡ false
needs_byte-plain flexible b plain = grind (arith, nat_tests)

-- nor does a plain field
needs_quotes-plain : (flexible : Bool) (field : List ℕ) → is_plain_field field ≡ true → needs_quotes (with_flexible default_writer flexible) field ≡ false
needs_quotes-plain flexible [] plain = refl
needs_quotes-plain flexible (b ∷ rest) plain =
    let parts = both (is_plain_byte b) (is_plain_field rest) plain in
    rw (needs_byte-plain flexible b parts.0) (needs_quotes-plain flexible rest parts.1)

-- a plain field is written as it is
field_text-plain : (flexible : Bool) (field : List ℕ) → is_plain_field field ≡ true → field_text (with_flexible default_writer flexible) field ≡ field
field_text-plain flexible field plain = rw (needs_quotes-plain flexible field plain) refl

-- the fields of a plain row, with their commas
body-plain : (flexible : Bool) (first : List ℕ) (others : List (List ℕ)) → is_plain_field first ≡ true → list_all is_plain_field others ≡ true
    → field_text (with_flexible default_writer flexible) first ++ fields_text (with_flexible default_writer flexible) others ≡ join_with_byte 44 (first ∷ others)
unfolding fields_text
body-plain flexible first [] plain all = rw (field_text-plain flexible first plain, append-nil first) refl
body-plain flexible first (next ∷ others) plain all =
    let parts = both (is_plain_field next) (list_all is_plain_field others) all in
    rw (field_text-plain flexible first plain) (ap (λ (t : List ℕ). first ++ (44 ∷ t)) (body-plain flexible next others parts.0 parts.1))

-- a plain row shows a byte
is_blank-plain : (flexible : Bool) (first : List ℕ) (others : List (List ℕ)) → (length first == 0) ≡ false → is_plain_field first ≡ true
    → is_blank (with_flexible default_writer flexible) (first ∷ others) ≡ false
unfolding is_blank
is_blank-plain flexible first [] some plain = rw (field_text-plain flexible first plain) some
is_blank-plain flexible first (next ∷ others) some plain = refl

-- what makes a row plain
pub row-parts : (first : List ℕ) (others : Fields) → is_plain_row (first ∷ others) ≡ true
    → ((length first == 0) ≡ false) × (is_plain_field first ≡ true) × (list_all is_plain_field others ≡ true)
unfolding is_plain_row
row-parts first others plain =
    let parts = both (not (length first == 0) && is_plain_field first) (list_all is_plain_field others) plain in
    let head = both (not (length first == 0)) (is_plain_field first) parts.0 in
    (not-true _ head.0, head.1, parts.1)

-- a plain row is written as its line
pub row_text-plain : (flexible : Bool) (row : Fields) → is_plain_row row ≡ true → row_text (with_flexible default_writer flexible) row ≡ line_of row
unfolding is_plain_row line_of
row_text-plain flexible [] plain = absurd (false≢true plain)
row_text-plain flexible (first ∷ others) plain =
    let (some, head, tail) = row-parts first others plain in
    rw (is_blank-plain flexible first others some head, body-plain flexible first others head tail) refl

-- a plain row is read back from its line
pub next_record-plain : (row : Fields) (rest : List ℕ) → is_plain_row row ≡ true
    → next_record default_config st.StartRecord [] [] (line_of row ++ rest) ≡ Some (row, st.StartRecord, rest)
unfolding is_plain_row
next_record-plain [] rest plain = absurd (false≢true plain)
next_record-plain (first ∷ others) rest plain = rw (← row_text-plain false (first ∷ others) plain) (read-write (first ∷ others) rest)

-- the rows of lines of plain rows are these rows
rows_from-lines : (rows : List Fields) → list_all is_plain_row rows ≡ true → rows_from st.StartRecord (lines_of rows) ≡ rows
unfolding lines_of next_record
rows_from-lines [] plain = rows_from-end st.StartRecord [] refl
rows_from-lines (row ∷ rows) plain =
    let parts = both (is_plain_row row) (list_all is_plain_row rows) plain in
    rows_from-more st.StartRecord (line_of row ++ lines_of rows) (row, st.StartRecord, lines_of rows) (next_record-plain row (lines_of rows) parts.0)
    ∙ ap (λ (more : List Fields). row ∷ more) (rows_from-lines rows parts.1)

-- a text whose first byte isn't that of a byte order mark is kept whole
pub strip_bom-other : (byte : ℕ) (rest : List ℕ) → (byte == 239) ≡ false → strip_bom (byte ∷ rest) ≡ byte ∷ rest
unfolding strip_bom
strip_bom-other a [] e = refl
strip_bom-other a (b ∷ []) e = refl
strip_bom-other a (b ∷ c ∷ rest) e = rw e refl

-- a plain byte is none
no-mark : (byte : ℕ) → is_plain_byte byte ≡ true → (byte == 239) ≡ false
no-mark byte plain = grind (arith, nat_tests)

-- the line of a plain row starts with a plain byte
line-start : (row : Fields) → is_plain_row row ≡ true → (byte : ℕ) × (rest : List ℕ) × (line_of row ≡ byte ∷ rest) × ((byte == 239) ≡ false)
unfolding is_plain_row line_of
line-start [] plain = absurd (false≢true plain)
line-start ([] ∷ others) plain = absurd (false≢true plain)
line-start ((byte ∷ bytes) ∷ []) plain =
    let (some, head, tail) = row-parts (byte ∷ bytes) [] plain in
    (byte, bytes ++ (10 ∷ []), refl, no-mark byte (both (is_plain_byte byte) (is_plain_field bytes) head).0)
line-start ((byte ∷ bytes) ∷ next ∷ others) plain =
    let (some, head, tail) = row-parts (byte ∷ bytes) (next ∷ others) plain in
    (byte, (bytes ++ (44 ∷ join_with_byte 44 (next ∷ others))) ++ (10 ∷ []), refl, no-mark byte (both (is_plain_byte byte) (is_plain_field bytes) head).0)

-- lines of plain rows have no byte order mark
strip_bom-lines : (rows : List Fields) → list_all is_plain_row rows ≡ true → strip_bom (lines_of rows) ≡ lines_of rows
unfolding lines_of strip_bom
strip_bom-lines [] plain = refl
strip_bom-lines (row ∷ rows) plain =
    let (byte, rest, line, other) = line-start row (both (is_plain_row row) (list_all is_plain_row rows) plain).0 in
    rw line (strip_bom-other byte (rest ++ lines_of rows) other)

-- plain rows are the rows of their lines
pub rows_of-lines : (rows : List Fields) → list_all is_plain_row rows ≡ true → rows_of (lines_of rows) ≡ rows
rows_of-lines rows plain = rows_of-from (lines_of rows) ∙ rw (strip_bom-lines rows plain) (rows_from-lines rows plain)
