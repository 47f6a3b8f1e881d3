-- The fields of a plain line, taken one after the other.
use Rattle.std.proofs.Common.{◌≡◌, ◌-◌, ℕ, suc, List, [], ◌∷◌, ◌++◌, length, Bool, true, false, refl, sym, ap, ◌∙◌, append_assoc, ◌<◌, arith}
use Rattle.std.specs.Prelude.{◌==◌, ◌&&◌, slice_index_or, Result, Ok}
use Rattle.std.specs.List.{join_with_byte, list_all}
use Rattle.std.proofs.lemmas.Bool.{false≢true}
use Rattle.std.proofs.lemmas.Bool.Decides.{nat_tests}
use Rattle.std.proofs.lemmas.List.{append-nil, length-append, nil_from_length}
use Rattle.std.proofs.lemmas.List.Folds.{list_all-append}
use Rattle.csv.specs.Machine.{next_record}
use Rattle.csv.specs.declared.parser.State.TheVariants as st
use Rattle.fare_records.specs.declared.record.Record.{Record}
use Rattle.fare_csv.specs.declared.head.Version.{Version}
use Rattle.fare_csv.specs.declared.text_fault.TextFault.{TextFault}
use Rattle.fare_csv.specs.Lines.{is_plain_byte, is_plain_field, is_plain_row, line_of}
use Rattle.fare_csv.specs.Pieces.{IsRead, ends_a_line, is_unmarked, is_unquoted, is_whole, records_each}
use Rattle.fare_csv.specs.Rows.{Fields, rows_from}
use Rattle.fare_csv.specs.TariffText.{followed_by, record_of}
use Rattle.fare_csv.proofs.PlainLines.{both, next_record-plain, row-parts}
use Rattle.fare_csv.proofs.RecordsLemmas.{behind, behind-followed, behind-none}
use Rattle.fare_csv.proofs.RowsOfPieces.{rows_of_unmarked}
use Rattle.fare_csv.proofs.Streaming.{rows_from-end, rows_from-more}

-- fields that were taken, each with the comma behind it
unfoldable pub opened : Fields → List ℕ
opened [] = []
opened (field ∷ fields) = field ++ (44 ∷ opened fields)

-- one field more
opened-more : (fields : Fields) (field rest : List ℕ) → opened (fields ++ (field ∷ [])) ++ rest ≡ opened fields ++ (field ++ (44 ∷ rest))
unfolding opened
opened-more [] field rest = append_assoc field (44 ∷ []) rest
opened-more (first ∷ fields) field rest =
    append_assoc first (44 ∷ opened (fields ++ (field ∷ []))) rest
    ∙ ap (λ (more : List ℕ). first ++ (44 ∷ more)) (opened-more fields field rest)
    ∙ sym (append_assoc first (44 ∷ opened fields) (field ++ (44 ∷ rest)))

-- a field that a line feed ends is the last of its line
opened-last : (fields : Fields) (field rest : List ℕ) → opened fields ++ (field ++ (10 ∷ rest)) ≡ line_of (fields ++ (field ∷ [])) ++ rest
unfolding opened line_of
opened-last [] field rest = sym (append_assoc field (10 ∷ []) rest)
opened-last (first ∷ []) field rest =
    append_assoc first (44 ∷ []) (field ++ (10 ∷ rest))
    ∙ ap (λ (more : List ℕ). first ++ (44 ∷ more)) (opened-last [] field rest)
    ∙ sym (append_assoc first (44 ∷ (field ++ (10 ∷ []))) rest)
    ∙ ap (λ (line : List ℕ). line ++ rest) (sym (append_assoc first (44 ∷ field) (10 ∷ [])))
opened-last (first ∷ second ∷ fields) field rest =
    let more = join_with_byte 44 ((second ∷ fields) ++ (field ∷ [])) in
    append_assoc first (44 ∷ opened (second ∷ fields)) (field ++ (10 ∷ rest))
    ∙ ap (λ (more : List ℕ). first ++ (44 ∷ more)) (opened-last (second ∷ fields) field rest)
    ∙ sym (append_assoc first (44 ∷ (more ++ (10 ∷ []))) rest)
    ∙ ap (λ (line : List ℕ). line ++ rest) (sym (append_assoc first (44 ∷ more) (10 ∷ [])))

-- one plain field more
plain-more : (fields : Fields) (field : List ℕ) → list_all is_plain_field fields ≡ true → is_plain_field field ≡ true
    → list_all is_plain_field (fields ++ (field ∷ [])) ≡ true
plain-more fields field all plain = rw (list_all-append is_plain_field fields (field ∷ []), all, plain) refl

-- plain fields of which the first isn't empty are a plain row
plain-row : (fields : Fields) → list_all is_plain_field fields ≡ true → (length (slice_index_or fields 0 []) == 0) ≡ false
    → is_plain_row fields ≡ true
unfolding is_plain_row
plain-row [] all some = absurd (cc some)
plain-row (first ∷ others) all some = rw some all

-- the fields of a line that were taken, and what is left of the text
pub record IsTaken (fields : Fields) (left text : List ℕ) : Type 0 where
  pub text_is : text ≡ opened fields ++ left
  pub plain : list_all is_plain_field fields ≡ true

-- none was taken
pub taken-none : (text : List ℕ) → IsTaken [] text text
unfolding opened
taken-none text = record { text_is = refl; plain = refl }

-- one more was taken
pub taken-more : (fields more : Fields) (field left behind text : List ℕ) (mark : ℕ) → IsTaken fields left text
    → left ≡ field ++ (mark ∷ behind) → is_plain_field field ≡ true → more ≡ fields ++ (field ∷ []) → mark ≡ 44 → IsTaken more behind text
taken-more fields more field left behind text mark taken cut plain longer comma = record {
  text_is = rw (taken.text_is, cut, comma, longer) (sym (opened-more fields field behind));
  plain = rw longer (plain-more fields field taken.plain plain);
}

-- the last was taken
pub taken-last : (fields row : Fields) (field left behind text : List ℕ) (mark : ℕ) → IsTaken fields left text
    → left ≡ field ++ (mark ∷ behind) → is_plain_field field ≡ true → row ≡ fields ++ (field ∷ []) → mark ≡ 10
    → (length (slice_index_or row 0 []) == 0) ≡ false
    → (text ≡ line_of row ++ behind) × (is_plain_row row ≡ true)
taken-last fields row field left behind text mark taken cut plain longer feed some = (
  rw (taken.text_is, cut, feed, longer) (opened-last fields field behind),
  plain-row row (rw longer (plain-more fields field taken.plain plain)) some,
)

-- no text has no row
nothing-left : rows_from st.StartRecord [] ≡ []
unfolding next_record
nothing-left = rows_from-end st.StartRecord [] refl

-- a plain line in front of a text is its first row
row-in-front : (row : Fields) (text behind : List ℕ) → text ≡ line_of row ++ behind → is_plain_row row ≡ true
    → rows_from st.StartRecord text ≡ row ∷ rows_from st.StartRecord behind
row-in-front row text behind cut plain =
    rw cut (rows_from-more st.StartRecord (line_of row ++ behind) (row, st.StartRecord, behind) (next_record-plain row behind plain))

-- a plain byte is no quotation mark
plain-unquoted : (byte : ℕ) → is_plain_byte byte ≡ true → is_unquoted byte ≡ true
plain-unquoted byte plain = grind (arith, nat_tests)

-- nor has a plain field one
field-unquoted : (field : List ℕ) → is_plain_field field ≡ true → list_all is_unquoted field ≡ true
field-unquoted [] plain = refl
field-unquoted (byte ∷ field) plain =
    let parts = both (is_plain_byte byte) (is_plain_field field) plain in
    rw (plain-unquoted byte parts.0) (field-unquoted field parts.1)

-- nor have plain fields with commas between them
fields-unquoted : (first : List ℕ) (others : Fields) → is_plain_field first ≡ true → list_all is_plain_field others ≡ true
    → list_all is_unquoted (join_with_byte 44 (first ∷ others)) ≡ true
fields-unquoted first [] plain all = field-unquoted first plain
fields-unquoted first (next ∷ others) plain all =
    let parts = both (is_plain_field next) (list_all is_plain_field others) all in
    rw (list_all-append is_unquoted first (44 ∷ join_with_byte 44 (next ∷ others)), field-unquoted first plain)
    (fields-unquoted next others parts.0 parts.1)

-- nor has a plain line
line-unquoted : (row : Fields) → is_plain_row row ≡ true → list_all is_unquoted (line_of row) ≡ true
unfolding is_plain_row line_of
line-unquoted [] plain = absurd (false≢true plain)
line-unquoted (first ∷ others) plain =
    let (some, head, tail) = row-parts first others plain in
    rw (list_all-append is_unquoted (join_with_byte 44 (first ∷ others)) (10 ∷ []), fields-unquoted first others head tail) refl

-- what ends a text is what ends it without its first byte
end-behind : (byte next : ℕ) (text : List ℕ) → ends_a_line (byte ∷ next ∷ text) ≡ ends_a_line (next ∷ text)
unfolding ends_a_line
end-behind byte next text =
    let at : length (byte ∷ next ∷ text) - 1 ≡ suc (length (next ∷ text) - 1) = omega arith in
    rw at refl

-- and without all that stands in front of a byte
ends-behind : (front : List ℕ) (byte : ℕ) (text : List ℕ) → ends_a_line (front ++ (byte ∷ text)) ≡ ends_a_line (byte ∷ text)
ends-behind [] byte text = refl
ends-behind (first ∷ []) byte text = end-behind first byte text
ends-behind (first ∷ second ∷ front) byte text =
    end-behind first second (front ++ (byte ∷ text)) ∙ ends-behind (second ∷ front) byte text

-- a line feed in front of a text changes nothing of whether it ends a line
feed-behind : (text : List ℕ) → ends_a_line (10 ∷ text) ≡ ends_a_line text
unfolding ends_a_line
feed-behind [] = refl
feed-behind (byte ∷ text) = end-behind 10 byte text

-- nor does a line
line-behind : (row : Fields) (text : List ℕ) → ends_a_line (line_of row ++ text) ≡ ends_a_line text
unfolding line_of
line-behind row text =
    ap ends_a_line (append_assoc (join_with_byte 44 row) (10 ∷ []) text)
    ∙ ends-behind (join_with_byte 44 row) 10 text
    ∙ feed-behind text

-- whole lines without quotation marks
abbrev is_lines : List ℕ → Bool
is_lines text = ends_a_line text && list_all is_unquoted text

-- a plain line in front of a text changes nothing of whether it has them
lines-behind : (row : Fields) (text : List ℕ) → is_plain_row row ≡ true → is_lines (line_of row ++ text) ≡ is_lines text
lines-behind row text plain =
    rw (line-behind row text, list_all-append is_unquoted (line_of row) text, line-unquoted row plain) refl

-- records were read from the start of a text, and what is left of it
pub record IsReadTo (version : Version) (records : List Record) (left text : List ℕ) : Type 0 where
  pub reading : behind records (records_each version (rows_from st.StartRecord left)) ≡ records_each version (rows_from st.StartRecord text)
  pub lines : is_lines left ≡ is_lines text

-- none was read
pub read-none : (version : Version) (text : List ℕ) → IsReadTo version [] text text
read-none version text = record { reading = behind-none _; lines = refl }

-- one more was read
pub read-more : (version : Version) (records more : List Record) (one : Record) (row : Fields) (left rest text : List ℕ)
    → IsReadTo version records left text → left ≡ line_of row ++ rest → is_plain_row row ≡ true
    → record_of version 2 row ≡ Ok one → more ≡ records ++ (one ∷ []) → IsReadTo version more rest text
unfolding records_each
read-more version records more one row left rest text read cut plain reading longer = record {
  reading =
      rw longer (
      sym (behind-followed records one (records_each version (rows_from st.StartRecord rest)))
      ∙ ap (λ (first : Result Record TextFault). behind records (followed_by first (records_each version (rows_from st.StartRecord rest)))) (sym reading)
      ∙ ap (λ (rows : List Fields). behind records (records_each version rows)) (sym (row-in-front row left rest cut plain))
      ∙ read.reading
      );
  lines = sym (lines-behind row rest plain) ∙ ap is_lines (sym cut) ∙ read.lines;
}

-- what is left behind a line is shorter
pub line-shortens : (row : Fields) (left rest : List ℕ) → left ≡ line_of row ++ rest → length rest < length left
unfolding line_of
line-shortens row left rest cut =
    let line = length-append (join_with_byte 44 row) (10 ∷ []) in
    let whole = length-append (join_with_byte 44 row ++ (10 ∷ [])) rest in
    rw (cut, whole, line) (omega arith)

-- a text of no length
no-length : (text : List ℕ) → (length text == 0) ≡ true → text ≡ []
no-length text none =
    let zero : length text ≡ 0 = grind (arith, nat_tests, none) in
    nil_from_length text zero

-- the whole text was read
pub read-all : (version : Version) (records : List Record) (left text : List ℕ) → IsReadTo version records left text → (length left == 0) ≡ true
    → is_unmarked text ≡ true → IsRead version text records
unfolding records_each behind is_whole ends_a_line
read-all version records left text read empty unmarked =
    let none = no-length left empty in
    let lines : is_lines text ≡ true = sym (rw none at read.lines) in
    let reading = rw (none, nothing-left) at read.reading in
    record {
      whole = rw (unmarked, lines) refl;
      reading = rw (← rows_of_unmarked text unmarked) (sym reading ∙ ap Ok (append-nil records));
    }
