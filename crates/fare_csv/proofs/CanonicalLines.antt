-- The lines of records, one record further.
use Rattle.std.specs.List.{All}
use Rattle.std.proofs.lemmas.List.Elements.{All-append, All-cons, All-nil}
use Rattle.fare_csv.specs.ReadBack.{ReadsBack}
use Rattle.std.proofs.Common.{◌≡◌, ◌<◌, ◌+◌, ℕ, List, [], ◌∷◌, ◌++◌, length, take, get_or, refl, sym, ap, ◌∙◌, map, append_assoc}
use Rattle.std.proofs.lemmas.List.{append-nil, map-append, take_more}
use Rattle.fare_records.specs.declared.record.Record.{Record}
use Rattle.fare_tariff.specs.Tariff.{Tariff}
use Rattle.fare_csv.specs.Rows.{Fields}
use Rattle.fare_csv.specs.Lines.{line_of, lines_of}
use Rattle.fare_csv.specs.CanonicalText.{canonical_rows, canonical_text, end_row, head_row, record_row}

-- the lines of some rows and then of others
lines_of-append : (rows others : List Fields) → lines_of (rows ++ others) ≡ lines_of rows ++ lines_of others
unfolding lines_of
lines_of-append [] others = refl
lines_of-append (row ∷ rows) others =
    ap (λ (t : List ℕ). line_of row ++ t) (lines_of-append rows others) ∙ sym (append_assoc (line_of row) (lines_of rows) (lines_of others))

lines_of-one : (row : Fields) → lines_of (row ∷ []) ≡ line_of row
unfolding lines_of
lines_of-one row = append-nil (line_of row)

-- HEAD alone
pub lines-start : (head : List ℕ) → head ≡ head ++ lines_of []
unfolding lines_of
lines-start head = sym (append-nil head)

-- the lines of the first records, and then of the next
pub lines-step : (head : List ℕ) (records : List Record) (i : ℕ) (one : Record) → i < length records → one ≡ get_or records i one
    → (head ++ lines_of (map record_row (take i records))) ++ line_of (record_row one) ≡ head ++ lines_of (map record_row (take (i + 1) records))
lines-step head records i one h is =
    rw (take_more records i one h, ← is, map-append, lines_of-append, lines_of-one) (append_assoc head (lines_of (map record_row (take i records))) (line_of (record_row one)))

-- the lines of all records, and then END
pub lines-whole : (tariff : Tariff) → (line_of (head_row tariff.number tariff.effective) ++ lines_of (map record_row tariff.records)) ++ line_of end_row ≡ canonical_text tariff
unfolding canonical_rows lines_of
lines-whole tariff =
    append_assoc (line_of (head_row tariff.number tariff.effective)) (lines_of (map record_row tariff.records)) (line_of end_row)
    ∙ ap (λ (t : List ℕ). line_of (head_row tariff.number tariff.effective) ++ t)
    (ap (λ (t : List ℕ). lines_of (map record_row tariff.records) ++ t) (sym (lines_of-one end_row)) ∙ sym (lines_of-append (map record_row tariff.records) (end_row ∷ [])))

-- no record is read back yet
pub back-start : (records : List Record) → All ReadsBack (take 0 records)
back-start records = All-nil ReadsBack

-- the first records are read back, and so is the next
pub back-step : (records : List Record) (i : ℕ) (one : Record) → i < length records → one ≡ get_or records i one
    → All ReadsBack (take i records) → ReadsBack one → All ReadsBack (take (i + 1) records)
back-step records i one h is before next =
    rw (take_more records i one h, ← is) (All-append ReadsBack (take i records) (one ∷ []) before (All-cons ReadsBack one [] next (All-nil ReadsBack)))
