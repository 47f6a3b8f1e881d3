-- The canonical text of an edition is read as the edition.
use Rattle.std.proofs.Common.{subst, sym, ◌∙◌, ◌≡◌, ℕ, List, [], ◌∷◌, ◌++◌, true, Option, Some, None, refl, map}
use Rattle.std.specs.Prelude.{Ok, is_none}
use Rattle.std.specs.List.{All, list_all}
use Rattle.std.proofs.lemmas.List.Elements.{All-head, All-tail}
use Rattle.fare_records.specs.declared.record.Record.{Record}
use Rattle.fare_tariff.specs.Tariff.{Tariff}
use Rattle.fare_tariff.specs.Check.{IsEdition, first_fault}
use Rattle.fare_csv.specs.declared.head.Version.TheVariants.{Two}
use Rattle.fare_csv.specs.Fields.{counted}
use Rattle.fare_csv.specs.Lines.{is_plain_row}
use Rattle.fare_csv.specs.CanonicalText.{canonical_rows, canonical_text, end_row, record_row}
use Rattle.fare_csv.specs.TariffText.{edition_of, end_of, ended_by, followed_by, headed, nothing_after, number_after, records_of, tariff_of}
use Rattle.fare_csv.specs.ReadBack.{HeadReadsBack, ReadsBack}
use Rattle.fare_csv.proofs.PlainLines.{rows_of-lines}

-- the rows of records, and END behind them, are read as the records
records_read_back : (records : List Record) (number : ℕ) → All ReadsBack records → records_of Two number (map record_row records ++ (end_row ∷ [])) ≡ Ok records
unfolding records_of end_of counted nothing_after ended_by followed_by
records_read_back [] number each = refl
records_read_back (one ∷ records) number each =
    let first = All-head ReadsBack one records each in
    rw (first.goes_on, first.reads number, records_read_back records (number_after number) (All-tail ReadsBack one records each)) refl

-- and need no quotes
records_are_plain : (records : List Record) → All ReadsBack records → list_all is_plain_row (map record_row records ++ (end_row ∷ [])) ≡ true
unfolding is_plain_row
records_are_plain [] each = refl
records_are_plain (one ∷ records) each =
    let first = All-head ReadsBack one records each in
    rw (first.plain) (records_are_plain records (All-tail ReadsBack one records each))

-- the rows of an edition are read as the edition
rows_read_back : (t : Tariff) → HeadReadsBack t.number t.effective → All ReadsBack t.records → tariff_of (canonical_rows t) ≡ Ok t
unfolding tariff_of headed canonical_rows
rows_read_back t head each = rw (head.reads, records_read_back t.records 2 each) refl

no_fault-None : {A : Type 0} (found : Option A) → is_none found ≡ true → found ≡ None
no_fault-None None h = refl
no_fault-None (Some fault) h = cc h

-- the text of an edition is read as the edition
pub edition_reads_back : (t : Tariff) → HeadReadsBack t.number t.effective → All ReadsBack t.records → IsEdition t.number t.records → edition_of (canonical_text t) ≡ Ok t
unfolding edition_of canonical_rows
edition_reads_back t head each is =
    let plain : list_all is_plain_row (canonical_rows t) ≡ true = rw (head.plain) (records_are_plain t.records each) in
    let valid = no_fault-None (first_fault t.records) is.no_fault in
    let rows : tariff_of (canonical_rows t) ≡ Ok t = rows_read_back t head each in
    rw (rows_of-lines (canonical_rows t) plain, rows, valid) refl

-- two editions with one text are the edition that it is read as
pub one_text : (a b : Tariff) → edition_of (canonical_text a) ≡ Ok a → edition_of (canonical_text b) ≡ Ok b → canonical_text a ≡ canonical_text b → a ≡ b
one_text a b is_a is_b same =
    let read : edition_of (canonical_text b) ≡ Ok a = subst (λ (t : List ℕ). edition_of t ≡ Ok a) same is_a in
    cc (sym is_b ∙ read)
